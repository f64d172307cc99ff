use Rattle.px_xmp_document.proofs.WalkLaws.{no_start_tag, no_end_tag}
use Rattle.px_xmp_document.proofs.walk.begins_markup.Goals as goal

pub returns-clause-start : goal.returns-clause-start
returns-clause-start c = λ h. no_start_tag c.args.octets.now c.requires h

pub returns-clause-end : goal.returns-clause-end
returns-clause-end c = λ h. no_end_tag c.args.octets.now c.requires h
