use Rattle.px_xmp_text.proofs.GrammarLaws.{references_are_read}
use Rattle.px_xmp_text.proofs.laws.references_are_read.Goals as goal

pub returns : goal.returns
returns c = references_are_read
