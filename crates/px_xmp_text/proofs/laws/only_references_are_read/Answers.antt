use Rattle.px_xmp_text.proofs.GrammarLaws.{only_references_are_read}
use Rattle.px_xmp_text.proofs.laws.only_references_are_read.Goals as goal

pub returns : goal.returns
returns c = only_references_are_read
