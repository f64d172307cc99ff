use Rattle.px_xmp_marks.proofs.DeclarationLaws.{declarations_are_read}
use Rattle.px_xmp_marks.proofs.laws.declarations_are_read.Goals as goal

pub returns : goal.returns
returns c = declarations_are_read
