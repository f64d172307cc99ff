use Rattle.px_xmp_marks.proofs.DeclarationLaws.{only_declarations_are_read}
use Rattle.px_xmp_marks.proofs.laws.only_declarations_are_read.Goals as goal

pub returns : goal.returns
returns c = only_declarations_are_read
