use Rattle.px_xmp_marks.proofs.AttributeLaws.{only_attributes_are_read}
use Rattle.px_xmp_marks.proofs.laws.only_attributes_are_read.Goals as goal

pub returns : goal.returns
returns c = only_attributes_are_read
