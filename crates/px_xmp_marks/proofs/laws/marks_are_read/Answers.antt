use Rattle.px_xmp_marks.proofs.MarkLaws.{marks_are_read}
use Rattle.px_xmp_marks.proofs.laws.marks_are_read.Goals as goal

pub returns : goal.returns
returns c = marks_are_read
