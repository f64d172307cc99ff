use Rattle.px_xmp_marks.proofs.MarkLaws.{only_marks_are_read}
use Rattle.px_xmp_marks.proofs.laws.only_marks_are_read.Goals as goal

pub returns : goal.returns
returns c = only_marks_are_read
