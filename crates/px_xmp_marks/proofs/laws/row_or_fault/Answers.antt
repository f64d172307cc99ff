use Rattle.px_xmp_marks.proofs.MarkLaws.{row_or_fault}
use Rattle.px_xmp_marks.proofs.laws.row_or_fault.Goals as goal

pub returns : goal.returns
returns c = row_or_fault
