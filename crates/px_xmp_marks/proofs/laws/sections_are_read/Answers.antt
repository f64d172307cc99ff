use Rattle.px_xmp_marks.proofs.SectionLaws.{sections_are_read}
use Rattle.px_xmp_marks.proofs.laws.sections_are_read.Goals as goal

pub returns : goal.returns
returns c = sections_are_read
