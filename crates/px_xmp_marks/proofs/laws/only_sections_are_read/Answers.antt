use Rattle.px_xmp_marks.proofs.SectionLaws.{only_sections_are_read}
use Rattle.px_xmp_marks.proofs.laws.only_sections_are_read.Goals as goal

pub returns : goal.returns
returns c = only_sections_are_read
