use Rattle.px_xmp_document.proofs.SpaceFaultLaws.{one_space_fault}
use Rattle.px_xmp_document.proofs.laws.one_space_fault.Goals as goal

pub returns : goal.returns
returns c = one_space_fault c.marks_are_read.ensures c.start_tags_are_read.ensures
