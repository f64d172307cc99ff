use Rattle.px_xmp_markup.proofs.AttributeLaws.{one_attribute_fault}
use Rattle.px_xmp_markup.proofs.laws.one_attribute_fault.Goals as goal

pub returns : goal.returns
returns c = one_attribute_fault c.marks_are_read.ensures
