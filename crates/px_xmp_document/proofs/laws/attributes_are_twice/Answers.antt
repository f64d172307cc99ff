use Rattle.px_xmp_document.proofs.TreeLaws.{attributes_are_twice}
use Rattle.px_xmp_document.proofs.laws.attributes_are_twice.Goals as goal

pub returns : goal.returns
returns c = attributes_are_twice c.row_or_fault.ensures
