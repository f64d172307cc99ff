use Rattle.px_xmp_document.proofs.ElementLaws.{one_element_fault}
use Rattle.px_xmp_document.proofs.laws.elements_have_one_fault.Goals as goal

pub returns : goal.returns
returns c = one_element_fault c.one_tree_fault.ensures c.one_attribute_fault.ensures c.one_space_fault.ensures
