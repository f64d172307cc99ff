use Rattle.px_xmp_document.proofs.DocumentLaws.{one_fault}
use Rattle.px_xmp_document.proofs.laws.one_fault.Goals as goal

pub returns : goal.returns
returns c = one_fault c.characters_or_fault.ensures c.declarations_are_read.ensures c.elements_have_one_fault.ensures
