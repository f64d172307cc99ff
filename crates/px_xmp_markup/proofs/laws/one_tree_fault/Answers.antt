use Rattle.px_xmp_markup.proofs.TreeFaultLaws.{one_tree_fault}
use Rattle.px_xmp_markup.proofs.laws.one_tree_fault.Goals as goal

pub returns : goal.returns
returns c = one_tree_fault c.kinds_are_read.ensures
