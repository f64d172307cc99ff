use Rattle.px_xmp.proofs.TreeLaws as trees
use Rattle.px_xmp.proofs.laws.files_have_nodes.Goals as goal

pub returns : goal.returns
returns c = trees.files_have_nodes c.fault_or_text.ensures
