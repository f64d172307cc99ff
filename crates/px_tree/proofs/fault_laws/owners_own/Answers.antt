use Rattle.px_tree.proofs.assembling.Owned as owned
use Rattle.px_tree.proofs.fault_laws.owners_own.Goals as goal

pub returns : goal.returns
returns c = owned.owners_own
