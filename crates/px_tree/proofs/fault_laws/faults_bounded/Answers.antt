use Rattle.px_tree.proofs.faulting.Bounded.{faults_bounded}
use Rattle.px_tree.proofs.fault_laws.faults_bounded.Goals as goal

pub returns : goal.returns
returns c = faults_bounded
