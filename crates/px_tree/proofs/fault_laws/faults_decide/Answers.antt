use Rattle.px_tree.proofs.assembling.Judged.{meaning_or_fault}
use Rattle.px_tree.proofs.faulting.ReportedAll.{first_is_fault}
use Rattle.px_tree.proofs.faulting.NoMeaning.{fault_excludes_meaning}
use Rattle.px_tree.proofs.fault_laws.faults_decide.Goals as goal

pub returns : goal.returns
returns c = (first_is_fault, fault_excludes_meaning, meaning_or_fault)
