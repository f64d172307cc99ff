use Rattle.px_pictures.proofs.OneFaultLaws.{one_fault}
use Rattle.px_pictures.proofs.laws.one_fault.Goals as goal

pub returns : goal.returns
returns c = one_fault c.one_head.ensures c.faults_decide.ensures
