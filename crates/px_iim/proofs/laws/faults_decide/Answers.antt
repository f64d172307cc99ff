use Rattle.px_iim.specs.lemmas.FaultLaws.{faults_decide}
use Rattle.px_iim.proofs.laws.faults_decide.Goals as goal

pub returns : goal.returns
returns c = faults_decide
