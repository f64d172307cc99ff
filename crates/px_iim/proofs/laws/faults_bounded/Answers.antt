use Rattle.px_iim.specs.lemmas.FaultLaws.{faults_bounded}
use Rattle.px_iim.proofs.laws.faults_bounded.Goals as goal

pub returns : goal.returns
returns c = faults_bounded
