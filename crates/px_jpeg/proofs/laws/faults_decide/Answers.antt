use Rattle.px_jpeg.proofs.HeadLaws.{faults_decide}
use Rattle.px_jpeg.proofs.laws.faults_decide.Goals as goal

pub returns : goal.returns
returns c = faults_decide
