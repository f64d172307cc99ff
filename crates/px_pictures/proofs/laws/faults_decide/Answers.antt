use Rattle.px_pictures.proofs.MetadataLaws.{faults_decide}
use Rattle.px_pictures.proofs.laws.faults_decide.Goals as goal

pub returns : goal.returns
returns c = faults_decide c.one_head.ensures c.faults_decide.ensures
