use Rattle.px_pictures.proofs.EitherLaws.{metadata_or_fault}
use Rattle.px_pictures.proofs.laws.metadata_or_fault.Goals as goal

pub returns : goal.returns
returns c = metadata_or_fault c.faults_decide.ensures c.faults_bounded.ensures c.args.first.now c.args.second.now c.head_or_fault.ensures
    c.head_or_fault-2.ensures
