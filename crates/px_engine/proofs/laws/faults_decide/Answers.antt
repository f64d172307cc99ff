use Rattle.px_engine.specs.lemmas.FileLaws as file
use Rattle.px_engine.proofs.laws.faults_decide.Goals as goal

pub returns : goal.returns
returns c = file.faults_decide c.faults_decide.ensures
