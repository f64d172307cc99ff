use Rattle.px_engine.specs.lemmas.FileLaws as file
use Rattle.px_engine.proofs.laws.taken_decides.Goals as goal

pub returns : goal.returns
returns c = file.taken_decides
