use Rattle.px_engine.specs.lemmas.FileLaws as file
use Rattle.px_engine.proofs.laws.normal_is_its_own.Goals as goal

pub returns : goal.returns
returns c = file.normal_is_its_own c.one_meaning.ensures
