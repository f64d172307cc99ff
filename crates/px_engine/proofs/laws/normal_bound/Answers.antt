use Rattle.px_engine.specs.lemmas.FileLaws as file
use Rattle.px_engine.proofs.laws.normal_bound.Goals as goal

pub returns : goal.returns
returns c = file.normal_bound c.meaning_is_writable.ensures
