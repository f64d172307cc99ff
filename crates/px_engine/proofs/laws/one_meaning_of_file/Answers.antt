use Rattle.px_engine.specs.lemmas.FileLaws as file
use Rattle.px_engine.proofs.laws.one_meaning_of_file.Goals as goal

pub returns : goal.returns
returns c = file.one_meaning_of_file c.one_meaning.ensures
