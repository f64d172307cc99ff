use Rattle.px_engine.specs.lemmas.FileLaws as file
use Rattle.px_engine.proofs.laws.form_decides.Goals as goal

pub returns : goal.returns
returns c = file.form_decides c.one_meaning.ensures
