use Rattle.px_engine.specs.lemmas.FileLaws as file
use Rattle.px_engine.proofs.laws.meaning_can_be_written.Goals as goal

pub returns : goal.returns
returns c = file.meaning_can_be_written c.meaning_is_writable.ensures
