use Rattle.px_meaning.specs.lemmas.Filled.{meaning_is_writable as meaning}
use Rattle.px_meaning.proofs.laws.meaning_is_writable.Goals as goal

pub returns : goal.returns
returns c = meaning
