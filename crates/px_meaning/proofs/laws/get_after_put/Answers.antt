use Rattle.px_meaning.proofs.writable.FieldLemmas as lemmas
use Rattle.px_meaning.proofs.laws.get_after_put.Goals as goal

pub returns : goal.returns
returns c = lemmas.get_after_put
