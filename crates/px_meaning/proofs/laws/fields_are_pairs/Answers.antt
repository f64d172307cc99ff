use Rattle.px_meaning.proofs.writable.FieldPairs.{fields_are_pairs as pairs}
use Rattle.px_meaning.proofs.laws.fields_are_pairs.Goals as goal

pub returns : goal.returns
returns c = pairs
