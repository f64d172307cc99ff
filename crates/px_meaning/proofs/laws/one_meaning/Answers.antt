use Rattle.px_meaning.specs.lemmas.MeaningLaws.{one_meaning}
use Rattle.px_meaning.proofs.laws.one_meaning.Goals as goal

pub returns : goal.returns
returns c = one_meaning
