use Rattle.px_iim.specs.lemmas.BoundLaws.{normal_bound}
use Rattle.px_iim.proofs.laws.normal_bound.Goals as goal

pub returns : goal.returns
returns c = normal_bound
