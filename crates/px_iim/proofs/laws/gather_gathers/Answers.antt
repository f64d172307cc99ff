use Rattle.px_iim.specs.lemmas.GatherLaws.{gather_gathers}
use Rattle.px_iim.proofs.laws.gather_gathers.Goals as goal

pub returns : goal.returns
returns c = gather_gathers
