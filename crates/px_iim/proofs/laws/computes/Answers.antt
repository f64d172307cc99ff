use Rattle.px_iim.specs.lemmas.RecordLaws.{iim_of_computes}
use Rattle.px_iim.proofs.laws.computes.Goals as goal

pub returns : goal.returns
returns c = iim_of_computes
