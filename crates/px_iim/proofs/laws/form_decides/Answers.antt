use Rattle.px_iim.specs.lemmas.NormalLaws.{form_decides}
use Rattle.px_iim.proofs.laws.form_decides.Goals as goal

pub returns : goal.returns
returns c = form_decides
