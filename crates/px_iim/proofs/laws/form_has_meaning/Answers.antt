use Rattle.px_iim.specs.lemmas.NormalLaws.{form_has_meaning}
use Rattle.px_iim.proofs.laws.form_has_meaning.Goals as goal

pub returns : goal.returns
returns c = form_has_meaning
