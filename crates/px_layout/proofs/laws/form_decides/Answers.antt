use Rattle.px_layout.specs.lemmas.NormalLaws.{form_decides as counts_all}
use Rattle.px_layout.proofs.laws.form_decides.Goals as goal

pub returns : goal.returns
returns c = counts_all
