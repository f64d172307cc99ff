use Rattle.px_layout.specs.lemmas.NormalLaws.{normal_is_laid as laid}
use Rattle.px_layout.proofs.laws.normal_is_laid.Goals as goal

pub returns : goal.returns
returns c = laid
