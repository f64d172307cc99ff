use Rattle.px_layout.specs.lemmas.BoundLaws.{normal_bound as bound}
use Rattle.px_layout.proofs.laws.normal_bound.Goals as goal

pub returns : goal.returns
returns c = bound c.meaning_is_writable.ensures
