use Rattle.px_layout.specs.lemmas.LegalLaws.{legal_block_has_meaning as means}
use Rattle.px_layout.proofs.laws.legal_block_has_meaning.Goals as goal

pub returns : goal.returns
returns c = means
