use Rattle.px_xmp_text.proofs.TextLaws.{normal_is_injective}
use Rattle.px_xmp_text.proofs.laws.normal_is_injective.Goals as goal

pub returns : goal.returns
returns c = normal_is_injective
