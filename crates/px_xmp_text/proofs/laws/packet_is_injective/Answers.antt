use Rattle.px_xmp_text.proofs.ValueLaws.{packet_is_injective}
use Rattle.px_xmp_text.proofs.laws.packet_is_injective.Goals as goal

pub returns : goal.returns
returns c = packet_is_injective
