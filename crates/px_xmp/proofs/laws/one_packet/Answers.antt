use Rattle.px_xmp.proofs.AroundLaws as around
use Rattle.px_xmp.proofs.laws.one_packet.Goals as goal

pub returns : goal.returns
returns c = around.one_packet
