use Rattle.px_xmp.proofs.MeaningLaws.{nodes_mean_once}
use Rattle.px_xmp.proofs.laws.nodes_mean_once.Goals as goal

pub returns : goal.returns
returns c = nodes_mean_once c.packet_is_injective.ensures
