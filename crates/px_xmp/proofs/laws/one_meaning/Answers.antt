use Rattle.px_xmp.proofs.DocumentLaws.{one_meaning}
use Rattle.px_xmp.proofs.laws.one_meaning.Goals as goal

pub returns : goal.returns
returns c = one_meaning c.declarations_are_read.ensures c.one_reading.ensures c.nodes_mean_once.ensures
