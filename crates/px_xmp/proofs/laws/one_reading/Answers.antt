use Rattle.px_xmp.proofs.NodeLaws.{one_reading}
use Rattle.px_xmp.proofs.laws.one_reading.Goals as goal

pub returns : goal.returns
returns c = one_reading c.kinds_are_read.ensures
