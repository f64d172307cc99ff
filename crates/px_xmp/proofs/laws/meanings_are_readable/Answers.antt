use Rattle.px_xmp.proofs.AcceptedLaws.{meanings_are_readable}
use Rattle.px_xmp.proofs.laws.meanings_are_readable.Goals as goal

pub returns : goal.returns
returns c = meanings_are_readable c.only_references_are_read.ensures c.declarations_are_read.ensures c.kinds_are_read.ensures
