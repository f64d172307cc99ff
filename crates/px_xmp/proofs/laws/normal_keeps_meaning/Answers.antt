use Rattle.px_xmp.proofs.AcceptedLaws.{normal_keeps_meaning}
use Rattle.px_xmp.proofs.laws.normal_keeps_meaning.Goals as goal

pub returns : goal.returns
returns c = normal_keeps_meaning c.meanings_are_readable.ensures c.normal_is_file.ensures c.normal_says.ensures
