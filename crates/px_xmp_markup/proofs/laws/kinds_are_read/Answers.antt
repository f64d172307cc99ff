use Rattle.px_xmp_markup.proofs.KindLaws.{kinds_are_read}
use Rattle.px_xmp_markup.proofs.laws.kinds_are_read.Goals as goal

pub returns : goal.returns
returns c = kinds_are_read c.start_tags_are_read.ensures c.end_tags_are_read.ensures c.marks_are_read.ensures
