use Rattle.px_xmp_marks.proofs.AttributeLaws.{attributes_are_read}
use Rattle.px_xmp_marks.proofs.laws.attributes_are_read.Goals as goal

pub returns : goal.returns
returns c = attributes_are_read
