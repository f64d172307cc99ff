use Rattle.px_xmp_marks.proofs.TagLaws.{start_tags_are_read}
use Rattle.px_xmp_marks.proofs.laws.start_tags_are_read.Goals as goal

pub returns : goal.returns
returns c = start_tags_are_read
