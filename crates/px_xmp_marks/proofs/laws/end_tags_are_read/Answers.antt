use Rattle.px_xmp_marks.proofs.TagLaws.{end_tags_are_read}
use Rattle.px_xmp_marks.proofs.laws.end_tags_are_read.Goals as goal

pub returns : goal.returns
returns c = end_tags_are_read
