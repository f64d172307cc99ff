use Rattle.px_xmp_marks.proofs.TagLaws.{only_start_tags_are_read}
use Rattle.px_xmp_marks.proofs.laws.only_start_tags_are_read.Goals as goal

pub returns : goal.returns
returns c = only_start_tags_are_read
