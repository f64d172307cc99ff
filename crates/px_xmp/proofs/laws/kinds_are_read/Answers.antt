use Rattle.px_xmp.proofs.MarkLaws.{kinds_are_read}
use Rattle.px_xmp.proofs.laws.kinds_are_read.Goals as goal

pub returns : goal.returns
returns c =
    kinds_are_read c.marks_are_read.ensures c.start_tags_are_read.ensures c.end_tags_are_read.ensures c.sections_are_read.ensures
    c.comments_are_read.ensures c.instructions_are_read.ensures
