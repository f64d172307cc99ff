use Rattle.px_xmp_markup.proofs.KindLaws.{only_kinds_are_read}
use Rattle.px_xmp_markup.proofs.laws.only_kinds_are_read.Goals as goal

pub returns : goal.returns
returns c =
    only_kinds_are_read c.start_tags_are_read.ensures c.end_tags_are_read.ensures c.only_start_tags_are_read.ensures
    c.only_end_tags_are_read.ensures c.only_marks_are_read.ensures
