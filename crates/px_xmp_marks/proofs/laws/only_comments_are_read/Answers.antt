use Rattle.px_xmp_marks.proofs.CommentLaws.{only_comments_are_read}
use Rattle.px_xmp_marks.proofs.laws.only_comments_are_read.Goals as goal

pub returns : goal.returns
returns c = only_comments_are_read
