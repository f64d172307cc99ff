use Rattle.px_xmp_marks.proofs.CommentLaws.{comments_are_read}
use Rattle.px_xmp_marks.proofs.laws.comments_are_read.Goals as goal

pub returns : goal.returns
returns c = comments_are_read
