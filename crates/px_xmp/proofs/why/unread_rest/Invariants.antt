use Rattle.std.proofs.Common.{length}
use Rattle.px_xmp.proofs.why.unread_rest.Given as goal

abbrev pub decreases-loop-next : goal.decreases-loop-next
decreases-loop-next l = length l.rest
