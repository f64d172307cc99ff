use Rattle.std.proofs.Common.{length}
use Rattle.px_xmp.proofs.showing.after_bag.Given as goal

abbrev pub decreases-loop-rest : goal.decreases-loop-rest
decreases-loop-rest l = length l.rest
