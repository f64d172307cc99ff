use Rattle.std.proofs.Common.{◌≡◌, length}
use Rattle.px_pictures.specs.Xmp.{xmp_segment}
use Rattle.px_pictures.proofs.xmp.xmp_segment.Given as goal

abbrev pub invariant-loop-found : goal.invariant-loop-found
invariant-loop-found l = xmp_segment l.bytes l.left ≡ xmp_segment l.bytes l.initial.left

abbrev pub decreases-loop-found : goal.decreases-loop-found
decreases-loop-found l = length l.left
