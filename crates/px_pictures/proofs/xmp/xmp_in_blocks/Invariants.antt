use Rattle.std.proofs.Common.{◌≡◌, length}
use Rattle.px_pictures.specs.Xmp.{xmp_in_blocks}
use Rattle.px_pictures.proofs.xmp.xmp_in_blocks.Given as goal

abbrev pub invariant-loop-place : goal.invariant-loop-place
invariant-loop-place l = xmp_in_blocks l.picture l.all l.left ≡ xmp_in_blocks l.picture l.all l.initial.left

abbrev pub decreases-loop-place : goal.decreases-loop-place
decreases-loop-place l = length l.left
