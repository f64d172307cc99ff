use Rattle.std.proofs.Common.{◌≡◌, length}
use Rattle.px_jpeg.specs.Xmp.{xmp_pieces}
use Rattle.px_jpeg.proofs.packets.next_of_xmp.Given as goal

abbrev pub invariant-loop-piece : goal.invariant-loop-piece
invariant-loop-piece l = xmp_pieces l.left ≡ xmp_pieces l.initial.left

abbrev pub decreases-loop-piece : goal.decreases-loop-piece
decreases-loop-piece l = length l.left
