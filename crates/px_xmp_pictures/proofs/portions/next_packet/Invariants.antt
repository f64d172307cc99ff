use Rattle.std.proofs.Common.{◌≡◌, length}
use Rattle.px_xmp_pictures.specs.Extension.{packets}
use Rattle.px_xmp_pictures.proofs.portions.next_packet.Given as goal

abbrev pub invariant-loop-piece : goal.invariant-loop-piece
invariant-loop-piece l = packets l.left ≡ packets l.initial.left

abbrev pub decreases-loop-piece : goal.decreases-loop-piece
decreases-loop-piece l = length l.left
