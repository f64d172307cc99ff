use Rattle.std.proofs.Common.{◌≡◌, length}
use Rattle.px_pictures.specs.Metadata.{joined_pieces}
use Rattle.px_pictures.proofs.joining.next_joined.Given as goal

abbrev pub invariant-loop-piece : goal.invariant-loop-piece
invariant-loop-piece l = joined_pieces l.left ≡ joined_pieces l.initial.left

abbrev pub decreases-loop-piece : goal.decreases-loop-piece
decreases-loop-piece l = length l.left
