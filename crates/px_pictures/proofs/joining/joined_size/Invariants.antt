use Rattle.std.proofs.Common.{◌≡◌, ◌≤◌, ◌+◌, length}
use Rattle.px_pictures.specs.Metadata.{sizes, joined_pieces, most_joined}
use Rattle.px_pictures.proofs.joining.joined_size.Given as goal

abbrev pub invariant-loop-piece : goal.invariant-loop-piece
invariant-loop-piece l = record {
  all : l.size + sizes (joined_pieces l.left) ≡ sizes (joined_pieces l.initial.left);
  fits : l.size ≤ most_joined;
}

abbrev pub decreases-loop-piece : goal.decreases-loop-piece
decreases-loop-piece l = length (joined_pieces l.left)
