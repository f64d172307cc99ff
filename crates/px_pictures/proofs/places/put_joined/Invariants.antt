use Rattle.std.proofs.Common.{◌≡◌, ◌+◌, ◌++◌, length, take, drop}
use Rattle.px_pictures.specs.Metadata.{joined_pieces}
use Rattle.px_pictures.specs.calls.Runs.{joined_octets}
use Rattle.px_pictures.proofs.places.put_joined.Given as goal

abbrev pub invariant-loop-piece : goal.invariant-loop-piece
invariant-loop-piece l = record {
  counted : l.at + length (joined_octets l.bytes l.left) ≡ length (joined_octets l.bytes l.initial.left);
  long : length l.out ≡ length l.initial.out;
  put : take l.at l.out ++ joined_octets l.bytes l.left ≡ joined_octets l.bytes l.initial.left;
  later : drop l.at l.out ≡ drop l.at l.initial.out;
}

abbrev pub decreases-loop-piece : goal.decreases-loop-piece
decreases-loop-piece l = length (joined_pieces l.left)
