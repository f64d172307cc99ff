use Rattle.std.proofs.Common.{◌≡◌, ◌+◌, length}
use Rattle.px_pictures.specs.Metadata.{joined_pieces}
use Rattle.px_pictures.specs.calls.Runs.{joined_octets}
use Rattle.px_pictures.proofs.places.joined_len.Given as goal

abbrev pub invariant-loop-piece : goal.invariant-loop-piece
invariant-loop-piece l =
    l.len + length (joined_octets l.bytes l.left) ≡ length (joined_octets l.bytes l.initial.left)

abbrev pub decreases-loop-piece : goal.decreases-loop-piece
decreases-loop-piece l = length (joined_pieces l.left)
