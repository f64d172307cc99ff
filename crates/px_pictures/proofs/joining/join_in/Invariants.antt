use Rattle.std.proofs.Common.{◌≡◌, ◌≤◌, ◌+◌, ◌++◌, length, vec_len, vec_capacity}
use Rattle.px_pictures.specs.Metadata.{sizes, joined_pieces}
use Rattle.px_pictures.specs.calls.Runs.{joined_octets}
use Rattle.px_pictures.proofs.joining.join_in.Given as goal

abbrev pub invariant-loop-piece : goal.invariant-loop-piece
invariant-loop-piece l = record {
  joined : l.octets.items ++ joined_octets l.bytes l.left ≡ joined_octets l.bytes l.initial.left;
  failed_allocations : l.memory.failed_allocations ≡ l.initial.memory.failed_allocations;
  space : vec_len l.octets + sizes (joined_pieces l.left) ≤ vec_capacity l.octets;
  asked : l.memory.asked ≡ l.initial.memory.asked;
}

abbrev pub decreases-loop-piece : goal.decreases-loop-piece
decreases-loop-piece l = length (joined_pieces l.left)
