use Rattle.std.proofs.Common.{◌≡◌, length}
use Rattle.px_pictures.specs.calls.Runs.{records}
use Rattle.px_pictures.proofs.blocks.next_record.Given as goal

abbrev pub invariant-loop-found : goal.invariant-loop-found
invariant-loop-found l = records l.octets l.left ≡ records l.octets l.initial.left

abbrev pub decreases-loop-found : goal.decreases-loop-found
decreases-loop-found l = length l.left
