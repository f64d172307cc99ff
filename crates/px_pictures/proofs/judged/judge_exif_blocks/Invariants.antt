use Rattle.std.proofs.Common.{◌≡◌, ◌≤◌, ◌+◌, ℕ, length}
use Rattle.px_bytes.specs.declared.Cause.{Cause}
use Rattle.px_tree.specs.Refused.{IsFaultyExif}
use Rattle.px_pictures.specs.Asking.{exif_requests}
use Rattle.px_pictures.specs.Faults.{AllExif, FaultAt}
use Rattle.px_pictures.proofs.judged.judge_exif_blocks.Given as goal

abbrev pub invariant-loop-block : goal.invariant-loop-block
invariant-loop-block l = record {
  meaning : AllExif l.left → AllExif l.initial.left;
  fault : (n : ℕ) (c : Cause) (p : ℕ) → FaultAt AllExif IsFaultyExif l.left n c p → FaultAt AllExif IsFaultyExif l.initial.left (l.number + n) c p;
  few : l.number + length l.left ≡ length l.initial.left;
  failed_allocations : l.memory.failed_allocations ≡ l.initial.memory.failed_allocations;
  asked : l.memory.asked + exif_requests l.left ≤ l.initial.memory.asked + exif_requests l.initial.left;
}

abbrev pub decreases-loop-block : goal.decreases-loop-block
decreases-loop-block l = length l.left
