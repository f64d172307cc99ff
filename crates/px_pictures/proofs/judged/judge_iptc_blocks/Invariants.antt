use Rattle.std.proofs.Common.{◌≡◌, ◌+◌, ℕ, length}
use Rattle.px_bytes.specs.declared.Cause.{Cause}
use Rattle.px_pictures.specs.Faults.{AllIptc, FaultAt, IsFaultyIptc}
use Rattle.px_pictures.proofs.judged.judge_iptc_blocks.Given as goal

abbrev pub invariant-loop-block : goal.invariant-loop-block
invariant-loop-block l = record {
  meaning : AllIptc l.left → AllIptc l.initial.left;
  fault : (n : ℕ) (c : Cause) (p : ℕ) → FaultAt AllIptc IsFaultyIptc l.left n c p
      → FaultAt AllIptc IsFaultyIptc l.initial.left (l.number + n) c p;
  few : l.number + length l.left ≡ length l.initial.left;
}

abbrev pub decreases-loop-block : goal.decreases-loop-block
decreases-loop-block l = length l.left
