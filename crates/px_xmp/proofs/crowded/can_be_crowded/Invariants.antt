use Rattle.std.proofs.Common.{◌≤◌, ◌+◌, ◌-◌, ℕ, length}
use Rattle.px_xmp.specs.Limits.{IsCrowded}
use Rattle.px_xmp.proofs.crowded.can_be_crowded.Given as goal

-- no such tag was passed
abbrev pub invariant-loop-at : goal.invariant-loop-at
invariant-loop-at l = record { within : l.at ≤ length l.octets + 1; before : (n : ℕ) → IsCrowded l.octets n → l.at ≤ n + 1 }

abbrev pub decreases-loop-at : goal.decreases-loop-at
decreases-loop-at l = length l.octets + 1 - l.at
