use Rattle.std.proofs.Common.{ℕ, length}
use Rattle.px_xmp.specs.calls.Crowded.{IsInRun}
use Rattle.px_xmp.proofs.crowded.has_long_run.Given as goal

-- if all octets have such an equals sign, what is left has one
abbrev pub invariant-loop-rest : goal.invariant-loop-rest
invariant-loop-rest l = (n : ℕ) → IsInRun 640 l.octets n → (m : ℕ) × IsInRun 640 l.rest m

abbrev pub decreases-loop-rest : goal.decreases-loop-rest
decreases-loop-rest l = length l.rest
