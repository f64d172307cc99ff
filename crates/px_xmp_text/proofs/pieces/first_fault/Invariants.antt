use Rattle.std.proofs.Common.{length, ◌-◌, ◌≡◌, ◌≤◌, ℕ, drop}
use Rattle.px_xmp_text.specs.Texts.{fault_in, first_fault}
use Rattle.px_xmp_text.proofs.pieces.first_fault.Given as goal

abbrev pub invariant-loop-at : goal.invariant-loop-at
invariant-loop-at l =
    (l.at ≤ length l.octets)
    × ((m : ℕ) × (length l.octets - l.at ≤ m) × (fault_in m l.at l.kind (drop l.at l.octets) ≡ first_fault l.kind l.octets))

abbrev pub decreases-loop-at : goal.decreases-loop-at
decreases-loop-at l = length l.octets - l.at
