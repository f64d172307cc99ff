use Rattle.std.proofs.Common.{◌≤◌, ◌-◌, ℕ, length, drop}
use Rattle.px_xmp.specs.Limits.{IsCrowded}
use Rattle.px_xmp.proofs.CrowdedLaws.{Row}
use Rattle.px_xmp.proofs.crowded.first_crowded.Given as goal

-- what was read are marks in a row, and such a tag is ahead, after marks in a row
abbrev pub invariant-loop-at : goal.invariant-loop-at
invariant-loop-at l = record {
  within : l.at ≤ length l.octets;
  read : Row l.octets (drop l.at l.octets);
  ahead : (n : ℕ) → IsCrowded l.octets n → (l.at ≤ n) × Row (drop l.at l.octets) (drop n l.octets);
}

abbrev pub decreases-loop-at : goal.decreases-loop-at
decreases-loop-at l = length l.octets - l.at
