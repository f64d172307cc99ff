use Rattle.std.proofs.Common.{◌≤◌, ◌+◌, ◌-◌, length, drop}
use Rattle.px_xmp.specs.calls.Crowded.{equals_signs}
use Rattle.px_xmp.proofs.crowded.has_many_equals.Given as goal

abbrev pub invariant-loop-at : goal.invariant-loop-at
invariant-loop-at l =
    record { within : l.at ≤ length l.octets + 1; count : equals_signs l.octets + l.left ≤ 256 + equals_signs (drop l.at l.octets) }

abbrev pub decreases-loop-at : goal.decreases-loop-at
decreases-loop-at l = length l.octets + 1 - l.at
