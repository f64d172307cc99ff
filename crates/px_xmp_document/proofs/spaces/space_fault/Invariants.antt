use Rattle.std.proofs.Common.{◌≤◌, ◌-◌, length, drop}
use Rattle.px_xmp_document.proofs.SpaceFaultLaws.{Before}
use Rattle.px_xmp_document.proofs.spaces.space_fault.Given as goal

-- what was read leads to this scope
abbrev pub invariant-loop-at : goal.invariant-loop-at
invariant-loop-at l = record { within : l.at ≤ length l.octets; read : Before l.octets (drop l.at l.octets) l.scope }

abbrev pub decreases-loop-at : goal.decreases-loop-at
decreases-loop-at l = length l.octets - l.at
