use Rattle.std.proofs.Common.{◌≤◌, ◌-◌, length, drop}
use Rattle.px_xmp_markup.proofs.AttributeLaws.{Before}
use Rattle.px_xmp_markup.proofs.attributes.attribute_fault.Given as goal

abbrev pub invariant-loop-at : goal.invariant-loop-at
invariant-loop-at l = record { within : l.at ≤ length l.octets; read : Before l.octets (drop l.at l.octets) }

abbrev pub decreases-loop-at : goal.decreases-loop-at
decreases-loop-at l = length l.octets - l.at
