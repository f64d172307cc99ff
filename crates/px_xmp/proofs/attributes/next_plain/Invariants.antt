use Rattle.std.proofs.Common.{◌≤◌, List, length}
use Rattle.px_xmp_marks.specs.Reading.{Attr}
use Rattle.px_xmp.specs.calls.Listed.{AreListed, ArePlain}
use Rattle.px_xmp.proofs.attributes.next_plain.Given as goal

-- what was read declares something
abbrev pub invariant-loop-next : goal.invariant-loop-next
invariant-loop-next l = record {
  within : length l.rest ≤ length l.octets;
  left : (attributes : List Attr) → AreListed l.octets attributes → ArePlain l.rest attributes;
}

abbrev pub decreases-loop-next : goal.decreases-loop-next
decreases-loop-next l = length l.rest
