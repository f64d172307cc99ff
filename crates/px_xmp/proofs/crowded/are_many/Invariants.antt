use Rattle.std.proofs.Common.{◌≤◌, List, length}
use Rattle.px_xmp_marks.specs.Reading.{Attr}
use Rattle.px_xmp_document.specs.Tags.{attribute_limit}
use Rattle.px_xmp.specs.calls.Listed.{AreListed}
use Rattle.px_xmp.proofs.CrowdedLaws.{LeftOf}
use Rattle.px_xmp.proofs.crowded.are_many.Given as goal

abbrev pub invariant-loop-next : goal.invariant-loop-next
invariant-loop-next l = record {
  left : (attributes : List Attr) → AreListed l.octets attributes → LeftOf attributes l.rest l.left;
  few : l.left ≤ attribute_limit;
}

abbrev pub decreases-loop-next : goal.decreases-loop-next
decreases-loop-next l = length l.rest
