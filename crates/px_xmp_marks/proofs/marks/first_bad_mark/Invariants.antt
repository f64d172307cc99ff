use Rattle.std.proofs.Common.{◌≤◌, ◌-◌, List, ℕ, length, drop}
use Rattle.px_xmp_marks.specs.Marks.{AreMarks}
use Rattle.px_xmp_marks.proofs.marks.first_bad_mark.Given as goal

-- what was read are marks in a row
abbrev pub invariant-loop-at : goal.invariant-loop-at
invariant-loop-at l = record {
  within : l.at ≤ length l.octets;
  read : (ms : List (List ℕ)) × AreMarks ms l.octets (drop l.at l.octets);
}

abbrev pub decreases-loop-at : goal.decreases-loop-at
decreases-loop-at l = length l.octets - l.at
