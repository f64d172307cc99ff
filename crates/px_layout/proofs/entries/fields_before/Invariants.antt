use Rattle.std.proofs.Common.{◌≤◌, ◌-◌, length}
use Rattle.px_layout.specs.calls.Items.{rank}
use Rattle.px_layout.proofs.entries.fields_before.Given as goal

-- those below `low` have no greater tag, and all from `high` on have one
abbrev pub invariant-loop-low : goal.invariant-loop-low
invariant-loop-low l = record {
  order : l.low ≤ l.high;
  inside : l.high ≤ length l.fields;
  least : l.low ≤ rank l.tag l.fields;
  most : rank l.tag l.fields ≤ l.high;
}

abbrev pub decreases-loop-low : goal.decreases-loop-low
decreases-loop-low l = l.high - l.low
