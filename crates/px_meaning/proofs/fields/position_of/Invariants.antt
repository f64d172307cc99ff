use Rattle.std.proofs.Common.{◌≤◌, ◌<◌, ◌-◌, ℕ, length, slice_index}
use Rattle.px_meaning.specs.calls.Places.{tags}
use Rattle.px_meaning.proofs.fields.position_of.Given as goal

abbrev pub invariant-loop-low : goal.invariant-loop-low
invariant-loop-low l = record {
  order : l.low ≤ l.high;
  inside : l.high ≤ length l.list;
  below : (k : ℕ) → k < l.low → slice_index (tags l.list) k < l.tag;
  above : (k : ℕ) → l.high ≤ k → k < length l.list → l.tag < slice_index (tags l.list) k;
}

abbrev pub decreases-loop-low : goal.decreases-loop-low
decreases-loop-low l = l.high - l.low
