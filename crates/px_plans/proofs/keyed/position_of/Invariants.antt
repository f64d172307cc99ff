use Rattle.std.proofs.Common.{◌≤◌, ◌<◌, ◌-◌, ℕ, length, slice_index}
use Rattle.px_plans.specs.calls.Keyed.{keys}
use Rattle.px_plans.proofs.keyed.position_of.Given as goal

abbrev pub invariant-loop-low : goal.invariant-loop-low
invariant-loop-low l = record {
  order : l.low ≤ l.high;
  inside : l.high ≤ length l.list;
  below : (k : ℕ) → k < l.low → slice_index (keys l.list) k < l.key;
  above : (k : ℕ) → l.high ≤ k → k < length l.list → l.key < slice_index (keys l.list) k;
}

abbrev pub decreases-loop-low : goal.decreases-loop-low
decreases-loop-low l = l.high - l.low
