use Rattle.std.proofs.Common.{◌≡◌, ◌≤◌, ◌<◌, ◌-◌, ℕ, length, get_or}
use Rattle.px_iim.specs.calls.Runs.{key_of}
use Rattle.px_iim.specs.calls.View.{dataset_view}
use Rattle.px_iim.specs.declared.group.Item.{Item}
use Rattle.px_iim.proofs.walk.run_len.Given as goal

abbrev pub invariant-loop-end : goal.invariant-loop-end
invariant-loop-end l = record {
  some : 1 ≤ l.end;
  within : l.end ≤ length l.items;
  same : (k : ℕ) (d : Item) → k < l.end → key_of (dataset_view (get_or l.items k d)) ≡ key_of (dataset_view (get_or l.items 0 d));
}

abbrev pub decreases-loop-end : goal.decreases-loop-end
decreases-loop-end l = length l.items - l.end
