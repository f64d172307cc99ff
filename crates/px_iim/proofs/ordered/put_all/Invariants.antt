use Rattle.std.proofs.Common.{◌≡◌, ◌≤◌, ◌-◌, ◌++◌, [], List, Some, length, map, drop, option_map}
use Rattle.std.specs.Prelude.{vec_capacity}
use Rattle.px_iim.specs.DataSet.{DataSet}
use Rattle.px_iim.specs.Group.{gather}
use Rattle.px_iim.specs.Record.{normal_iim}
use Rattle.px_iim.specs.calls.View.{dataset_view}
use Rattle.px_iim.specs.Writing.{within}
use Rattle.px_iim.proofs.reading.Steps.{datasets}
use Rattle.px_iim.proofs.ordered.put_all.Given as goal

-- what was read, and what is left, is all; what was read is put and measured
abbrev pub invariant-loop-form_len : goal.invariant-loop-form_len
invariant-loop-form_len l = record {
  inside : l.at ≤ length l.bytes;
  reading : (all : List DataSet) → datasets l.bytes ≡ Some all
      → (option_map (λ (rest : List DataSet). map dataset_view l.items.items ++ rest) (datasets (drop l.at l.bytes)) ≡ Some all)
      × (l.form_len ≡ within (length (normal_iim (gather [] (map dataset_view l.items.items)))));
  capacity : vec_capacity l.items ≡ vec_capacity l.fn.items;
}

abbrev pub decreases-loop-form_len : goal.decreases-loop-form_len
decreases-loop-form_len l = length l.bytes - l.at
