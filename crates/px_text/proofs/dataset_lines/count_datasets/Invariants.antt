use Rattle.std.proofs.Common.{◌≡◌, ◌≤◌, ◌+◌, ◌*◌, ◌^◌, length}
use Rattle.px_iim.specs.Asking.{dataset_count}
use Rattle.px_text.proofs.dataset_lines.count_datasets.Given as goal

-- the DataSets of the groups that are left make the rest of the count
abbrev pub invariant-loop-items : goal.invariant-loop-items
invariant-loop-items l = record {
  count : l.count + dataset_count l.items-iterator ≡ dataset_count l.iim;
  bound : l.count + length l.items-iterator * 2 ^ 64 ≤ length l.iim * 2 ^ 64;
}
