use Rattle.std.proofs.Common.{◌≡◌, ◌≤◌, ◌+◌, ◌++◌, length, take, map, vec_len, vec_capacity}
use Rattle.std.specs.List.{flat_map}
use Rattle.px_iim.specs.Record.{normal_dataset}
use Rattle.px_iim.specs.calls.View.{item_view}
use Rattle.px_iim.proofs.write.append_group.Given as goal

abbrev pub invariant-loop-item : goal.invariant-loop-item
invariant-loop-item l = record {
  grown : l.out.items ≡ l.initial.out.items ++ flat_map (normal_dataset l.rec) (take l.item-index (map item_view l.items));
  memory : l.memory.failed_allocations ≡ l.initial.memory.failed_allocations;
  asked : l.memory.asked ≡ l.initial.memory.asked;
  space : vec_len l.out + vec_capacity l.initial.out ≤ vec_len l.initial.out + vec_capacity l.out
      + length (flat_map (normal_dataset l.rec) (take l.item-index (map item_view l.items)));
}
