use Rattle.std.proofs.Common.{◌≡◌, ◌≤◌, ◌+◌, ◌*◌, drop}
use Rattle.px_plans.specs.calls.Building.{PutsOver, value_pieces, pieces_size}
use Rattle.px_plans.proofs.building.lay_values.Given as goal

-- the values of the entries from i on are in the block, and no allocation failed; what was asked for to make them
abbrev pub invariant-loop-i : goal.invariant-loop-i
invariant-loop-i l = record {
  bytes : PutsOver l.initial.block l.block (value_pieces l.layout l.dir (drop l.i l.entries));
  memory : l.memory.failed_allocations ≡ l.initial.memory.failed_allocations;
  paid : l.memory.asked ≤ l.initial.memory.asked + 6 * pieces_size (value_pieces l.layout l.dir (drop l.i l.entries));
}
