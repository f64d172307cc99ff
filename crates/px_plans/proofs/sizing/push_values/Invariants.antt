use Rattle.std.proofs.Common.{◌≡◌, ◌≤◌, ◌+◌, ◌++◌, length, drop, filter_map}
use Rattle.px_layout.specs.Chunks.{placed_chunk}
use Rattle.px_plans.specs.Asking.{chunks_request}
use Rattle.px_plans.specs.calls.AskedAndPaid.{asked_and_paid}
use Rattle.px_plans.proofs.sizing.push_values.Given as goal

-- the chunks so far and then those of the entries left; no allocation failed; what the chunks so far have paid for
abbrev pub invariant-loop-i : goal.invariant-loop-i
invariant-loop-i l = record {
  chunks : l.out.items ++ filter_map (placed_chunk l.dir) (drop l.i l.entries) ≡ l.initial.out.items ++ filter_map
      (placed_chunk l.dir) l.entries;
  memory : l.memory.failed_allocations ≡ l.initial.memory.failed_allocations;
  paid : asked_and_paid 16 l.memory l.out + chunks_request (length (filter_map (placed_chunk l.dir) (drop l.i l.entries)))
      ≤ asked_and_paid 16 l.initial.memory l.initial.out + chunks_request (length (filter_map (placed_chunk l.dir) l.entries));
}
