use Rattle.std.proofs.Common.{◌≡◌, ◌≤◌, ◌+◌, ◌-◌, ◌*◌, ◌++◌, List, filter_map, length, true, vec_len, vec_capacity}
use Rattle.px_bytes.specs.Range.{Range, Agrees}
use Rattle.px_meaning.specs.Entry.{field, Rising}
use Rattle.px_meaning.specs.calls.Places.{tags}
use Rattle.px_tree.specs.calls.Paying.{paid, ClaimsBelow}
use Rattle.px_tree.specs.calls.Reading.{Precede, entries_from}
use Rattle.px_tree.proofs.reading.KeptUses.{UsesSoFar}
use Rattle.px_tree.proofs.reading.Loop.{SoFar}
use Rattle.px_tree.proofs.field_reading.read_entries.Given as goal

abbrev pub invariant-loop : goal.invariant-loop
invariant-loop l = record {
  place : l.at ≡ l.start + 12 * l.counter;
  rising : Rising (tags l.list.items);
  precede : Precede l.before l.list.items;
  len : vec_len l.list ≤ l.counter;
  capacity : l.source.keeps_fields ≡ true → l.count ≤ vec_capacity l.list;
  fields : l.source.keeps_fields ≡ true → l.list.items ++ filter_map (field l.source.block.now l.source.order l.source.dir)
      (entries_from l.source.block.now l.source.order l.at (l.count - l.counter))
      ≡ filter_map (field l.source.block.now l.source.order l.source.dir)
      (entries_from l.source.block.now l.source.order l.start l.count);
  judged : (taken : List Range) → Agrees taken l.initial.claimed.ranges
      → SoFar l.source.block.now l.source.order l.source.dir taken
      (entries_from l.source.block.now l.source.order l.start l.count) l.start l.claimed.ranges l.at l.before (l.count - l.counter);
  uses : UsesSoFar l.source.block.now l.source.order l.start l.count l.uses l.at l.before (l.count - l.counter);
  memory : l.memory.failed_allocations ≡ l.initial.memory.failed_allocations;
  asked : l.memory.asked + paid l.initial.claimed ≤ l.initial.memory.asked + paid l.claimed;
  below : ClaimsBelow (length l.source.block.now) l.initial.claimed l.claimed;
  wide : l.initial.claimed.capacity ≤ l.claimed.capacity;
}
