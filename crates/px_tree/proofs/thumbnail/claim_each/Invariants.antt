use Rattle.std.proofs.Common.{◌≡◌, ◌≤◌, ◌+◌, List, length, map, drop}
use Rattle.std.specs.List.{AllByRecursion}
use Rattle.px_bytes.specs.Range.{Range, Agrees}
use Rattle.px_meaning.specs.Thumbnail.{whole_number, ranges_of, IsInside}
use Rattle.px_meaning.specs.calls.Strips.{ranges_in}
use Rattle.px_tree.specs.calls.Paying.{paid, ClaimsBelow}
use Rattle.px_tree.proofs.reading.StripRanges.{RangesSoFar}
use Rattle.px_tree.proofs.thumbnail.claim_each.Given as goal

abbrev pub invariant-loop-i : goal.invariant-loop-i
invariant-loop-i l = record {
  judged : (taken : List Range) → Agrees taken l.initial.claimed.ranges
      → RangesSoFar l.lists.block.now l.place taken (ranges_in l.lists) l.claimed.ranges
      (ranges_of (drop l.i (map whole_number l.lists.starts.elements)) (drop l.i (map whole_number l.lists.sizes.elements)));
  inside : AllByRecursion (IsInside l.lists.block.now)
      (ranges_of (drop l.i (map whole_number l.lists.starts.elements)) (drop l.i (map whole_number l.lists.sizes.elements)))
      → AllByRecursion (IsInside l.lists.block.now) (ranges_in l.lists);
  memory : l.memory.failed_allocations ≡ l.initial.memory.failed_allocations;
  asked : l.memory.asked + paid l.initial.claimed ≤ l.initial.memory.asked + paid l.claimed;
  below : ClaimsBelow (length l.lists.block.now) l.initial.claimed l.claimed;
  capacity : l.initial.claimed.capacity ≤ l.claimed.capacity;
}
