use Rattle.std.proofs.Common.{ℕ, ◌≤◌, length, map, drop}
use Rattle.px_meaning.specs.Thumbnail.{whole_number, ranges_of}
use Rattle.px_meaning.specs.calls.Strips.{Rise, ranges_in}
use Rattle.px_tree.proofs.rising.rising_span.Given as goal

abbrev pub invariant-loop-i : goal.invariant-loop-i
invariant-loop-i l = record {
  inside : l.end ≤ length l.lists.block.now;
  rise : (high : ℕ) → Rise l.end high
      (ranges_of (drop l.i (map whole_number l.lists.starts.elements)) (drop l.i (map whole_number l.lists.sizes.elements)))
      → Rise l.start high (ranges_in l.lists);
}
