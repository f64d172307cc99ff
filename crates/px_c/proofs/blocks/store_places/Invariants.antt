use Rattle.std.proofs.Common.{◌≡◌, ◌+◌, ◌++◌, length, take, drop, map}
use Rattle.px_c.specs.Blocks.{seen_place}
use Rattle.px_c.proofs.blocks.store_places.Given as goal

abbrev pub invariant-loop-place : goal.invariant-loop-place
invariant-loop-place l = record {
  counted : l.n + length l.left ≡ length l.initial.left;
  long : length l.out ≡ length l.initial.out;
  stored : take l.n l.out ++ map seen_place l.left ≡ map seen_place l.initial.left;
  after : drop l.n l.out ≡ drop l.n l.initial.out;
}

abbrev pub decreases-loop-place : goal.decreases-loop-place
decreases-loop-place l = length l.left
