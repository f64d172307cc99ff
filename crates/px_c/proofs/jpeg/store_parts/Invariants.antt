use Rattle.std.proofs.Common.{◌≡◌, ◌+◌, ◌++◌, length, take, drop, map}
use Rattle.px_c.specs.Jpeg.{seen_part}
use Rattle.px_c.proofs.jpeg.store_parts.Given as goal

abbrev pub invariant-loop-part : goal.invariant-loop-part
invariant-loop-part l = record {
  counted : l.n + length l.left ≡ length l.initial.left;
  long : length l.out ≡ length l.initial.out;
  stored : take l.n l.out ++ map seen_part l.left ≡ map seen_part l.initial.left;
  after : drop l.n l.out ≡ drop l.n l.initial.out;
}

abbrev pub decreases-loop-part : goal.decreases-loop-part
decreases-loop-part l = length l.left
