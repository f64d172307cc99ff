use Rattle.std.proofs.Common.{◌≡◌, ◌+◌, ◌++◌, length, take, drop, map}
use Rattle.px_c.specs.Jpeg.{seen_resource}
use Rattle.px_c.proofs.jpeg.store_resources.Given as goal

abbrev pub invariant-loop-resource : goal.invariant-loop-resource
invariant-loop-resource l = record {
  counted : l.n + length l.left ≡ length l.initial.left;
  long : length l.out ≡ length l.initial.out;
  stored : take l.n l.out ++ map seen_resource l.left ≡ map seen_resource l.initial.left;
  after : drop l.n l.out ≡ drop l.n l.initial.out;
}

abbrev pub decreases-loop-resource : goal.decreases-loop-resource
decreases-loop-resource l = length l.left
