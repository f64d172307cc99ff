use Rattle.std.proofs.Common.{◌≡◌, ◌≤◌, true, length, drop, map}
use Rattle.px_xmp_marks.specs.Reading.{attribute_view}
use Rattle.px_xmp_marks.specs.Locals.{HaveKeys, are_locals_distinct}
use Rattle.px_xmp_marks.proofs.locals.are_told_apart.Given as goal

abbrev pub invariant-loop-n : goal.invariant-loop-n
invariant-loop-n l = record {
  within : l.n ≤ length l.attributes;
  size : length l.seen ≡ 256;
  keys : HaveKeys l.seen (map attribute_view (drop l.n l.attributes));
  distinct : are_locals_distinct (map attribute_view (drop l.n l.attributes)) ≡ true;
}

abbrev pub decreases-loop-n : goal.decreases-loop-n
decreases-loop-n l = l.n
