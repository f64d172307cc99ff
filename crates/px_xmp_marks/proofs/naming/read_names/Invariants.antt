use Rattle.std.proofs.Common.{◌≡◌, ◌≤◌, List, length}
use Rattle.px_xmp_marks.specs.Reading.{Attr}
use Rattle.px_xmp_marks.proofs.NamingLaws.{AreAttributes, NamesLeft}
use Rattle.px_xmp_marks.proofs.naming.read_names.Given as goal

abbrev pub invariant-loop-next : goal.invariant-loop-next
invariant-loop-next l = record {
  within : l.len ≤ length l.names;
  size : length l.names ≡ length l.fn.names;
  left : (attributes : List Attr) → AreAttributes l.octets attributes → NamesLeft l.len l.names l.rest attributes;
}

abbrev pub decreases-loop-next : goal.decreases-loop-next
decreases-loop-next l = length l.rest
