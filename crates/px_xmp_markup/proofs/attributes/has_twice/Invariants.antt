use Rattle.std.proofs.Common.{◌≡◌, drop, map}
use Rattle.px_xmp_marks.specs.Reading.{name_view}
use Rattle.px_xmp_markup.specs.calls.Names.{has_twice}
use Rattle.px_xmp_markup.proofs.attributes.has_twice.Given as goal

abbrev pub invariant-loop-n : goal.invariant-loop-n
invariant-loop-n l = has_twice (map name_view (drop l.n l.names)) ≡ has_twice (map name_view l.names)
