use Rattle.std.proofs.Common.{◌≡◌, drop, map}
use Rattle.px_xmp_marks.specs.Reading.{attribute_view}
use Rattle.px_xmp_markup.specs.calls.Names.{has_twice, names_of}
use Rattle.px_xmp_markup.proofs.attributes.have_repeated.Given as goal

abbrev pub invariant-loop-n : goal.invariant-loop-n
invariant-loop-n l =
    has_twice (names_of (map attribute_view (drop l.n l.attributes))) ≡ has_twice (names_of (map attribute_view l.attributes))
