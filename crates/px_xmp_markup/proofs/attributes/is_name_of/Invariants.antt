use Rattle.std.proofs.Common.{◌≡◌, drop, map}
use Rattle.px_xmp_marks.specs.Reading.{name_view, attribute_view}
use Rattle.px_xmp_markup.specs.calls.Names.{is_among, names_of}
use Rattle.px_xmp_markup.proofs.attributes.is_name_of.Given as goal

abbrev pub invariant-loop-other : goal.invariant-loop-other
invariant-loop-other l =
    is_among (name_view l.name) (names_of (map attribute_view (drop l.other-index l.attributes)))
    ≡ is_among (name_view l.name) (names_of (map attribute_view l.attributes))
