use Rattle.std.proofs.Common.{◌≡◌, drop, map}
use Rattle.px_xmp_marks.specs.Reading.{attribute_view}
use Rattle.px_xmp_marks.specs.Locals.{is_local_of}
use Rattle.px_xmp_marks.proofs.locals.is_local_of.Given as goal

abbrev pub invariant-loop-attribute : goal.invariant-loop-attribute
invariant-loop-attribute l =
    is_local_of l.local (map attribute_view (drop l.attribute-index l.attributes)) ≡ is_local_of l.local (map attribute_view l.attributes)
