use Rattle.std.proofs.Common.{◌≡◌, drop, map}
use Rattle.px_xmp_marks.specs.Reading.{attribute_view}
use Rattle.px_xmp_document.specs.Bindings.{with_attributes}
use Rattle.px_xmp_document.proofs.scopes.Scope.declare_each.Given as goal

abbrev pub invariant-loop-attribute : goal.invariant-loop-attribute
invariant-loop-attribute l =
    with_attributes (map attribute_view (drop l.attribute-index l.attributes)) l.self
    ≡ with_attributes (map attribute_view l.attributes) l.fn.self
