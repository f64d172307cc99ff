use Rattle.std.proofs.Common.{◌≡◌, ◌||◌, [], true, is_some, drop, map}
use Rattle.px_xmp_marks.specs.Reading.{attribute_view}
use Rattle.px_xmp_document.specs.Scopes.{is_same, space_of}
use Rattle.px_xmp_document.specs.Tags.{are_bound}
use Rattle.px_xmp_document.proofs.scopes.Scope.is_each_bound.Given as goal

abbrev pub invariant-loop-attribute : goal.invariant-loop-attribute
invariant-loop-attribute l =
    (are_bound l.self (map attribute_view (drop l.attribute-index l.attributes)) ≡ are_bound l.self (map attribute_view l.attributes))
    × ((is_same l.last [] || is_some (space_of l.last l.self)) ≡ true)
