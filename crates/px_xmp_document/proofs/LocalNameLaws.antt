-- Attributes with other local names have no name in common.
use Rattle.std.proofs.Common.{◌≡◌, ◌&&◌, ◌||◌, Bool, true, false, not, nat_eq, List, [], ◌∷◌, refl, ap, ◌∙◌}
use Rattle.std.proofs.lemmas.Bool.{or_parts}
use Rattle.std.specs.Cmp.Lexicographic.{pointwise}
use Rattle.px_xmp_marks.specs.Reading.{Named, Attr}
use Rattle.px_xmp_marks.specs.Locals.{is_local_of, are_locals_distinct}
use Rattle.px_xmp_document.specs.Scopes.{Item}
use Rattle.px_xmp_document.specs.Tags.{attribute_space, are_same_spaces, is_among, are_unique}

not_among : (scope : List Item) (n : Named) (attributes : List Attr) → is_local_of n.local attributes ≡ false
    → is_among scope n attributes ≡ false
not_among scope n [] h = refl
not_among scope n (a ∷ more) h =
    let parts = or_parts (pointwise nat_eq n.local a.name.local) (is_local_of n.local more) h in
    ap (λ (b : Bool). b && are_same_spaces (attribute_space scope n) (attribute_space scope a.name) || is_among scope n more) parts.0
    ∙ not_among scope n more parts.1

neither : (b c : Bool) → (not b && c) ≡ true → (b ≡ false) × (c ≡ true)
neither true c h = absurd (cc)
neither false c h = (refl, h)

pub unique_by_locals : (scope : List Item) (attributes : List Attr) → are_locals_distinct attributes ≡ true
    → are_unique scope attributes ≡ true
unique_by_locals scope [] h = refl
unique_by_locals scope (a ∷ more) h =
    let parts = neither (is_local_of a.name.local more) (are_locals_distinct more) h in
    ap (λ (b : Bool). not b && are_unique scope more) (not_among scope a.name more parts.0) ∙ unique_by_locals scope more parts.1
