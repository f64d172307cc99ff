-- What is in scope is what px_xmp_document judges.
use Rattle.std.proofs.Common.{◌≡◌, ◌&&◌, ℕ, Bool, true, false, not, nat_le, nat_lt, if◌then◌else◌, Option, Some, None, List, [], ◌∷◌, length, Result, Ok, Err, refl, ap, ◌∙◌}
use Rattle.px_xmp_marks.specs.Reading.{Attr}
use Rattle.px_xmp_document.specs.declared.faults.SpaceCause.{SpaceCause}
use Rattle.px_xmp_document.specs.declared.faults.SpaceCause.TheVariants.{RareSpace, Reserved, TooMany, Undeclared, ManyAttributes, SameName}
use Rattle.px_xmp_document.specs.Scopes.{Item, Element, Declaration, limit}
use Rattle.px_xmp_document.specs.Bindings.{declared_prefix, is_usual_space, is_reserved, is_left, with_declaration, or_same, with_attribute, with_attributes, and_then}
use Rattle.px_xmp_document.specs.Tags.{is_element_bound, are_bound, attribute_limit, are_unique, judged}
use Rattle.px_xmp.specs.Tags.{with_prefix, declared, inside}
use Rattle.px_xmp.specs.Laws.{ScopesAreJudged}

abbrev done : List Item → Result (List Item) SpaceCause
done s = Ok s

ok_same : (s t : List Item) → done s ≡ Ok t → s ≡ t
ok_same s t h = cc

fourth_is : (a b c d : Bool) (e f g h : SpaceCause) (s t : List Item)
    → (if a then Err e else if b then Err f else if c then Err g else if d then Err h else Ok s) ≡ Ok t → s ≡ t
fourth_is true b c d e f g h s t k = absurd (cc)
fourth_is false true c d e f g h s t k = absurd (cc)
fourth_is false false true d e f g h s t k = absurd (cc)
fourth_is false false false true e f g h s t k = absurd (cc)
fourth_is false false false false e f g h s t k = ok_same s t k

last_is : (a b c : Bool) (e f g : SpaceCause) (s t : List Item) → (if a then Err e else if b then Err f else if c then Ok s else Err g) ≡ Ok t → s ≡ t
last_is true b c e f g s t h = absurd (cc)
last_is false true c e f g s t h = absurd (cc)
last_is false false true e f g s t h = ok_same s t h
last_is false false false e f g s t h = absurd (cc)

one_declared : (q : Option (List ℕ)) (v : List ℕ) (s t : List Item) → or_same (λ p. with_declaration p v s) s q ≡ Ok t → with_prefix q v s ≡ t
one_declared None v s t h = ok_same s t h
one_declared (Some p) v s t h =
    fourth_is (not (is_usual_space v)) (is_reserved p v) (is_left v) (nat_le limit (length s)) RareSpace Reserved RareSpace TooMany (Declaration p v ∷ s) t h

then_is : (r : Result (List Item) SpaceCause) (f : List Item → Result (List Item) SpaceCause) (s t : List Item)
    → ((u : List Item) → r ≡ Ok u → f u ≡ Ok t → s ≡ t) → and_then r f ≡ Ok t → s ≡ t
then_is (Err c) f s t k h = absurd (cc)
then_is (Ok u) f s t k h = k u refl h

all_declared : (attributes : List Attr) (s t : List Item) → with_attributes attributes s ≡ Ok t → declared attributes s ≡ t
all_declared [] s t h = ok_same s t h
all_declared (a ∷ more) s t h =
    then_is (with_attribute a s) (λ z. with_attributes more z) (declared (a ∷ more) s) t
    (λ u e g. ap (λ (z : List Item). declared more z) (one_declared (declared_prefix a.name) a.value s u e) ∙ all_declared more u t g) h

pub scopes_are_judged : ScopesAreJudged
scopes_are_judged n attributes scope inner h = by_limit (nat_le limit (length scope)) h
  where
    by_limit : (b : Bool)
        → (if b then Err TooMany else and_then (with_attributes attributes (Element ∷ scope)) (λ z. judged n attributes z)) ≡ Ok inner
        → inside scope attributes ≡ inner
    by_limit true g = absurd (cc)
    by_limit false g =
        then_is (with_attributes attributes (Element ∷ scope)) (λ z. judged n attributes z) (inside scope attributes) inner
        (λ u e k. all_declared attributes (Element ∷ scope) u e
        ∙ last_is (not (is_element_bound u n && are_bound u attributes)) (nat_lt attribute_limit (length attributes)) (are_unique u attributes)
        Undeclared ManyAttributes SameName u inner k) g
