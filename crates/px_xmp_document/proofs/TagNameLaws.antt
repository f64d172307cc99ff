-- A tag is judged by the stored names of its attributes as by the attributes.
use Rattle.std.proofs.Common.{◌≡◌, ◌≤◌, ◌<◌, ◌&&◌, ◌||◌, Bool, true, false, cond, not, nat_lt, List, [], ◌∷◌, map, length, Ok, Err, refl, sym, ap, ◌∙◌}
use Rattle.std.proofs.lemmas.Bool.{lt-ltb, le-ltb}
use Rattle.px_xmp_marks.specs.Reading.{Named, Attr}
use Rattle.px_xmp_document.specs.declared.faults.SpaceCause.TheVariants.{Undeclared, ManyAttributes, SameName}
use Rattle.px_xmp_document.specs.Scopes.{Item}
use Rattle.px_xmp_document.specs.Tags.{attribute_limit, is_attribute_bound, is_element_bound, are_bound, clash, is_among, are_unique, judged}
use Rattle.px_xmp_document.specs.calls.Names.{are_names_bound, is_name_among, are_names_unique, names_judged}

abbrev pub names_of : List Attr → List Named
names_of attributes = map (λ (a : Attr). a.name) attributes

same_bound : (s : List Item) (attributes : List Attr) → are_names_bound s (names_of attributes) ≡ are_bound s attributes
same_bound s [] = refl
same_bound s (a ∷ more) = ap (λ (b : Bool). is_attribute_bound s a.name && b) (same_bound s more)

same_among : (s : List Item) (n : Named) (attributes : List Attr) → is_name_among s n (names_of attributes) ≡ is_among s n attributes
same_among s n [] = refl
same_among s n (a ∷ more) = ap (λ (b : Bool). clash s n a.name || b) (same_among s n more)

same_unique : (s : List Item) (attributes : List Attr) → are_names_unique s (names_of attributes) ≡ are_unique s attributes
same_unique s [] = refl
same_unique s (a ∷ more) =
    ap (λ (b : Bool). not b && are_names_unique s (names_of more)) (same_among s a.name more)
    ∙ ap (λ (b : Bool). not (is_among s a.name more) && b) (same_unique s more)

by_tests : (s : List Item) (e b m u : Bool) → e ≡ true → m ≡ false
    → cond (not b) (Err Undeclared) (cond (not u) (Err SameName) (Ok s))
    ≡ cond (not (e && b)) (Err Undeclared) (cond m (Err ManyAttributes) (cond u (Ok s) (Err SameName)))
by_tests s e true m true h k = sym (ap (λ (z : Bool). cond (not (z && true)) (Err Undeclared) (cond m (Err ManyAttributes) (Ok s))) h ∙ ap (λ (z : Bool). cond z (Err ManyAttributes) (Ok s)) k)
by_tests s e true m false h k = sym (ap (λ (z : Bool). cond (not (z && true)) (Err Undeclared) (cond m (Err ManyAttributes) (Err SameName))) h ∙ ap (λ (z : Bool). cond z (Err ManyAttributes) (Err SameName)) k)
by_tests s e false m u h k = sym (ap (λ (z : Bool). cond (not (z && false)) (Err Undeclared) (cond m (Err ManyAttributes) (cond u (Ok s) (Err SameName)))) h)

-- few names
pub few_judged : (n : Named) (attributes : List Attr) (s : List Item) (names : List Named) → is_element_bound s n ≡ true
    → names ≡ names_of attributes → length attributes ≤ attribute_limit → names_judged names s ≡ judged n attributes s
few_judged n attributes s names h e l =
    ap (λ (z : List Named). names_judged z s) e
    ∙ ap (λ (b : Bool). cond (not b) (Err Undeclared) (cond (not (are_names_unique s (names_of attributes))) (Err SameName) (Ok s))) (same_bound s attributes)
    ∙ ap (λ (b : Bool). cond (not (are_bound s attributes)) (Err Undeclared) (cond (not b) (Err SameName) (Ok s))) (same_unique s attributes)
    ∙ by_tests s (is_element_bound s n) (are_bound s attributes) (nat_lt attribute_limit (length attributes)) (are_unique s attributes) h
    (le-ltb attribute_limit (length attributes) l)

by_many : (s : List Item) (e b m u : Bool) → e ≡ true → m ≡ true
    → cond (not (e && b)) (Err Undeclared) (cond m (Err ManyAttributes) (cond u (Ok s) (Err SameName))) ≡ Err (cond b ManyAttributes Undeclared)
by_many s e true m u h k = ap (λ (z : Bool). cond (not (z && true)) (Err Undeclared) (cond m (Err ManyAttributes) (cond u (Ok s) (Err SameName)))) h ∙ ap (λ (z : Bool). cond z (Err ManyAttributes) (cond u (Ok s) (Err SameName))) k
by_many s e false m u h k = ap (λ (z : Bool). cond (not (z && false)) (Err Undeclared) (cond m (Err ManyAttributes) (cond u (Ok s) (Err SameName)))) h

-- more attributes than the limit
pub many_judged : (n : Named) (attributes : List Attr) (s : List Item) → is_element_bound s n ≡ true → attribute_limit < length attributes
    → judged n attributes s ≡ Err (cond (are_bound s attributes) ManyAttributes Undeclared)
many_judged n attributes s h l =
    by_many s (is_element_bound s n) (are_bound s attributes) (nat_lt attribute_limit (length attributes)) (are_unique s attributes) h
    (lt-ltb attribute_limit (length attributes) l)
