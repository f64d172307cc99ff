-- Stored names: a test says whether one is there twice.
use Rattle.std.proofs.Common.{◌≡◌, ◌==◌, ◌&&◌, ◌||◌, ℕ, Bool, true, false, not, nat_eq, List, [], ◌∷◌, map, sym, ap, ◌∙◌, inl, inr, refl}
use Rattle.std.proofs.lemmas.Bool.{cases_Bool, or_parts, eqb-true, eqb-false, true_from_ne_false}
use Rattle.std.specs.Cmp.Lexicographic.{pointwise, same_text, other_text, bytes_decides}
use Rattle.px_xmp_marks.specs.Reading.{Named, Attr}
use Rattle.px_xmp_marks.specs.Locals.{is_local_of, are_locals_distinct}
use Rattle.px_xmp_markup.specs.Distinct.{IsAmong, AreDistinct, AreRepeated}
use Rattle.px_xmp_markup.specs.calls.Names.{are_same, is_among, has_twice}

abbrev names_of : List Attr → List Named
names_of attributes = map (λ (a : Attr). a.name) attributes

same_name : (n m : Named) → are_same n m ≡ true → n ≡ m
same_name n m h =
    parts (n.size == m.size) (pointwise nat_eq n.local m.local) (pointwise nat_eq n.prefix m.prefix) refl refl refl h
  where
    parts : (a b c : Bool) → (n.size == m.size) ≡ a → pointwise nat_eq n.local m.local ≡ b → pointwise nat_eq n.prefix m.prefix ≡ c
        → (a && b && c) ≡ true → n ≡ m
    parts false b c e f g h = absurd (cc)
    parts true false c e f g h = absurd (cc)
    parts true true false e f g h = absurd (cc)
    parts true true true e f g h =
        let size : n.size ≡ m.size = eqb-true n.size m.size e in
        let prefix : n.prefix ≡ m.prefix = same_text n.prefix m.prefix (sym g) in
        let local : n.local ≡ m.local = same_text n.local m.local (sym f) in
        ap (λ (z : List ℕ). record { prefix = z; local = n.local; size = n.size }) prefix
        ∙ ap (λ (z : List ℕ). record { prefix = m.prefix; local = z; size = n.size }) local
        ∙ ap (λ (z : ℕ). record { prefix = m.prefix; local = m.local; size = z }) size

same_self : (n : Named) → are_same n n ≡ true
same_self n =
    let size : (n.size == n.size) ≡ true = true_from_ne_false (n.size == n.size) (λ f. eqb-false n.size n.size f refl) in
    let text : (x : List ℕ) → pointwise nat_eq x x ≡ true = λ x. true_from_ne_false (pointwise nat_eq x x) (λ f. other_text x x (sym f) refl) in
    ap (λ (b : Bool). b && pointwise nat_eq n.local n.local && pointwise nat_eq n.prefix n.prefix) size
    ∙ ap (λ (b : Bool). b && pointwise nat_eq n.prefix n.prefix) (text n.local) ∙ text n.prefix

other_name : (n m : Named) → are_same n m ≡ false → n ≡ m → ⊥
other_name n m h e = let wrong : true ≡ false = sym (same_self n) ∙ ap (are_same n) e ∙ h in absurd (cc)

among_from : (n : Named) (attributes : List Attr) → is_among n (names_of attributes) ≡ true → IsAmong n attributes
among_from n [] h = absurd (cc)
among_from n (a ∷ more) h = elim (cases_Bool (are_same n a.name)) [
  | inl t ↦ inl (sym (same_name n a.name t))
  | inr f ↦ inr (among_from n more (sym (ap (λ (b : Bool). b || is_among n (names_of more)) f) ∙ h))
]

not_among : (n : Named) (attributes : List Attr) → is_among n (names_of attributes) ≡ false → IsAmong n attributes → ⊥
not_among n [] h i = i
not_among n (a ∷ more) h (inl e) = other_name n a.name (or_parts (are_same n a.name) (is_among n (names_of more)) h).0 (sym e)
not_among n (a ∷ more) h (inr i) = not_among n more (or_parts (are_same n a.name) (is_among n (names_of more)) h).1 i

pub twice_from : (attributes : List Attr) → has_twice (names_of attributes) ≡ true → AreRepeated attributes
twice_from [] h = absurd (cc)
twice_from (a ∷ more) h = elim (cases_Bool (is_among a.name (names_of more))) [
  | inl t ↦ inl (among_from a.name more t)
  | inr f ↦ inr (twice_from more (sym (ap (λ (b : Bool). b || has_twice (names_of more)) f) ∙ h))
]

pub once_from : (attributes : List Attr) → has_twice (names_of attributes) ≡ false → AreDistinct attributes
once_from [] h = tt
once_from (a ∷ more) h =
    let p = or_parts (is_among a.name (names_of more)) (has_twice (names_of more)) h in (not_among a.name more p.0, once_from more p.1)

-- ---- other local names

or_true : (b : Bool) → (b || true) ≡ true
or_true true = refl
or_true false = refl

among_local : (n : Named) (attributes : List Attr) → IsAmong n attributes → is_local_of n.local attributes ≡ true
among_local n [] i = absurd (i)
among_local n (a ∷ more) (inl e) =
    ap (λ (b : Bool). b || is_local_of n.local more) ((bytes_decides n.local a.name.local).1 (ap (λ (m : Named). m.local) (sym e)))
among_local n (a ∷ more) (inr i) =
    ap (λ (b : Bool). pointwise nat_eq n.local a.name.local || b) (among_local n more i) ∙ or_true (pointwise nat_eq n.local a.name.local)

neither : (b c : Bool) → (not b && c) ≡ true → (b ≡ false) × (c ≡ true)
neither true c h = absurd (cc)
neither false c h = (refl, h)

pub once_by_locals : (attributes : List Attr) → are_locals_distinct attributes ≡ true → AreDistinct attributes
once_by_locals [] h = tt
once_by_locals (a ∷ more) h =
    let parts = neither (is_local_of a.name.local more) (are_locals_distinct more) h in (
      λ i. let wrong : true ≡ false = sym (among_local a.name more i) ∙ parts.0 in absurd (cc),
      once_by_locals more parts.1,
    )
