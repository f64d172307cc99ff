-- A scheme and a colon at the start of a URI.
use Rattle.std.proofs.Common.{◌≡◌, ◌∙◌, ◌++◌, ◌==◌, ◌||◌, ℕ, Bool, true, false, not, nat_eq, inl, inr, List, [], ◌∷◌, length, take, drop, refl, sym, ap, subst, eqb-true}
use Rattle.std.specs.List.{starts_with, list_all, position_or_len}
use Rattle.std.specs.Cmp.Lexicographic.{pointwise}
use Rattle.std.proofs.lemmas.Bool.{cases_Bool, and_parts, and_from}
use Rattle.std.proofs.lemmas.List.{take-append-drop, take_at, drop_at}
use Rattle.px_xmp_forms.specs.Languages.{is_letter, is_digit}
use Rattle.px_xmp_forms.specs.Uris.{are_uri_octets, is_scheme_octet, is_scheme, IsAbsolute}
use Rattle.px_xmp_forms.proofs.LanguageLaws.{prefix_stops}

colon_first : (x : List ℕ) → starts_with nat_eq x (58 ∷ []) ≡ true → (y : List ℕ) × (x ≡ 58 ∷ y)
colon_first [] h = absurd (cc)
colon_first (o ∷ y) h =
    let p = and_parts (58 == o) (pointwise nat_eq [] (take 0 y)) h in
    (y, ap (λ (n : ℕ). n ∷ y) (sym (eqb-true 58 o p.0)))

pub absolute_from : (x scheme rest : List ℕ) (n : ℕ) → scheme ≡ take n x → rest ≡ drop n x → are_uri_octets x ≡ true → is_scheme scheme ≡ true
    → starts_with nat_eq rest (58 ∷ []) ≡ true → IsAbsolute x
absolute_from x scheme rest n e f octets is colon =
    let (y, g) = colon_first rest colon in (
      octets,
      scheme,
      y,
      sym (take-append-drop n x) ∙ ap (λ (z : List ℕ). z ++ drop n x) (sym e) ∙ ap (λ (z : List ℕ). scheme ++ z) (sym f ∙ g),
      is,
    )

-- the colon after the scheme is the first one
not_colon : (o : ℕ) → is_scheme_octet o ≡ true → not (o == 58) ≡ true
not_colon o h = elim (cases_Bool (o == 58)) [
  | inl e ↦ let wrong : false ≡ true = subst (λ (n : ℕ). is_scheme_octet n ≡ true) (eqb-true o 58 e) h in absurd (cc)
  | inr e ↦ ap not e
]

scheme_octets : (x : List ℕ) → list_all is_scheme_octet x ≡ true → list_all (λ o. not (o == 58)) x ≡ true
scheme_octets [] h = refl
scheme_octets (o ∷ x) h =
    let (a, b) = and_parts (is_scheme_octet o) (list_all is_scheme_octet x) h in
    and_from (not (o == 58)) (list_all (λ o. not (o == 58)) x) (not_colon o a) (scheme_octets x b)

without_colon : (x : List ℕ) → is_scheme x ≡ true → list_all (λ o. not (o == 58)) x ≡ true
without_colon [] h = absurd (cc)
without_colon (o ∷ x) h =
    let (a, b) = and_parts (is_letter o) (list_all is_scheme_octet x) h in
    let start : is_scheme_octet o ≡ true = ap (λ (t : Bool). t || is_digit o || (o == 43) || (o == 46) || (o == 45)) a in
    scheme_octets (o ∷ x) (and_from (is_scheme_octet o) (list_all is_scheme_octet x) start b)

pub record SplitsScheme (scheme rest : List ℕ) : Type 0 where
  pub is : is_scheme scheme ≡ true
  pub colon : starts_with nat_eq rest (58 ∷ []) ≡ true

pub absolute_splits : (x scheme rest : List ℕ) (n : ℕ) → n ≡ position_or_len (λ o. o == 58) x → scheme ≡ take n x → rest ≡ drop n x → IsAbsolute x
    → SplitsScheme scheme rest
absolute_splits x scheme rest n first e f h =
    let (octets, s, y, g, is) = h in
    let len : length s ≡ n = sym (first ∙ ap (position_or_len (λ o. o == 58)) g ∙ prefix_stops (λ o. not (o == 58)) s y 58 (without_colon s is) refl) in
    let before : scheme ≡ s = e ∙ ap (take n) g ∙ take_at s (58 ∷ y) n len in
    let after : rest ≡ 58 ∷ y = f ∙ ap (drop n) g ∙ drop_at s (58 ∷ y) n len in
    record { is = ap is_scheme before ∙ is; colon = ap (λ (z : List ℕ). starts_with nat_eq z (58 ∷ [])) after }
