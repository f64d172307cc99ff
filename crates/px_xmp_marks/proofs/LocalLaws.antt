-- Attributes whose local names differ, by their keys.
use Rattle.std.proofs.Common.{◌≡◌, ◌<◌, ◌==◌, ◌&&◌, ◌||◌, ℕ, zero, suc, Bool, true, false, not, nat_eq, nat_lt, List, [], ◌∷◌, length, drop, set, get_or, map, refl, sym, ap, ◌∙◌, inl, inr, arith}
use Rattle.std.proofs.lemmas.Bool.{cases_Bool, eqb-true, eqb-false, ltb-true}
use Rattle.std.proofs.lemmas.List.{get_or-set_other}
use Rattle.std.proofs.lemmas.Grind.{get_or-set_at}
use Rattle.std.specs.Cmp.Lexicographic.{pointwise, same_text}
use Rattle.px_xmp_marks.specs.declared.attributes.Attribute.{Attribute}
use Rattle.px_xmp_marks.specs.Reading.{Attr, attribute_view}
use Rattle.px_xmp_marks.specs.Locals.{key, HaveKeys, is_local_of, are_locals_distinct}

keys_kept : (seen : List Bool) (k : ℕ) (attributes : List Attr) → k < length seen → HaveKeys seen attributes
    → HaveKeys (set seen k true) attributes
keys_kept seen k [] l h = tt
keys_kept seen k (a ∷ more) l h = (
  elim (cases_Bool (key a.name.local == k)) [
    | inl t ↦ get_or-set_at seen k (key a.name.local) true false (eqb-true (key a.name.local) k t) l
    | inr f ↦ get_or-set_other seen k (key a.name.local) true false (eqb-false (key a.name.local) k f) ∙ h.0
  ],
  keys_kept seen k more l h.1,
)

-- one more attribute, whose key is noted
pub more_keys : (seen : List Bool) (k : ℕ) (a : Attr) (more : List Attr) → k < length seen → k ≡ key a.name.local → HaveKeys seen more
    → HaveKeys (set seen k true) (a ∷ more)
more_keys seen k a more l e h = (get_or-set_at seen k (key a.name.local) true false (sym e) l, keys_kept seen k more l h)

-- no attribute has a local name whose key is not noted
pub new_key : (seen : List Bool) (l : List ℕ) (attributes : List Attr) → get_or seen (key l) false ≡ false → HaveKeys seen attributes
    → is_local_of l attributes ≡ false
new_key seen l [] f h = refl
new_key seen l (a ∷ more) f h = elim (cases_Bool (pointwise nat_eq l a.name.local)) [
  | inl t ↦
      let same : a.name.local ≡ l = sym (same_text l a.name.local (sym t)) in
      let wrong : true ≡ false = sym h.0 ∙ ap (λ (z : List ℕ). get_or seen (key z) false) same ∙ f in absurd (cc)
  | inr g ↦ ap (λ (b : Bool). b || is_local_of l more) g ∙ new_key seen l more f h.1
]

pub more_distinct : (a : Attr) (more : List Attr) → is_local_of a.name.local more ≡ false → are_locals_distinct more ≡ true
    → are_locals_distinct (a ∷ more) ≡ true
more_distinct a more f h = ap (λ (b : Bool). not b && are_locals_distinct more) f ∙ h

pub not_distinct : (a : Attr) (more : List Attr) → is_local_of a.name.local more ≡ true → are_locals_distinct (a ∷ more) ≡ false
not_distinct a more t = ap (λ (b : Bool). not b && are_locals_distinct more) t

and_false : (b c : Bool) → c ≡ false → (b && c) ≡ false
and_false true c h = h
and_false false c h = refl

-- two of the last ones have one
pub left_wrong : (n : ℕ) (xs : List Attribute) → are_locals_distinct (map attribute_view (drop n xs)) ≡ false
    → are_locals_distinct (map attribute_view xs) ≡ false
left_wrong zero xs h = h
left_wrong (suc n) [] h = h
left_wrong (suc n) (a ∷ xs) h = and_false (not (is_local_of a.name.local.now (map attribute_view xs))) _ (left_wrong n xs h)

pub few_distinct : (xs : List Attribute) → nat_lt (length xs) 2 ≡ true → are_locals_distinct (map attribute_view xs) ≡ true
few_distinct [] h = refl
few_distinct (a ∷ []) h = refl
few_distinct (a ∷ b ∷ xs) h = absurd (omega (arith, ltb-true (length (a ∷ b ∷ xs)) 2 h))
