-- Fields in order of their tags.
use Rattle.std.proofs.Common.{◌≡◌, ◌<◌, ◌≤◌, ◌+◌, ◌-◌, ◌==◌, nat_lt, ne_eqb, ℕ, zero, suc, true, false, if◌then◌else◌, Option, List, []}
use Rattle.std.proofs.Common.{◌∷◌, length, slice_get, slice_index, get_or, Some, None, is_some, refl, sym, ap, subst, inl, inr, ◌∙◌, arith}
use Rattle.std.proofs.lemmas.Bool.Decides.{nat_tests}
use Rattle.std.specs.List.{insert, AllByRecursion}
use Rattle.std.proofs.lemmas.Bool.{cases_lt, cases_Bool, cond-true, cond-false}
use Rattle.std.proofs.lemmas.List.Edits.{length-insert, get_or-insert_below, get_or-insert_at, get_or-insert_above}
use Rattle.px_field.specs.Values.{Value}
use Rattle.px_meaning.specs.Tree.{Fields}
use Rattle.px_meaning.specs.Roles.{at_tag}
use Rattle.px_meaning.specs.Writable.{put}
use Rattle.px_meaning.specs.Entry.{Rising}
use Rattle.px_meaning.specs.calls.Places.{tags, IsInOrder, IsAt, IsGapFor}

-- no tag of the list
pub at_tag_none : (fields : Fields) (tag : ℕ) → ((k : ℕ) → k < length fields → slice_index (tags fields) k ≡ tag → ⊥)
    → at_tag tag fields ≡ None
at_tag_none [] tag h = refl
at_tag_none (f ∷ fields) tag h =
    grind (arith, nat_tests, h 0 (omega arith), at_tag_none fields tag (λ k below. h (suc k) (omega arith)))

-- the field at an index that has the tag
pub at_tag_place : (fields : Fields) (tag i : ℕ) (f : ℕ × Value) → IsInOrder fields → IsAt fields tag i → slice_get fields i ≡ Some f
    → at_tag tag fields ≡ Some f.1
at_tag_place [] tag i f ok at got = absurd (omega (arith, at.inside))
at_tag_place (e ∷ fields) tag zero f ok at got =
    let first : Some e ≡ Some f = got in
    let same : e ≡ f = cc in
    grind (arith, nat_tests, at.same, ap (λ (p : ℕ × Value). p.1) same)
at_tag_place (e ∷ fields) tag (suc i) f ok at got =
    let below : e.0 < get_or (tags fields) i 0 = ok 0 (suc i) (omega arith) at.inside in
    let rest : IsAt fields tag i = record { inside = omega (arith, at.inside); same = at.same } in
    let found : at_tag tag fields ≡ Some f.1 =
    at_tag_place fields tag i f (λ j k h in_range. ok (suc j) (suc k) (omega arith) (omega arith)) rest got in
    grind (arith, nat_tests, at.same, below, found)

-- a field goes to the gap for its tag
pub put_insert : (fields : Fields) (tag i : ℕ) (value : Value) → IsGapFor fields tag i → put tag value fields ≡ insert fields i (tag, value)
put_insert [] tag zero value gap = refl
put_insert [] tag (suc i) value gap = absurd (omega (arith, gap.inside))
put_insert (f ∷ fields) tag zero value gap = grind (arith, nat_tests, gap.above 0 (omega arith) (omega arith))
put_insert (f ∷ fields) tag (suc i) value gap =
    let rest : IsGapFor fields tag i = record {
      inside = omega (arith, gap.inside);
      below = λ k h. gap.below (suc k) (omega arith);
      above = λ k h inside. gap.above (suc k) (omega arith) (omega arith);
    } in
    grind (arith, nat_tests, gap.below 0 (omega arith), put_insert fields tag i value rest)

-- the tag of the field at an index
pub tag_at : (fields : Fields) (i : ℕ) (d : ℕ × Value) → i < length fields → (get_or fields i d).0 ≡ slice_index (tags fields) i
tag_at [] i d h = absurd (omega arith)
tag_at (f ∷ fields) zero d h = refl
tag_at (f ∷ fields) (suc i) d h = tag_at fields i d (omega arith)

pub length_tags : (fields : Fields) → length (tags fields) ≡ length fields
length_tags [] = refl
length_tags (f ∷ fields) = ap suc (length_tags fields)

pub tags_insert : (fields : Fields) (i tag : ℕ) (value : Value) → tags (insert fields i (tag, value)) ≡ insert (tags fields) i tag
tags_insert fields zero tag value = refl
tags_insert [] (suc i) tag value = refl
tags_insert (f ∷ fields) (suc i) tag value = ap (λ (l : List ℕ). f.0 ∷ l) (tags_insert fields i tag value)

module _ (fields : Fields) (tag m : ℕ) (ok : IsInOrder fields) (inside : m < length fields) where
  pub below_middle : slice_index (tags fields) m < tag → (k : ℕ) → k < m + 1 → slice_index (tags fields) k < tag
  below_middle lt k h = elim (cases_lt k m) [
    | inl before ↦ omega (arith, ok k m before inside)
    | inr from ↦ let here : k ≡ m = omega arith in rw here lt
  ]

  pub above_middle : tag < slice_index (tags fields) m → (k : ℕ) → m ≤ k → k < length fields → tag < slice_index (tags fields) k
  above_middle lt k h in_range = elim (cases_lt m k) [
    | inl after ↦ omega (arith, ok m k after in_range)
    | inr upto ↦ let here : k ≡ m = omega arith in rw here lt
  ]

-- a tag with a gap has no field
pub at_tag_gap : (fields : Fields) (tag i : ℕ) → IsGapFor fields tag i → at_tag tag fields ≡ None
at_tag_gap fields tag i gap = at_tag_none fields tag (λ k in_range same. elim (cases_lt k i) [
  | inl before ↦ omega (arith, gap.below k before)
  | inr from ↦ omega (arith, gap.above k from in_range)
])

-- a tag at an index has a field
pub at_tag_some : (fields : Fields) (tag i : ℕ) → IsAt fields tag i → is_some (at_tag tag fields) ≡ true
at_tag_some [] tag i at = absurd (omega (arith, at.inside))
at_tag_some (f ∷ fields) tag zero at = grind (arith, nat_tests, at.same)
at_tag_some (f ∷ fields) tag (suc i) at =
    grind (arith, nat_tests, at_tag_some fields tag i (record { inside = omega (arith, at.inside); same = at.same }))

-- the gap keeps the order
pub in_order_insert : (fields : Fields) (tag at : ℕ) (value : Value) → IsInOrder fields → IsGapFor fields tag at
    → IsInOrder (insert fields at (tag, value))
in_order_insert fields tag at value ok gap i j lt in_range =
    let old = tags fields in
    let new = insert old at tag in
    let space : at ≤ length old = omega (arith, gap.inside, length_tags fields) in
    let length_new = length-insert fields at (tag, value) gap.inside in
    let key_below : (i : ℕ) → i < at → get_or new i 0 ≡ get_or old i 0 = λ i below. get_or-insert_below old at tag 0 i below space in
    let key_here : (i : ℕ) → i ≡ at → get_or new i 0 ≡ tag = λ i here. rw here (get_or-insert_at old at tag 0 space) in
    let key_above : (i : ℕ) → at < i → get_or new i 0 ≡ get_or old (i - 1) 0 =
    λ i above. subst (λ q. get_or new q 0 ≡ get_or old (i - 1) 0) {x = i - 1 + 1} (omega arith)
    (get_or-insert_above old at tag 0 (i - 1) (omega arith) space) in
    let rises : get_or new i 0 < get_or new j 0 =
    grind (
      arith,
      key_below i,
      key_here i,
      key_above i,
      key_below j,
      key_here j,
      key_above j,
      ok i j,
      ok i (j - 1),
      ok (i - 1) (j - 1),
      gap.below i,
      gap.above (j - 1),
      in_range,
      length_new,
    ) in
    rw tags_insert rises

get_some : (fields : Fields) (i : ℕ) (d : ℕ × Value) → i < length fields → slice_get fields i ≡ Some (get_or fields i d)
get_some [] i d h = absurd (omega arith)
get_some (f ∷ fields) zero d h = refl
get_some (f ∷ fields) (suc i) d h = get_some fields i d (omega arith)

-- the same for a field that was read
pub at_tag_read : (fields : Fields) (tag i : ℕ) (f : ℕ × Value) → IsInOrder fields → IsAt fields tag i → f ≡ get_or fields i f
    → at_tag tag fields ≡ Some f.1
at_tag_read fields tag i f ok at read =
    at_tag_place fields tag i f ok at (get_some fields i f at.inside ∙ ap (λ (p : ℕ × Value). Some p) (sym read))

all_above : (t : ℕ) (ts : List ℕ) → ((k : ℕ) → k < length ts → t < slice_index ts k) → AllByRecursion (λ u. t < u) ts
all_above t [] h = tt
all_above t (u ∷ ts) h = (h 0 (omega arith), all_above t ts (λ k inside. h (suc k) (omega arith)))

-- by index, or each with all after it
pub rising_from_order : (fields : Fields) → IsInOrder fields → Rising (tags fields)
rising_from_order [] h = tt
rising_from_order (f ∷ fields) h =
    let len = length_tags fields in (
      all_above f.0 (tags fields) (λ k inside. h 0 (suc k) (omega arith) (omega arith)),
      rising_from_order fields
          (λ i j lt inside. h (suc i) (suc j) (omega arith) (omega arith)),
    )

above_all : (t : ℕ) (ts : List ℕ) → AllByRecursion (λ u. t < u) ts → (k : ℕ) → k < length ts → t < slice_index ts k
above_all t [] h k inside = absurd (omega arith)
above_all t (u ∷ ts) h zero inside = h.0
above_all t (u ∷ ts) h (suc k) inside = above_all t ts h.1 k (omega arith)

pub order_from_rising : (fields : Fields) → Rising (tags fields) → IsInOrder fields
order_from_rising [] h i j lt inside = absurd (omega arith)
order_from_rising (f ∷ fields) h zero zero lt inside = absurd (omega arith)
order_from_rising (f ∷ fields) h zero (suc j) lt inside = let len = length_tags fields in above_all f.0 (tags fields) h.0 j (omega arith)
order_from_rising (f ∷ fields) h (suc i) zero lt inside = absurd (omega arith)
order_from_rising (f ∷ fields) h (suc i) (suc j) lt inside = order_from_rising fields h.1 i j (omega arith) (omega arith)

-- ---- a field that is added is found

pub get_after_put : (fields : Fields) (t u : ℕ) (v : Value) → at_tag t fields ≡ None
    → at_tag u (put t v fields) ≡ (if t == u then Some v else at_tag u fields)
get_after_put [] t u v h = refl
get_after_put (f ∷ fields) t u v h = elim (cases_Bool (nat_lt t f.0)) [
  | inl l ↦ ap (at_tag u) (cond-true (nat_lt t f.0) ((t, v) ∷ f ∷ fields) (f ∷ put t v fields) l)
  | inr l ↦ ap (at_tag u) (cond-false (nat_lt t f.0) ((t, v) ∷ f ∷ fields) (f ∷ put t v fields) l) ∙ elim (cases_Bool (f.0 == u)) [
    | inl e ↦
        let q : (t == u) ≡ false = ne_eqb t u (λ p.
        let s : Some f.1 ≡ None =
        sym (cond-true (f.0 == t) (Some f.1) (at_tag t fields) (subst (λ (x : ℕ). (f.0 == x) ≡ true) (sym p) e)) ∙ h in
        cc) in
        cond-true (f.0 == u) (Some f.1) (at_tag u (put t v fields)) e
        ∙ sym (cond-true (f.0 == u) (Some f.1) (at_tag u fields) e)
        ∙ sym (cond-false (t == u) (Some v) (at_tag u (f ∷ fields)) q)
    | inr e ↦
        cond-false (f.0 == u) (Some f.1) (at_tag u (put t v fields)) e
        ∙ get_after_put fields t u v (elim (cases_Bool (f.0 == t)) [
          | inl p ↦ let s : Some f.1 ≡ None = sym (cond-true (f.0 == t) (Some f.1) (at_tag t fields) p) ∙ h in cc
          | inr p ↦ sym (cond-false (f.0 == t) (Some f.1) (at_tag t fields) p) ∙ h
        ])
        ∙ ap (λ (x : Option Value). if t == u then Some v else x) (sym (cond-false (f.0 == u) (Some f.1) (at_tag u fields) e))
  ]
]
