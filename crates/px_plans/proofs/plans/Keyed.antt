-- Offsets in order of their keys.
use Rattle.std.proofs.Common.{◌≡◌, ◌<◌, ◌≤◌, ◌+◌, ◌-◌, ◌==◌, ℕ, zero, suc, true, false, if◌then◌else◌, Option, List, []}
use Rattle.std.proofs.Common.{◌∷◌, length, slice_index, get_or, Some, None, refl, sym, ap, subst, inl, inr, ◌∙◌, arith, ne_eqb}
use Rattle.std.specs.Prelude.{Result, Ok, Err, OnOk, is_ok}
use Rattle.std.proofs.lemmas.Bool.Decides.{nat_tests}
use Rattle.std.specs.List.{insert}
use Rattle.std.proofs.lemmas.Bool.{cases_lt, cases_Bool, cond-true, cond-false}
use Rattle.std.proofs.lemmas.List.Edits.{length-insert, get_or-insert_below, get_or-insert_at, get_or-insert_above}
use Rattle.px_plans.specs.calls.Keyed.{keys, offset_at, IsInOrder, IsAt, IsGapFor}

-- the key of the pair at an index
pub key_at : (pairs : List (ℕ × ℕ)) (i : ℕ) (d : ℕ × ℕ) → i < length pairs → (get_or pairs i d).0 ≡ slice_index (keys pairs) i
key_at [] i d h = absurd (omega arith)
key_at (p ∷ pairs) zero d h = refl
key_at (p ∷ pairs) (suc i) d h = key_at pairs i d (omega arith)

length_keys : (pairs : List (ℕ × ℕ)) → length (keys pairs) ≡ length pairs
length_keys [] = refl
length_keys (p ∷ pairs) = ap suc (length_keys pairs)

keys_insert : (pairs : List (ℕ × ℕ)) (i key offset : ℕ) → keys (insert pairs i (key, offset)) ≡ insert (keys pairs) i key
keys_insert pairs zero key offset = refl
keys_insert [] (suc i) key offset = refl
keys_insert (p ∷ pairs) (suc i) key offset = ap (λ (l : List ℕ). p.0 ∷ l) (keys_insert pairs i key offset)

module _ (pairs : List (ℕ × ℕ)) (key m : ℕ) (ok : IsInOrder pairs) (inside : m < length pairs) where
  pub below_middle : slice_index (keys pairs) m < key → (k : ℕ) → k < m + 1 → slice_index (keys pairs) k < key
  below_middle lt k h = elim (cases_lt k m) [
    | inl before ↦ omega (arith, ok k m before inside)
    | inr from ↦ let here : k ≡ m = omega arith in rw here lt
  ]

  pub above_middle : key < slice_index (keys pairs) m → (k : ℕ) → m ≤ k → k < length pairs → key < slice_index (keys pairs) k
  above_middle lt k h in_range = elim (cases_lt m k) [
    | inl after ↦ omega (arith, ok m k after in_range)
    | inr upto ↦ let here : k ≡ m = omega arith in rw here lt
  ]

-- ---- finding

-- the offset at an index whose pair has the key
pub offset_found : (pairs : List (ℕ × ℕ)) (key i : ℕ) (d : ℕ × ℕ) → IsInOrder pairs → IsAt pairs key i → offset_at key pairs ≡ Some (get_or pairs i d).1
offset_found [] key i d ok at = absurd (omega (arith, at.inside))
offset_found (p ∷ pairs) key zero d ok at = grind (arith, nat_tests, at.same)
offset_found (p ∷ pairs) key (suc i) d ok at =
    let below : p.0 < get_or (keys pairs) i 0 = ok 0 (suc i) (omega arith) at.inside in
    let rest : IsAt pairs key i = record { inside = omega (arith, at.inside); same = at.same } in
    grind (arith, nat_tests, at.same, below, offset_found pairs key i d (λ j k h in_range. ok (suc j) (suc k) (omega arith) (omega arith)) rest)

offset_none : (pairs : List (ℕ × ℕ)) (key : ℕ) → ((k : ℕ) → k < length pairs → slice_index (keys pairs) k ≡ key → ⊥) → offset_at key pairs ≡ None
offset_none [] key h = refl
offset_none (p ∷ pairs) key h = grind (arith, nat_tests, h 0 (omega arith), offset_none pairs key (λ k below. h (suc k) (omega arith)))

-- a key with a gap has no offset
pub offset_gap : (pairs : List (ℕ × ℕ)) (key i : ℕ) → IsGapFor pairs key i → offset_at key pairs ≡ None
offset_gap pairs key i gap = offset_none pairs key (λ k in_range same. elim (cases_lt k i) [
  | inl before ↦ omega (arith, gap.below k before)
  | inr from ↦ omega (arith, gap.above k from in_range)
])

-- a key that has none isn't there
pub offset_absent : (pairs : List (ℕ × ℕ)) (key i : ℕ) → IsInOrder pairs → IsAt pairs key i → offset_at key pairs ≡ None → ⊥
offset_absent pairs key i ok at none =
    let some : Some (get_or pairs i (0, 0)).1 ≡ None = sym (offset_found pairs key i (0, 0) ok at) ∙ none in cc

-- ---- one more

-- the gap keeps the order
in_order_insert : (pairs : List (ℕ × ℕ)) (key at offset : ℕ) → IsInOrder pairs → IsGapFor pairs key at
    → IsInOrder (insert pairs at (key, offset))
in_order_insert pairs key at offset ok gap i j lt in_range =
    let old = keys pairs in
    let new = insert old at key in
    let capacity : at ≤ length old = omega (arith, gap.inside, length_keys pairs) in
    let length_new = length-insert pairs at (key, offset) gap.inside in
    let key_below : (i : ℕ) → i < at → get_or new i 0 ≡ get_or old i 0 = λ i below. get_or-insert_below old at key 0 i below capacity in
    let key_here : (i : ℕ) → i ≡ at → get_or new i 0 ≡ key = λ i here. rw here (get_or-insert_at old at key 0 capacity) in
    let key_above : (i : ℕ) → at < i → get_or new i 0 ≡ get_or old (i - 1) 0 =
    λ i above. subst (λ q. get_or new q 0 ≡ get_or old (i - 1) 0) {x = i - 1 + 1} (omega arith)
    (get_or-insert_above old at key 0 (i - 1) (omega arith) capacity) in
    let rises : get_or new i 0 < get_or new j 0 =
    grind (
      arith,
      key_below i,
      key_here i,
      key_above i,
      key_below j,
      key_here j,
      key_above j,
      ok i j,
      ok i (j - 1),
      ok (i - 1) (j - 1),
      gap.below i,
      gap.above (j - 1),
      in_range,
      length_new,
    ) in
    rw keys_insert rises

-- the pair is found, and so are all others
offset_inserted : (pairs : List (ℕ × ℕ)) (key at offset k : ℕ) → offset_at key pairs ≡ None
    → offset_at k (insert pairs at (key, offset)) ≡ (if key == k then Some offset else offset_at k pairs)
offset_inserted pairs key zero offset k none = refl
offset_inserted [] key (suc at) offset k none = refl
offset_inserted (p ∷ pairs) key (suc at) offset k none = elim (cases_Bool (p.0 == key)) [
  | inl e ↦ let some : Some p.1 ≡ None = sym (cond-true (p.0 == key) (Some p.1) (offset_at key pairs) e) ∙ none in cc
  | inr e ↦
      let rest = offset_inserted pairs key at offset k (sym (cond-false (p.0 == key) (Some p.1) (offset_at key pairs) e) ∙ none) in
      elim (cases_Bool (p.0 == k)) [
        | inl f ↦
            let other : (key == k) ≡ false = ne_eqb key k (λ same.
            let some : true ≡ false = sym (subst (λ (x : ℕ). (p.0 == x) ≡ true) (sym same) f) ∙ e in cc) in
            cond-true (p.0 == k) (Some p.1) (offset_at k (insert pairs at (key, offset))) f
            ∙ sym (cond-true (p.0 == k) (Some p.1) (offset_at k pairs) f)
            ∙ sym (cond-false (key == k) (Some offset) (offset_at k (p ∷ pairs)) other)
        | inr f ↦
            cond-false (p.0 == k) (Some p.1) (offset_at k (insert pairs at (key, offset))) f ∙ rest
            ∙ ap (λ (x : Option ℕ). if key == k then Some offset else x) (sym (cond-false (p.0 == k) (Some p.1) (offset_at k pairs) f))
      ]
]

-- what a call leaves, whether it succeeded or not
module _ {A E : Type 0} where
  pub in_order_after : (r : Result A E) (old new : List (ℕ × ℕ)) (key at offset : ℕ)
      → new ≡ (if is_ok r then insert old at (key, offset) else old) → IsInOrder old → IsGapFor old key at → IsInOrder new
  in_order_after (Ok x) old new key at offset e ok gap =
      subst (λ (pairs : List (ℕ × ℕ)). IsInOrder pairs) (sym e) (in_order_insert old key at offset ok gap)
  in_order_after (Err x) old new key at offset e ok gap = subst (λ (pairs : List (ℕ × ℕ)). IsInOrder pairs) (sym e) ok

  pub found_after : (r : Result A E) (old new : List (ℕ × ℕ)) (key at offset : ℕ)
      → new ≡ (if is_ok r then insert old at (key, offset) else old) → offset_at key old ≡ None
      → OnOk r ((k : ℕ) → offset_at k new ≡ (if key == k then Some offset else offset_at k old))
  found_after (Ok x) old new key at offset e none = λ k. ap (offset_at k) e ∙ offset_inserted old key at offset k none
  found_after (Err x) old new key at offset e none = tt
