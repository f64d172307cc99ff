-- Ranges that share no byte: the test, and their total length.
use Rattle.std.proofs.Common.{◌≡◌, ℕ, zero, suc, ◌+◌, ◌-◌, ◌<◌, ◌≤◌, inl, inr, max, min, Bool, true, false, not, ◌&&◌, nat_lt, List, []}
use Rattle.std.proofs.Common.{◌∷◌, ◌++◌, refl, sym, ap, ◌∙◌, subst, arith, ltb-true, lt-ltb}
use Rattle.std.specs.List.{AllByRecursion}
use Rattle.std.proofs.lemmas.Bool.{and_parts, and_from, not-true, not_from_false, both_ways, cases_lt, false_from_ne_true}
use Rattle.px_bytes.specs.Range.{Range, range, IsIn, Apart, AllApart, shares, is_free}
use Rattle.px_bytes.specs.calls.Freed.{SameFree}

-- ---- the test

-- the test finds ranges that share a byte
pub shares_true : (r s : Range) (p : ℕ) → IsIn p r → IsIn p s → shares r s ≡ true
shares_true r s p i j =
    and_from _ _ (and_from _ _ (and_from _ _ (lt-ltb 0 r.size (omega arith)) (lt-ltb 0 s.size (omega arith)))
    (lt-ltb r.start (s.start + s.size) (omega arith))) (lt-ltb s.start (r.start + r.size) (omega arith))

-- ranges that pass the test share no byte
pub apart_from_test : (r s : Range) → not (shares r s) ≡ true → Apart r s
apart_from_test r s e p i j = both_ways (shares r s) (not-true (shares r s) e) (shares_true r s p i j)

-- ranges that fail the test share a byte
pub byte_from_test : (r s : Range) → shares r s ≡ true → (p : ℕ) × IsIn p r × IsIn p s
byte_from_test r s h =
    let a = and_parts (nat_lt 0 r.size && nat_lt 0 s.size && nat_lt r.start (s.start + s.size)) (nat_lt s.start (r.start + r.size)) h in
    let b = and_parts (nat_lt 0 r.size && nat_lt 0 s.size) (nat_lt r.start (s.start + s.size)) a.0 in
    let c = and_parts (nat_lt 0 r.size) (nat_lt 0 s.size) b.0 in
    let n1 : 0 < r.size = ltb-true _ _ c.0 in
    let n2 : 0 < s.size = ltb-true _ _ c.1 in
    let n3 : r.start < s.start + s.size = ltb-true _ _ b.1 in
    let n4 : s.start < r.start + r.size = ltb-true _ _ a.1 in
    (max r.start s.start, (omega arith, omega arith), (omega arith, omega arith))

-- a range that is free is apart from each
pub apart_each : (r : Range) (rs : List Range) → is_free rs r ≡ true → AllByRecursion (Apart r) rs
apart_each r [] e = tt
apart_each r (s ∷ rs) e = (apart_from_test r s (and_parts _ _ e).0, apart_each r rs (and_parts _ _ e).1)

-- the converse: ranges that share no byte pass the test
pub test_from_apart : (r s : Range) → Apart r s → not (shares r s) ≡ true
test_from_apart r s a = not_from_false (shares r s) (false_from_ne_true (shares r s) (λ e.
    let h = and_parts (nat_lt 0 r.size && nat_lt 0 s.size && nat_lt r.start (s.start + s.size)) (nat_lt s.start (r.start + r.size)) e in
    let g = and_parts (nat_lt 0 r.size && nat_lt 0 s.size) (nat_lt r.start (s.start + s.size)) h.0 in
    let f = and_parts (nat_lt 0 r.size) (nat_lt 0 s.size) g.0 in
    let n1 : 0 < r.size = ltb-true _ _ f.0 in
    let n2 : 0 < s.size = ltb-true _ _ f.1 in
    let n3 : r.start < s.start + s.size = ltb-true _ _ g.1 in
    let n4 : s.start < r.start + r.size = ltb-true _ _ h.1 in
    elim (cases_lt r.start s.start) [
      | inl l ↦ a s.start (omega arith, omega arith) (omega arith, omega arith)
      | inr l ↦ a r.start (omega arith, omega arith) (omega arith, omega arith)
    ]))

-- ---- bytes that lists leave free

-- a range is free of two lists if it is free of both
pub is_free_append : (xs ys : List Range) (r : Range) → is_free (xs ++ ys) r ≡ (is_free xs r && is_free ys r)
is_free_append [] ys r = refl
is_free_append (x ∷ xs) ys r =
    ap (λ (t : Bool). not (shares r x) && t) (is_free_append xs ys r) ∙ regroup (not (shares r x)) (is_free xs r) (is_free ys r)
  where
    regroup : (p q t : Bool) → (p && (q && t)) ≡ ((p && q) && t)
    regroup true q t = refl
    regroup false q t = refl

-- one range between two lists, and before them
pub same_front : (x : Range) (xs ys : List Range) → SameFree (xs ++ (x ∷ ys)) (x ∷ (xs ++ ys))
same_front x xs ys s n =
    is_free_append xs (x ∷ ys) (range s n) ∙ swap (is_free xs (range s n)) (not (shares (range s n) x)) (is_free ys (range s n))
    ∙ ap (λ (t : Bool). not (shares (range s n) x) && t) (sym (is_free_append xs ys (range s n)))
  where
    swap : (p q t : Bool) → (p && (q && t)) ≡ (q && (p && t))
    swap true true t = refl
    swap true false t = refl
    swap false true t = refl
    swap false false t = refl

pub same_refl : (xs : List Range) → SameFree xs xs
same_refl xs s n = refl

pub same_trans : (xs ys zs : List Range) → SameFree xs ys → SameFree ys zs → SameFree xs zs
same_trans xs ys zs h k s n = h s n ∙ k s n

-- ---- the total length of disjoint ranges: at most one byte for each offset

abbrev pub total : List Range → ℕ
total [] = 0
total (r ∷ rs) = r.size + total rs

-- the number of a range's bytes below n
abbrev below : ℕ → Range → ℕ
below n r = min n (r.start + r.size) - min n r.start

abbrev all_below : ℕ → List Range → ℕ
all_below n [] = 0
all_below n (r ∷ rs) = below n r + all_below n rs

none_here : (n : ℕ) (rs : List Range) → AllByRecursion (λ r. IsIn n r → ⊥) rs → all_below (suc n) rs ≡ all_below n rs
none_here n [] h = refl
none_here n (r ∷ rs) h = let e = none_here n rs h.1 in
    let k : below (suc n) r ≡ below n r =
    elim (cases_lt n r.start) [
      | inl l ↦ omega arith
      | inr l ↦ elim (cases_lt n (r.start + r.size)) [
        | inl m ↦ absurd (h.0 (l, m))
        | inr m ↦
            omega arith
      ]
    ] in
    omega arith

apart_there : (n : ℕ) (r : Range) (rs : List Range) → IsIn n r → AllByRecursion (Apart r) rs → AllByRecursion (λ s. IsIn n s → ⊥) rs
apart_there n r [] i h = tt
apart_there n r (s ∷ rs) i h = (h.0 n i, apart_there n r rs i h.1)

one_more : (n : ℕ) (rs : List Range) → AllApart rs → all_below (suc n) rs ≤ all_below n rs + 1
one_more n [] h = omega arith
one_more n (r ∷ rs) h =
    let k : below (suc n) r ≤ below n r + 1 = omega arith in
    elim (cases_lt n r.start) [
      | inl l ↦ let e = one_more n rs h.1 in omega arith
      | inr l ↦ elim (cases_lt n (r.start + r.size)) [
        | inl m ↦ let e = none_here n rs (apart_there n r rs (l, m) h.0) in omega arith
        | inr m ↦ let e = one_more n rs h.1 in omega arith
      ]
    ]

at_most : (n : ℕ) (rs : List Range) → AllApart rs → all_below n rs ≤ n
at_most zero rs h = zero_below rs
  where
    zero_below : (rs : List Range) → all_below 0 rs ≤ 0
    zero_below [] = omega arith
    zero_below (r ∷ rs) = let e = zero_below rs in omega arith
at_most (suc n) rs h = let e = at_most n rs h in let f = one_more n rs h in omega arith

inside_below : (n : ℕ) (rs : List Range) → AllByRecursion (λ r. r.start + r.size ≤ n) rs → total rs ≡ all_below n rs
inside_below n [] h = refl
inside_below n (r ∷ rs) h = let e = inside_below n rs h.1 in let f = h.0 in omega arith

-- Disjoint ranges below n have at most n bytes together.
pub total_le : (n : ℕ) (rs : List Range) → AllApart rs → AllByRecursion (λ r. r.start + r.size ≤ n) rs → total rs ≤ n
total_le n rs a i = subst (λ x. x ≤ n) (sym (inside_below n rs i)) (at_most n rs a)
