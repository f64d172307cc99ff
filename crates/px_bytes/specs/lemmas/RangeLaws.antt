-- A list of ranges and the claimed ranges.
use Rattle.std.proofs.Common.{subst, [], refl, None, Some, ◌≡◌, ℕ, ◌+◌, ◌≤◌, ◌<◌, inl, inr, min, max, true, not, ◌&&◌, nat_lt, List, ◌∷◌}
use Rattle.std.proofs.Common.{sym, ◌∙◌, arith, ltb-true, lt-ltb}
use Rattle.std.proofs.lemmas.Bool.{and_parts, and_from, not-true, not_from_false, both_ways, cases_lt, false_from_ne_true}
use Rattle.px_bytes.specs.Claimed.{IsClaimed, IsFree, Takes}
use Rattle.px_bytes.specs.Range.{Range, range, shares, is_free, Agrees}
use Rattle.px_bytes.specs.calls.Freed.{SameFree}

-- ranges that share no byte, as one inequality
gap_from_test : (s n t m : ℕ) → not (shares (range s n) (range t m)) ≡ true → min (s + n) (t + m) ≤ max s t
gap_from_test s n t m h =
    elim (cases_lt (max s t) (min (s + n) (t + m))) [
      | inl l ↦ absurd (both_ways (shares (range s n) (range t m)) (not-true _ h)
          (and_from _ _ (and_from _ _ (and_from _ _ (lt-ltb 0 n (omega arith)) (lt-ltb 0 m (omega arith)))
          (lt-ltb s (t + m) (omega arith))) (lt-ltb t (s + n) (omega arith))))
      | inr l ↦ l
    ]

pub test_from_gap : (s n t m : ℕ) → min (s + n) (t + m) ≤ max s t → not (shares (range s n) (range t m)) ≡ true
test_from_gap s n t m l = not_from_false _ (false_from_ne_true (shares (range s n) (range t m)) (λ e.
    let h = and_parts (nat_lt 0 n && nat_lt 0 m && nat_lt s (t + m)) (nat_lt t (s + n)) e in
    let g = and_parts (nat_lt 0 n && nat_lt 0 m) (nat_lt s (t + m)) h.0 in
    let f = and_parts (nat_lt 0 n) (nat_lt 0 m) g.0 in
    let n1 : 0 < n = ltb-true _ _ f.0 in
    let n2 : 0 < m = ltb-true _ _ f.1 in
    let n3 : s < t + m = ltb-true _ _ g.1 in
    let n4 : t < s + n = ltb-true _ _ h.1 in
    omega arith))

-- a range is free of the list exactly if no claimed range has a byte of it
pub is_free_free : (taken : List Range) (claimed : List (ℕ × ℕ)) (s n : ℕ) → Agrees taken claimed → IsFree claimed s (s + n)
    → is_free taken (range s n) ≡ true
is_free_free taken claimed s n a h = a.all_free s n h

-- one more range
pub agrees_takes : (taken : List Range) (old new : List (ℕ × ℕ)) (s n : ℕ) → Agrees taken old → Takes old new s (s + n)
    → Agrees (range s n ∷ taken) new
agrees_takes taken old new s n a k = record {
  free = λ t m h u e holds. let p = and_parts _ _ h in
      elim (k.only u e holds) [
        | inl q ↦ let g = gap_from_test t m s n p.0 in let q0 = q.0 in let q1 = q.1 in omega arith
        | inr q ↦ a.free t m p.1 u e q
      ];
  all_free =
      λ t m h. and_from _ _ (test_from_gap t m s n (let g = h s (s + n) k.here in omega arith))
      (a.all_free t m (λ u e holds. h u e (k.kept u e holds)));
}

-- lists that leave the same bytes free agree with the same claimed ranges
pub agrees_same : (xs ys : List Range) (claimed : List (ℕ × ℕ)) → SameFree xs ys → Agrees xs claimed → Agrees ys claimed
agrees_same xs ys claimed e a = record {
  free = λ s n h. a.free s n (e s n ∙ h);
  all_free = λ s n h. sym (e s n) ∙ a.all_free s n h;
}

-- nothing is claimed
pub agrees_none : (claimed : List (ℕ × ℕ)) → claimed ≡ [] → Agrees [] claimed
agrees_none claimed z = record {
  free = λ s n h t e holds. let clash : None ≡ Some e = subst (λ (xs : List (ℕ × ℕ)). IsClaimed xs t e) z holds in absurd (cc);
  all_free = λ s n h. refl;
}
