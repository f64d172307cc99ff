-- Ranges judged one by one.
use Rattle.std.proofs.Common.{◌≡◌, ℕ, zero, suc, ◌+◌, List, [], ◌∷◌, None, Some, drop, length, sym, ap, ◌∙◌, arith, nat_le}
use Rattle.std.proofs.Common.{slice_get}
use Rattle.px_bytes.specs.declared.Refusal.{Refusal}
use Rattle.px_bytes.specs.declared.Cause.TheVariants.{Overlap, ThumbnailOutside}
use Rattle.px_bytes.specs.Range.{Range, range, is_free, Agrees}
use Rattle.px_bytes.specs.Checks.{Check, check, first_false, Refuses}
use Rattle.px_bytes.specs.lemmas.CheckLaws.{first_false_true, Refuses_more, Refuses_same}
use Rattle.px_meaning.specs.Thumbnail.{ranges_of}
use Rattle.px_tree.specs.Checks.{range_checks}

-- what is left of the pairs has one more range
pub ranges_next : (xs ns : List ℕ) (i x n : ℕ) → slice_get xs i ≡ Some x → slice_get ns i ≡ Some n
    → ranges_of (drop i xs) (drop i ns) ≡ range x n ∷ ranges_of (drop (i + 1) xs) (drop (i + 1) ns)
ranges_next xs ns i x n h k =
    go xs ns i h k ∙ (let e : suc i ≡ i + 1 = omega arith in ap (λ (j : ℕ). range x n ∷ ranges_of (drop j xs) (drop j ns)) e)
  where
    go : (xs ns : List ℕ) (i : ℕ) → slice_get xs i ≡ Some x → slice_get ns i ≡ Some n
        → ranges_of (drop i xs) (drop i ns) ≡ range x n ∷ ranges_of (drop (suc i) xs) (drop (suc i) ns)
    go [] ns i h k = cc
    go (y ∷ xs) [] i h k = cc
    go (y ∷ xs) (m ∷ ns) zero h k = let p : y ≡ x = cc in let q : m ≡ n = cc in cc
    go (y ∷ xs) (m ∷ ns) (suc i) h k = go xs ns i h k

abbrev pub range_check : List ℕ → ℕ → List Range → Range → List Check
range_check b p now r = check ThumbnailOutside p (nat_le (r.start + r.size) (length b)) ∷ check Overlap p (is_free now r) ∷ []

module _ (b : List ℕ) (p : ℕ) (taken all : List Range) where
  pub record RangesSoFar (claimed : List (ℕ × ℕ)) (rest : List Range) : Type 0 where
    pub now : List Range
    pub agrees : Agrees now claimed
    pub faults : first_false (range_checks b p now rest) ≡ first_false (range_checks b p taken all)

  module _ (claimed : List (ℕ × ℕ)) (rest : List Range) (r : Range) (rs : List Range) (is : rest ≡ r ∷ rs) (s : RangesSoFar claimed rest) where
    pub ranges_refuse : (e : Refusal) → Refuses e (range_check b p s.now r) → Refuses e (range_checks b p taken all)
    ranges_refuse e h = Refuses_same e (range_checks b p s.now (r ∷ rs)) (range_checks b p taken all)
        (ap (λ (xs : List Range). first_false (range_checks b p s.now xs)) (sym is) ∙ s.faults)
        (Refuses_more e (range_check b p s.now r) (range_checks b p (r ∷ s.now) rs) h)

    pub ranges_step : (new : List (ℕ × ℕ)) → first_false (range_check b p s.now r) ≡ None → Agrees (r ∷ s.now) new → RangesSoFar new rs
    ranges_step new h a = record {
      now = r ∷ s.now;
      agrees = a;
      faults = sym (first_false_true (range_check b p s.now r) (range_checks b p (r ∷ s.now) rs) h)
          ∙ ap (λ (xs : List Range). first_false (range_checks b p s.now xs)) (sym is) ∙ s.faults;
    }
