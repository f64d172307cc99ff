-- Groups in ascending order: a DataSet put, and how many there are.
use Rattle.std.proofs.Common.{◌≡◌, ℕ, ◌+◌, ◌*◌, ◌<◌, ◌≤◌, ◌==◌, true, ◌||◌, List, [], ◌∷◌, length, inl, inr, arith}
use Rattle.std.specs.List.{AllByRecursion}
use Rattle.std.proofs.lemmas.Bool.{cond_both}
use Rattle.px_iim.specs.DataSet.{DataSet}
use Rattle.px_iim.specs.Group.{Group, Record, named, put, is_before, IsAscending, IsItem, IsGroup, AreGroups}
use Rattle.px_iim.specs.lemmas.KeyLaws.{before_parts}
use Rattle.px_iim.specs.lemmas.GroupLaws.{After, put_ascends}
use Rattle.px_iim.specs.lemmas.RecordLaws.{IsGood, put_groups}

-- a DataSet put
pub whole_put : (d : DataSet) → IsGood d → (gs : Record) → AreGroups gs → AreGroups (put d gs)
whole_put d good gs a = record { ascending = put_ascends d gs a.ascending; groups = put_groups d gs good a.groups }

-- ---- there are at most 65,536 groups

pub named_byte : (r n : ℕ) → n < 256 → named r n < 256
unfolding named
named_byte r n h =
    cond_both (r == 2) _ _ (λ x. x < 256)
    (λ e. cond_both (n == 27) _ _ (λ x. x < 256) (λ f. omega arith)
    (λ f. cond_both ((n == 47) || (n == 50)) _ _ (λ x. x < 256) (λ k. omega arith)
    (λ k. cond_both (n == 85) _ _ (λ x. x < 256) (λ q. omega arith) (λ q. h))))
    (λ e. h)

abbrev rank : Group → ℕ
rank g = 256 * g.rec + g.number

number_byte : (g : Group) → IsGroup g → g.number < 256
number_byte g h = go g.rec g.number g.items h.some h.items where
  go : (r n : ℕ) (xs : List (ℕ × List ℕ)) → 1 ≤ length xs → AllByRecursion (IsItem r n) xs → n < 256
  go r n [] l a = absurd (omega arith)
  go r n (x ∷ xs) l a = omega (arith, named_byte r x.0 (a.0).byte, (a.0).member)

ranks_rise : (g h : Group) → g.number < 256 → h.number < 256 → is_before g.rec g.number h.rec h.number ≡ true → rank g < rank h
ranks_rise g h a b e = elim (before_parts g.rec g.number h.rec h.number e) [ inl f ↦ omega arith | inr f ↦ omega (arith, f.0, f.1) ]

all_above : (g : Group) (gs : Record) → g.number < 256 → AllByRecursion IsGroup gs → AllByRecursion (After g.rec g.number) gs
    → AllByRecursion (λ h. rank g + 1 ≤ rank h) gs
all_above g [] a b e = tt
all_above g (h ∷ hs) a b e = (omega (arith, ranks_rise g h a (number_byte h b.0) e.0), all_above g hs a b.1 e.1)

length_ascending : (b : ℕ) (gs : Record) → b ≤ 65536 → IsAscending gs → AllByRecursion IsGroup gs → AllByRecursion (λ h. b ≤ rank h) gs
    → length gs + b ≤ 65536
length_ascending b [] l a w r = omega arith
length_ascending b (g ∷ gs) l a w r =
    let n = number_byte g w.0 in
    let top : g.rec < 256 = (w.0).byte in
    let above = all_above g gs n w.1 a.0 in
    omega (arith, r.0, length_ascending (rank g + 1) gs (omega arith) a.1 w.1 above)

all_zero : (gs : Record) → AllByRecursion (λ h. 0 ≤ rank h) gs
all_zero [] = tt
all_zero (g ∷ gs) = (omega arith, all_zero gs)

pub few_groups : (gs : Record) → AreGroups gs → length gs ≤ 65536
few_groups gs a = omega (arith, length_ascending 0 gs (omega arith) a.ascending a.groups (all_zero gs))
