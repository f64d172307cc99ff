-- The checks of a list are faults: if the checks before it pass, one that fails is its fault.
use Rattle.std.proofs.Common.{◌≡◌, ℕ, ◌+◌, ◌<◌, ◌≤◌, inl, inr, true, false, not, Option, Some, None, option_map, List, [], ◌∷◌, ◌++◌}
use Rattle.std.proofs.Common.{length, sym, ◌∙◌, subst, arith}
use Rattle.std.specs.Prelude.{IfSome, option_to_list}
use Rattle.std.specs.List.{AllByRecursion, cons_option}
use Rattle.std.proofs.lemmas.Bool.{cases_Bool, cond-true, cond-false, and_cases, not-false}
use Rattle.px_bytes.specs.declared.Order.{Order}
use Rattle.px_bytes.specs.declared.Cause.{Cause}
use Rattle.px_bytes.specs.declared.Cause.TheVariants.{Overlap}
use Rattle.px_bytes.specs.Range.{Range, shares, is_free}
use Rattle.px_bytes.specs.lemmas.ApartLaws.{byte_from_test}
use Rattle.px_bytes.specs.Checks.{Check, first_false}
use Rattle.px_bytes.specs.lemmas.EachLaws.{each_map, each_append}
use Rattle.px_meaning.specs.Thumbnail.{IsInside}
use Rattle.px_tree.specs.Checks.{is_free_value}
use Rattle.px_tree.specs.Faults.{At, Begins, owners, ExifFault}
use Rattle.px_tree.proofs.assembling.Owned.{ranges}
use Rattle.px_tree.proofs.lists.At.{From, from_head, from_tail}
use Rattle.px_tree.proofs.assembling.Judged.{AllHold}

abbrev pub FaultsOf : List ℕ → List Check → Type 0
FaultsOf b [] = Unit {0}
FaultsOf b (k ∷ ks) = (k.holds ≡ false → ExifFault b k.cause k.place) × (k.holds ≡ true → FaultsOf b ks)

pub faults_append : (b : List ℕ) (xs ys : List Check) → FaultsOf b xs → (AllHold xs → FaultsOf b ys) → FaultsOf b (xs ++ ys)
faults_append b [] ys h f = f tt
faults_append b (k ∷ xs) ys h f = (h.0, λ t. faults_append b xs ys (h.1 t) (λ a. f (t, a)))

-- the first check that fails is its fault
pub first_reported : (b : List ℕ) (cs : List Check) (c : Cause) (p : ℕ) → FaultsOf b cs → first_false cs ≡ Some (c, p) → ExifFault b c p
first_reported b [] c p h e = cc
first_reported b (k ∷ cs) c p h e = elim (cases_Bool k.holds) [
  | inl t ↦ first_reported b cs c p (h.1 t) (sym (cond-true k.holds (first_false cs) (Some (k.cause, k.place)) t) ∙ e)
  | inr t ↦
      let q : ◌≡◌ {A = Option (Cause × ℕ)} (Some (k.cause, k.place)) (Some (c, p)) =
      sym (cond-false k.holds (first_false cs) (Some (k.cause, k.place)) t) ∙ e in
      let r : ◌≡◌ {A = Cause × ℕ} (k.cause, k.place) (c, p) = cc in
      subst (λ (f : Cause × ℕ). ExifFault b f.0 f.1) r (h.0 t)
]

-- ---- the claimed ranges

module _ (b : List ℕ) (o : Order) where
  -- the range of an owner before k, inside the block
  pub record IsOwned (k : ℕ) (r : Range) : Type 0 where
    pub index : ℕ
    pub place : ℕ
    pub before : index < k
    pub owner : At (owners b o) index (place, r)
    pub inside : IsInside b r

  abbrev pub Claimed : ℕ → List Range → Type 0
  Claimed k claimed = AllByRecursion (IsOwned k) claimed

  later : (k l : ℕ) → k ≤ l → (r : Range) → IsOwned k r → IsOwned l r
  later k l h r w =
      record { index = w.index; place = w.place; before = (let n = w.before in omega arith); owner = w.owner; inside = w.inside }

  pub claimed_later : (k l : ℕ) (claimed : List Range) → k ≤ l → Claimed k claimed → Claimed l claimed
  claimed_later k l claimed h w = each_map (IsOwned k) (IsOwned l) (later k l h) claimed w

  -- the next owner is claimed too
  pub claimed_cons : (k p : ℕ) (r : Range) (claimed : List Range) → At (owners b o) k (p, r) → IsInside b r → Claimed k claimed
      → Claimed (k + 1) (r ∷ claimed)
  claimed_cons k p r claimed a i h =
      (record { index = k; place = p; before = omega arith; owner = a; inside = i }, claimed_later k (k + 1) claimed (omega arith) h)

  claimed_ranges : (k : ℕ) (xs : List (ℕ × Range)) → From (owners b o) k xs → AllByRecursion (IsInside b) (ranges xs)
      → Claimed (k + length xs) (ranges xs)
  claimed_ranges k [] f i = tt
  claimed_ranges k (x ∷ xs) f i =
      let z : k + 1 + length xs ≡ k + length (x ∷ xs) = omega arith in (
        record { index = k; place = x.0; before = omega arith; owner = from_head (owners b o) k x xs f; inside = i.0 },
        subst (λ l. Claimed l (ranges xs)) z (claimed_ranges (k + 1) xs (from_tail (owners b o) k x xs f) i.1),
      )

  -- and so are the next owners
  pub claimed_append : (k : ℕ) (xs : List (ℕ × Range)) (rs claimed : List Range) → ranges xs ≡ rs → From (owners b o) k xs
      → AllByRecursion (IsInside b) rs → Claimed k claimed → Claimed (k + length xs) (rs ++ claimed)
  claimed_append k xs rs claimed e f i h = each_append (IsOwned (k + length xs)) rs claimed
      (subst (Claimed (k + length xs)) e (claimed_ranges k xs f (subst (AllByRecursion (IsInside b)) (sym e) i)))
      (claimed_later k (k + length xs) claimed (omega arith) h)

  -- ---- overlaps

  -- an owner whose range is not free shares a byte with one before it
  pub overlap_reported : Begins b o → (k p : ℕ) (s : Range) (claimed : List Range) → At (owners b o) k (p, s) → Claimed k claimed → IsInside b s
      → is_free claimed s ≡ false → ExifFault b Overlap p
  overlap_reported g k p s [] a h i e = cc
  overlap_reported g k p s (r ∷ claimed) a h i e = elim (and_cases (not (shares s r)) (is_free claimed s) e) [
    | inl q ↦
        let w = h.0 in
        let y = byte_from_test s r (not-false (shares s r) q) in
        (o, w.index, k, w.place, r, s, y.0, g, w.before, w.owner, a, w.inside, i, y.2, y.1)
    | inr q ↦ overlap_reported g k p s claimed a h.1 i q
  ]

  -- the same for a value that may have an offset
  module _ (p k : ℕ) (rest : List (ℕ × Range)) where
    abbrev Next : Option Range → Type 0
    Next z = From (owners b o) k (cons_option (option_map (λ r. (p, r)) z) rest)

    pub value_reported : Begins b o → (z : Option Range) (claimed : List Range) → Next z → Claimed k claimed → IfSome z (IsInside b)
        → is_free_value claimed z ≡ false → ExifFault b Overlap p
    value_reported g None claimed f h i e = cc
    value_reported g (Some r) claimed f h i e = overlap_reported g k p r claimed (from_head (owners b o) k (p, r) rest f) h i e

    -- the ranges claimed after it
    pub after_value : (z : Option Range) (claimed : List Range) → Next z → Claimed k claimed → IfSome z (IsInside b)
        → (l : ℕ) × From (owners b o) l rest × Claimed l (option_to_list z ++ claimed)
    after_value None claimed f h i = (k, f, h)
    after_value (Some r) claimed f h i =
        (k + 1, from_tail (owners b o) k (p, r) rest f, claimed_cons k p r claimed (from_head (owners b o) k (p, r) rest f) i h)
