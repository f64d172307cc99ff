-- The first fault is a fault: all checks of a block are.
use Rattle.std.proofs.Common.{◌≡◌, ℕ, ◌+◌, ◌≤◌, ◌||◌, nat_lt, inl, inr, true, false, Option, Some, None, option_map, List, [], ◌∷◌, ◌++◌}
use Rattle.std.proofs.Common.{flat_map, length, take, refl, sym, subst, arith, leb-true, leb-false, ltb-false}
use Rattle.std.specs.Prelude.{IfSome}
use Rattle.std.proofs.lemmas.Bool.{and_cases, or_parts, both_ways}
use Rattle.px_bytes.specs.declared.Order.{Order}
use Rattle.px_bytes.specs.declared.Order.TheVariants.{Least, Most}
use Rattle.px_bytes.specs.declared.Cause.{Cause}
use Rattle.px_bytes.specs.declared.Cause.TheVariants as cause
use Rattle.px_bytes.specs.Parts.{limit}
use Rattle.px_bytes.specs.Range.{Range, range}
use Rattle.px_meaning.specs.declared.Dir.TheVariants.{Thumb}
use Rattle.px_meaning.specs.Entry.{IsDirectory}
use Rattle.px_meaning.specs.Directory.{magic, dirs, dir_at}
use Rattle.px_meaning.specs.Footprint.{listed}
use Rattle.px_tree.specs.Checks.{same_bytes, order_of, begins_header, header_checks, dirs_checks, dirs_claimed, thumb_checks_at, tree_checks}
use Rattle.px_tree.specs.Checks.{checks_in, checks, FirstExifFault}
use Rattle.px_tree.specs.Faults.{Begins, owners_at, thumb_owners, owners, ExifFault}
use Rattle.px_tree.proofs.lists.At.{From, from_all, from_head, from_tail, from_left, from_right}
use Rattle.px_tree.proofs.assembling.Judged.{dirs_facts, bytes_self, header_begun, order_reported}
use Rattle.px_tree.proofs.faulting.Reported.{FaultsOf, faults_append, first_reported, Claimed}
use Rattle.px_tree.proofs.faulting.ReportedDirs.{dirs_decide, dirs_kept}
use Rattle.px_tree.proofs.faulting.ReportedThumb.{thumb_decides}

-- ---- the header

kind_reported : (b : List ℕ) → begins_header b ≡ false → ExifFault b cause.UnknownKind 0
kind_reported b h =
    elim (and_cases (nat_lt 0 (length b)) (same_bytes (take 4 b) (take (length b) (magic Least)) || same_bytes (take 4 b)
    (take (length b) (magic Most))) h) [
      | inl n ↦ let l : length b ≤ 0 = ltb-false 0 (length b) n in (refl, inl (omega arith))
      | inr n ↦ (
        refl,
        inr (neither (or_parts (same_bytes (take 4 b) (take (length b) (magic Least)))
            (same_bytes (take 4 b) (take (length b) (magic Most))) n)),
      )
    ]
  where
    differ : (x y : List ℕ) → same_bytes x y ≡ false → x ≡ y → ⊥
    differ x y n q = both_ways (same_bytes x y) n (subst (λ y. same_bytes x y ≡ true) q (bytes_self x))

    neither : (same_bytes (take 4 b) (take (length b) (magic Least)) ≡ false) ×
        (same_bytes (take 4 b) (take (length b) (magic Most)) ≡ false) → (o : Order) → take 4 b ≡ take (length b) (magic o) → ⊥
    neither n Least q = differ (take 4 b) (take (length b) (magic Least)) n.0 q
    neither n Most q = differ (take 4 b) (take (length b) (magic Most)) n.1 q

header_decides : (b : List ℕ) → FaultsOf b (header_checks b)
header_decides b = (
  λ h. (refl, leb-false (length b) limit h),
  λ _. (kind_reported b, λ _. (λ h. (refl, leb-false 8 (length b) h), λ _. tt)),
)

-- ---- the tree

module _ (b : List ℕ) (o : Order) (begins : Begins b o) where
  thumb_decides_at : (z : Option ℕ) → dir_at b o Thumb ≡ z → IfSome z (IsDirectory b o Thumb) → (claimed : List Range) (k : ℕ)
      → From (owners b o) k (listed (option_map (thumb_owners b o) z)) → Claimed b o k claimed → FaultsOf b (thumb_checks_at b o claimed z)
  thumb_decides_at None q i claimed k f g = tt
  thumb_decides_at (Some a) q i claimed k f g = thumb_decides b o a (begins, q) i.each claimed k f g

  abbrev header : List Range
  header = range 0 8 ∷ []

  abbrev in_dirs : List (ℕ × Range)
  in_dirs = flat_map (owners_at b o) dirs

  abbrev in_thumb : List (ℕ × Range)
  in_thumb = listed (option_map (thumb_owners b o) (dir_at b o Thumb))

  whole : From (owners b o) 0 ((0, range 0 8) ∷ in_dirs ++ in_thumb)
  unfolding owners
  whole = from_all ((0, range 0 8) ∷ in_dirs ++ in_thumb)

  after : From (owners b o) 1 (in_dirs ++ in_thumb)
  after = from_tail (owners b o) 0 (0, range 0 8) (in_dirs ++ in_thumb) whole

  header_claimed : Claimed b o 1 header
  header_claimed = (
    record {
      index =
          0;
      place = 0;
      before = omega arith;
      owner = from_head (owners b o) 0 (0, range 0 8) (in_dirs ++ in_thumb) whole;
      inside = begins.0;
    },
    tt,
  )

  tree_decides : FaultsOf b (tree_checks b o)
  unfolding tree_checks
  tree_decides =
      let here : From (owners b o) 1 in_dirs = from_left (owners b o) 1 in_dirs in_thumb after in
      faults_append b (dirs_checks b o [] header dirs) (thumb_checks_at b o (dirs_claimed b o header dirs) (dir_at b o Thumb))
      (dirs_decide b o begins 0 dirs [] header 1 (refl, (refl, (refl, (refl, (refl, tt))))) tt here header_claimed)
      (λ all.
      let i = (dirs_facts b o [] header dirs all).0 in
      thumb_decides_at (dir_at b o Thumb) refl i.1.1.1.1.0 (dirs_claimed b o header dirs) (1 + length in_dirs)
      (from_right (owners b o) 1 in_dirs in_thumb after)
      (dirs_kept b o begins dirs header 1 i here header_claimed))

-- ---- all checks

checks_decide : (b : List ℕ) → FaultsOf b (checks b)
unfolding checks
checks_decide b = faults_append b (header_checks b) (checks_in b (order_of b)) (header_decides b)
    (λ all.
    let least : 8 ≤ length b = leb-true 8 (length b) all.1.1.0 in
    let o = header_begun b least all.1.0 in
    subst (λ z. FaultsOf b (checks_in b z)) (sym (order_reported b o.0 o.1)) (tree_decides b o.0 (least, o.1)))

-- The first fault is a fault of the block.
pub first_is_fault : (b : List ℕ) (c : Cause) (p : ℕ) → FirstExifFault b c p → ExifFault b c p
first_is_fault b c p h = first_reported b (checks b) c p (checks_decide b) h
