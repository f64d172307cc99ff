-- The checks of the thumbnail are faults.
use Rattle.std.proofs.Common.{◌≡◌, ℕ, suc, ◌+◌, ◌*◌, ◌==◌, inl, inr, false, Option, Some, None, is_some, List, [], ◌∷◌, ◌++◌, map, length}
use Rattle.std.proofs.Common.{refl, sym, ◌∙◌, ap, subst, arith, leb-true, leb-false, eqb-true, eq-eqb}
use Rattle.std.specs.Prelude.{option_to_list}
use Rattle.std.specs.List.{AllByRecursion}
use Rattle.std.proofs.lemmas.Bool.{cases_Bool, cond-true, cond-false, both_ways, eqb-false}
use Rattle.px_bytes.specs.declared.Order.{Order}
use Rattle.px_bytes.specs.declared.Cause.TheVariants as cause
use Rattle.px_bytes.specs.Range.{Range, range}
use Rattle.px_bytes.specs.lemmas.EachLaws.{all_at}
use Rattle.px_meaning.specs.declared.Dir.TheVariants.{Thumb}
use Rattle.px_meaning.specs.Roles.{jpeg_offset_tag, jpeg_length_tag, strip_offsets_tag, strip_lengths_tag, at_tag}
use Rattle.px_meaning.specs.Entry.{Entry, next, table, offset, IsEntry}
use Rattle.px_meaning.specs.Directory.{entries_at, entry_with}
use Rattle.px_meaning.specs.Thumbnail.{both, are_paired, numbers, jpeg_range, ranges_of, strip_ranges, IsInside}
use Rattle.px_meaning.specs.Footprint.{listed}
use Rattle.px_tree.specs.Checks.{place_with, pair_place, same_count, pair_checks, end_checks, range_checks, part_checks, thumb_checks}
use Rattle.px_tree.specs.Faults.{At, Reached, EntryAt, thumb_owners, owners, partners, PartAt, ExifFault}
use Rattle.px_tree.proofs.assembling.Owned.{ranges_placed}
use Rattle.px_tree.proofs.lists.At.{From, from_head, from_tail, from_left, from_right, each_from_at, contains_at}
use Rattle.px_tree.proofs.assembling.Judged.{ranges_facts}
use Rattle.px_tree.proofs.faulting.Reported.{FaultsOf, faults_append, Claimed, claimed_cons, claimed_append, overlap_reported}

-- an entry that is found is at its offset
pub record FoundAt (t p : ℕ) (es : List Entry) (e : Entry) : Type 0 where
  pub index : ℕ
  pub is : At es index e
  pub place : place_with t p es ≡ p + 12 * index
  pub tag : e.tag ≡ t

found_at : (t p : ℕ) (es : List Entry) (e : Entry) → entry_with t es ≡ Some e → FoundAt t p es e
found_at t p [] e h = cc
found_at t p (x ∷ es) e h = elim (cases_Bool (x.tag == t)) [
  | inl q ↦
      let k : Some x ≡ Some e = sym (cond-true (x.tag == t) (Some x) (entry_with t es) q) ∙ h in
      let l : x ≡ e = cc in
      record {
        index = 0;
        is = k;
        place = cond-true (x.tag == t) p (place_with t (p + 12) es) q
            ∙ (let z : p ≡ p + 12 * 0 = omega arith in z);
        tag = subst (λ (x : Entry). x.tag ≡ t) l (eqb-true x.tag t q);
      }
  | inr q ↦
      let w = found_at t (p + 12) es e (sym (cond-false (x.tag == t) (Some x) (entry_with t es) q) ∙ h) in
      record {
        index = suc w.index;
        is = w.is;
        place = cond-false (x.tag == t) p (place_with t (p + 12) es) q ∙ w.place
            ∙ (let z : p + 12 + 12 * w.index ≡ p + 12 * suc w.index = omega arith in z);
        tag = w.tag;
      }
]

module _ (b : List ℕ) (o : Order) (a : ℕ) (reached : Reached b o Thumb a) (each : AllByRecursion (IsEntry b o Thumb) (entries_at b o a))
  where
    abbrev es : List Entry
    es = entries_at b o a

    module _ (t : ℕ) (e : Entry) (is : entry_with t es ≡ Some e) where
      found : FoundAt t (a + 2) es e
      found = found_at t (a + 2) es e is

      entry_there : EntryAt b o Thumb found.index (place_with t (a + 2) es) e
      entry_there = (a, reached, found.is, found.place)

      entry_fine : IsEntry b o Thumb e
      entry_fine = all_at (IsEntry b o Thumb) es found.index e each found.is

    -- ---- pairs

    alone_reported : (t u : ℕ) (e : Entry) → at_tag t partners ≡ Some u → entry_with t es ≡ Some e → entry_with u es ≡ None
        → ExifFault b cause.ThumbnailPair (place_with t (a + 2) es)
    alone_reported t u e q h n =
        (o, a, (found t e h).index, e, reached, entry_there t e h, inl (u, ap (λ t. at_tag t partners) (found t e h).tag ∙ q, n))

    pair_reported : (t u : ℕ) → at_tag t partners ≡ Some u → at_tag u partners ≡ Some t → are_paired (entry_with t es) (entry_with u es) ≡ false
        → ExifFault b cause.ThumbnailPair (pair_place t u (a + 2) es)
    pair_reported t u q r h = go (entry_with t es) (entry_with u es) refl refl h
      where
        go : (y z : Option Entry) → entry_with t es ≡ y → entry_with u es ≡ z → are_paired y z ≡ false
            → ExifFault b cause.ThumbnailPair (pair_place t u (a + 2) es)
        go None None k l h = cc
        go (Some y) (Some z) k l h = cc
        go (Some y) None k l h =
            subst (λ p. ExifFault b cause.ThumbnailPair p) (sym (cond-true (is_some (entry_with t es)) (place_with t (a + 2) es)
            (place_with u (a + 2) es) (ap is_some k))) (alone_reported t u y q k l)
        go None (Some z) k l h =
            subst (λ p. ExifFault b cause.ThumbnailPair p) (sym (cond-false (is_some (entry_with t es)) (place_with t (a + 2) es)
            (place_with u (a + 2) es) (ap is_some k))) (alone_reported u t z r l k)

    count_reported : same_count (entry_with strip_offsets_tag es) (entry_with strip_lengths_tag es) ≡ false
        → ExifFault b cause.ThumbnailPair (place_with strip_offsets_tag (a + 2) es)
    count_reported h = go (entry_with strip_offsets_tag es) (entry_with strip_lengths_tag es) refl refl h
      where
        go : (y z : Option Entry) → entry_with strip_offsets_tag es ≡ y → entry_with strip_lengths_tag es ≡ z → same_count y z ≡ false
            → ExifFault b cause.ThumbnailPair (place_with strip_offsets_tag (a + 2) es)
        go None z k l h = cc
        go (Some y) None k l h = cc
        go (Some y) (Some z) k l h = (
          o,
          a,
          (found strip_offsets_tag y k).index,
          y,
          reached,
          entry_there strip_offsets_tag y k,
          inr (z, (found strip_offsets_tag y k).tag, l, λ e. both_ways (y.count == z.count) h (eq-eqb y.count z.count e)),
        )

    pairs_decide : FaultsOf b (pair_checks (a + 2) es)
    pairs_decide = (
      pair_reported jpeg_offset_tag jpeg_length_tag refl refl,
      λ _. (pair_reported strip_offsets_tag strip_lengths_tag refl refl, λ _. (count_reported, λ _. tt)),
    )

    end_decides : FaultsOf b (end_checks b o a)
    end_decides = (λ h. (o, a, reached, refl, eqb-false (next o (table b o a)) 0 h), λ _. tt)

    -- ---- the JPEG and the strips

    jpeg_parts : AllByRecursion (PartAt b o (place_with jpeg_offset_tag (a + 2) es)) (option_to_list (jpeg_range o es))
    unfolding jpeg_range
    jpeg_parts = go (entry_with jpeg_offset_tag es) (entry_with jpeg_length_tag es) refl refl
      where
        go : (y z : Option Entry) → entry_with jpeg_offset_tag es ≡ y → entry_with jpeg_length_tag es ≡ z
            → AllByRecursion (PartAt b o (place_with jpeg_offset_tag (a + 2) es))
            (option_to_list (both (λ x n. range (offset o x) (offset o n)) y z))
        go None z k l = tt
        go (Some y) None k l = tt
        go (Some y) (Some z) k l =
            let u = found jpeg_offset_tag y k in
            let v = found jpeg_length_tag z l in (
              (
                u.index,
                v.index,
                place_with jpeg_length_tag (a + 2) es,
                y,
                z,
                entry_there jpeg_offset_tag y k,
                entry_there jpeg_length_tag z
                    l,
                entry_fine jpeg_offset_tag y k,
                entry_fine jpeg_length_tag z l,
                inl (u.tag, v.tag, refl),
              ),
              tt,
            )

    strip_parts : AllByRecursion (PartAt b o (place_with strip_offsets_tag (a + 2) es)) (listed (strip_ranges b o es))
    unfolding strip_ranges
    strip_parts = go (entry_with strip_offsets_tag es) (entry_with strip_lengths_tag es) refl refl
      where
        go : (y z : Option Entry) → entry_with strip_offsets_tag es ≡ y → entry_with strip_lengths_tag es ≡ z
            → AllByRecursion (PartAt b o (place_with strip_offsets_tag (a + 2) es))
            (listed (both (λ x n. ranges_of (numbers b o x) (numbers b o n)) y z))
        go None z k l = tt
        go (Some y) None k l = tt
        go (Some y) (Some z) k l =
            let u = found strip_offsets_tag y k in
            let v = found strip_lengths_tag z l in
            let rs = ranges_of (numbers b o y) (numbers b o z) in
            each_from_at (PartAt b o (place_with strip_offsets_tag (a + 2) es)) rs
            (λ i r h. (
              u.index,
              v.index,
              place_with strip_lengths_tag (a + 2) es,
              y,
              z,
              entry_there strip_offsets_tag y k,
              entry_there
                  strip_lengths_tag z l,
              entry_fine strip_offsets_tag y k,
              entry_fine strip_lengths_tag z l,
              inr
                  (u.tag, v.tag, contains_at rs i r h),
            ))

    -- ranges of the entry at p
    ranges_decide : (p : ℕ) (claimed rs : List Range) (k : ℕ) → AllByRecursion (PartAt b o p) rs → From (owners b o) k (map (λ r. (p, r)) rs)
        → Claimed b o k claimed → FaultsOf b (range_checks b p claimed rs)
    ranges_decide p claimed [] k w f g = tt
    ranges_decide p claimed (r ∷ rs) k w f g =
        let here : At (owners b o) k (p, r) = from_head (owners b o) k (p, r) (map (λ r. (p, r)) rs) f in (
          λ h. (o, r, w.0, leb-false (r.start + r.size) (length b) h),
          λ i.
              let l : IsInside b r = leb-true (r.start + r.size) (length b) i in (
                overlap_reported b o reached.0 k p r claimed here g l,
                λ _. ranges_decide p (r ∷ claimed) rs (k + 1) w.1 (from_tail (owners b o) k (p, r) (map (λ r. (p, r)) rs) f)
                    (claimed_cons b o k p r claimed here l g),
              ),
        )

    -- ---- all of it

    pub thumb_decides : (claimed : List Range) (k : ℕ) → From (owners b o) k (thumb_owners b o a) → Claimed b o k claimed
        → FaultsOf b (thumb_checks b o claimed a)
    unfolding thumb_checks thumb_owners
    thumb_decides claimed k f g =
        let p = place_with jpeg_offset_tag (a + 2) es in
        let q = place_with strip_offsets_tag (a + 2) es in
        let js = option_to_list (jpeg_range o es) in
        let ss = listed (strip_ranges b o es) in
        let xs : List (ℕ × Range) = map (λ r. (p, r)) js in
        let ys : List (ℕ × Range) = map (λ r. (q, r)) ss in
        let here : From (owners b o) k xs = from_left (owners b o) k xs ys f in
        faults_append b (pair_checks (a + 2) es) (end_checks b o a ++ part_checks b o claimed (a + 2) es) pairs_decide
        (λ _. faults_append b (end_checks b o a) (part_checks b o claimed (a + 2) es) end_decides
        (λ _. faults_append b (range_checks b p claimed js) (range_checks b q (js ++ claimed) ss)
        (ranges_decide p claimed js k jpeg_parts here g)
        (λ all. ranges_decide q (js ++ claimed) ss (k + length xs) strip_parts (from_right (owners b o) k xs ys f)
        (claimed_append b o k xs js claimed (ranges_placed p js) here (ranges_facts b o p claimed js all).0 g))))
