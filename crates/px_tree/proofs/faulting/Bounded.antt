-- Each fault is at an offset of at most the limit.
use Rattle.std.proofs.Common.{◌≡◌, ℕ, ◌+◌, ◌*◌, ◌<◌, ◌≤◌, ◌==◌, ◌⊎◌, nat_le, Bool, inl, inr, Option, Some, None, option_map, option_to_list}
use Rattle.std.proofs.Common.{List, [], ◌∷◌, map, flat_map, length, refl, sym, ap, ◌∙◌, subst, arith, leb-true}
use Rattle.std.specs.Prelude.{find, unwrap_or, option_and_then}
use Rattle.std.specs.List.{AllByRecursion, cons_option}
use Rattle.std.proofs.lemmas.Bool.{cases_Bool, cond-true, cond-false, and_parts}
use Rattle.std.proofs.lemmas.Option.{slice_get_within}
use Rattle.px_bytes.specs.declared.Order.{Order}
use Rattle.px_bytes.specs.declared.Order.TheVariants.{Least, Most}
use Rattle.px_bytes.specs.declared.Cause.{Cause}
use Rattle.px_bytes.specs.declared.Cause.TheVariants as cause
use Rattle.px_bytes.specs.Parts.{limit, part}
use Rattle.px_bytes.specs.Range.{Range, range}
use Rattle.px_bytes.specs.lemmas.EachLaws.{each_append, all_at}
use Rattle.px_meaning.specs.declared.Dir.{Dir}
use Rattle.px_meaning.specs.declared.Dir.TheVariants.{Main, Exif, Interop, Gps, Thumb}
use Rattle.px_meaning.specs.Roles.{exif_tag, gps_tag, interop_tag, jpeg_offset_tag, jpeg_length_tag, strip_offsets_tag, strip_lengths_tag}
use Rattle.px_meaning.specs.Entry.{Entry, short, table_size, has_table, table, entries, next, offset}
use Rattle.px_meaning.specs.Directory.{dirs, dir_at, main_at, exif_at, entries_at, entry_with, is_pointer, pointer, unless_zero}
use Rattle.px_meaning.specs.Thumbnail.{both, numbers, ranges_of, jpeg_range, strip_ranges}
use Rattle.px_meaning.specs.Footprint.{listed, placed_range}
use Rattle.px_tree.specs.Checks.{named_at, place_of, place_with, pointer_place, checks}
use Rattle.px_tree.specs.FaultLaws.{FaultsBounded}
use Rattle.px_tree.specs.Faults.{Begins, EntryAt, value_owners, dir_owners, owners_at, thumb_owners, owners, ExifFault}
use Rattle.px_tree.specs.calls.Reading.{HasTable}
use Rattle.px_tree.proofs.faulting.ReportedAll.{first_is_fault}
use Rattle.px_tree.proofs.reading.Pointers.{length_is}

none_entries : (o : Order) → entries o [] ≡ []
unfolding entries
none_entries Least = refl
none_entries Most = refl

none_next : (o : Order) → next o [] ≡ 0
unfolding next
none_next Least = refl
none_next Most = refl

-- the first entry that passes a test is at its offset
found_place : (test : Entry → Bool) (p : ℕ) (es : List Entry) (e : Entry) → find test es ≡ Some e
    → place_of test p es + 12 ≤ p + 12 * length es
found_place test p [] e h = cc
found_place test p (x ∷ es) e h = elim (cases_Bool (test x)) [
  | inl t ↦ let k : place_of test p (x ∷ es) ≡ p = cond-true (test x) p (place_of test (p + 12) es) t in omega arith
  | inr t ↦
      let k : place_of test p (x ∷ es) ≡ place_of test (p + 12) es = cond-false (test x) p (place_of test (p + 12) es) t in
      let l = found_place test (p + 12) es e (sym (cond-false (test x) (Some x) (find test es) t) ∙ h) in
      omega arith
]

module _ (b : List ℕ) (o : Order) where
  -- a table ends inside the block, and without one there are no entries
  entries_bound : (a : ℕ) → ((entries_at b o a ≡ []) × (next o (table b o a) ≡ 0)) ⊎ (a + 2 + 12 * length (entries_at b o a) ≤ length b)
  unfolding has_table table
  entries_bound a = elim (cases_Bool (has_table b o a)) [
    | inl t ↦
        let n = short o (part b a 2) in
        let p = and_parts (nat_le 1 n) (nat_le (a + table_size n) (length b)) t in
        let i : a + table_size n ≤ length b = leb-true (a + table_size n) (length b) p.1 in
        let there : HasTable b o a n = record { count = refl; some = leb-true 1 n p.0; inside = i } in
        let l = length_is b o a n there in
        inr (omega arith)
    | inr t ↦
        let e : table b o a ≡ [] = cond-false (has_table b o a) (part b a (table_size (short o (part b a 2)))) [] t in
        inl (ap (entries o) e ∙ none_entries o, ap (next o) e ∙ none_next o)
  ]

  some_bound : (a : ℕ) → 1 ≤ length (entries_at b o a) → a + 2 + 12 * length (entries_at b o a) ≤ length b
  some_bound a h = elim (entries_bound a) [
    | inl e ↦ let l : length (entries_at b o a) ≡ 0 = ap (λ (es : List Entry). length es) e.0 in absurd (omega arith)
    | inr l ↦ l
  ]

  next_bound : (a : ℕ) → (next o (table b o a) ≡ 0 → ⊥) → a + 2 + 12 * length (entries_at b o a) ≤ length b
  next_bound a h = elim (entries_bound a) [
    | inl e ↦ absurd (h e.1)
    | inr l ↦ l
  ]

  entry_bound : (d : Dir) (i p : ℕ) (e : Entry) → EntryAt b o d i p e → p ≤ length b
  entry_bound d i p e w =
      let within : i < length (entries_at b o w.0) = slice_get_within (entries_at b o w.0) i e w.2 in
      let l = some_bound w.0 (omega arith) in
      let at = w.3 in
      omega arith

  -- an entry that is found is inside the block
  found_bound : (test : Entry → Bool) (a : ℕ) (e : Entry) → find test (entries_at b o a) ≡ Some e
      → place_of test (a + 2) (entries_at b o a) ≤ length b
  found_bound test a e h = elim (entries_bound a) [
    | inl q ↦ let k : find test [] ≡ Some e =
        ap (λ (es : List Entry). find test es) (sym q.0) ∙ h in let l : ◌≡◌ {A = Option Entry} None (Some e) = k in cc
    | inr l ↦ let k = found_place test (a + 2) (entries_at b o a) e h in omega arith
  ]

  pointer_bound : (t a x : ℕ) → pointer o t (entries_at b o a) ≡ Some x → pointer_place b o a t ≤ length b
  unfolding pointer
  pointer_bound t a x h = go (find (is_pointer t) (entries_at b o a)) refl h
    where
      go : (z : Option Entry) → find (is_pointer t) (entries_at b o a) ≡ z → option_map (offset o) z ≡ Some x
          → pointer_place b o a t ≤ length b
      go None e h = let l : ◌≡◌ {A = Option ℕ} None (Some x) = h in cc
      go (Some f) e h = found_bound (is_pointer t) a f e

  named_bound : Begins b o → (d : Dir) (a : ℕ) → dir_at b o d ≡ Some a → named_at b o d ≤ length b
  unfolding dir_at named_at
  named_bound g Main a h = let l = g.0 in omega arith
  named_bound g Exif a h = pointer_bound exif_tag (main_at b o) a h
  named_bound g Gps a h = pointer_bound gps_tag (main_at b o) a h
  named_bound g Interop a h = go (exif_at b o) h
    where
      go : (z : Option ℕ) → option_and_then (λ a. pointer o interop_tag (entries_at b o a)) z ≡ Some a
          → pointer_place b o (unwrap_or z 0) interop_tag ≤ length b
      go None h = let l : ◌≡◌ {A = Option ℕ} None (Some a) = h in cc
      go (Some x) h = pointer_bound interop_tag x a h
  named_bound g Thumb a h = next_bound (main_at b o) (λ z. let l : ◌≡◌ {A = Option ℕ} None (Some a) = ap unless_zero (sym z) ∙ h in cc)

  -- ---- the owners

  abbrev IsNear : ℕ × Range → Type 0
  IsNear x = x.0 ≤ length b

  near_map : (q : ℕ) (rs : List Range) → q ≤ length b → AllByRecursion IsNear (map (λ r. (q, r)) rs)
  near_map q [] l = tt
  near_map q (r ∷ rs) l = (l, near_map q rs l)

  near_option : (q : ℕ) (z : Option Range) (rest : List (ℕ × Range)) → q ≤ length b → AllByRecursion IsNear rest
      → AllByRecursion IsNear (cons_option (option_map (λ r. (q, r)) z) rest)
  near_option q None rest l h = h
  near_option q (Some r) rest l h = (l, h)

  near_values : (p : ℕ) (es : List Entry) → p + 12 * length es ≤ length b → AllByRecursion IsNear (value_owners o p es)
  near_values p [] l = tt
  near_values p (e ∷ es) l =
      near_option p (placed_range o e) (value_owners o (p + 12) es) (omega arith) (near_values (p + 12) es (omega arith))

  near_dir : Begins b o → (d : Dir) (a : ℕ) → dir_at b o d ≡ Some a → AllByRecursion IsNear (dir_owners b o d a)
  unfolding dir_owners
  near_dir g d a h = (
    named_bound g d a h,
    elim (entries_bound a) [
      | inl e ↦ subst (λ (es : List Entry). AllByRecursion IsNear (value_owners o (a + 2) es)) (sym e.0) tt
      | inr l ↦ near_values (a + 2) (entries_at b o a) l
    ],
  )

  near_at : Begins b o → (d : Dir) (z : Option ℕ) → dir_at b o d ≡ z → AllByRecursion IsNear (listed (option_map (dir_owners b o d) z))
  near_at g d None h = tt
  near_at g d (Some a) h = near_dir g d a h

  near_dirs : Begins b o → (ds : List Dir) → AllByRecursion IsNear (flat_map (owners_at b o) ds)
  near_dirs g [] = tt
  near_dirs g (d ∷ ds) =
      each_append IsNear (owners_at b o d) (flat_map (owners_at b o) ds) (near_at g d (dir_at b o d) refl) (near_dirs g ds)

  module _ (a : ℕ) where
    abbrev es : List Entry
    es = entries_at b o a

    near_jpeg : (x n : Option Entry) → entry_with jpeg_offset_tag es ≡ x
        → AllByRecursion IsNear (map (λ r. (place_with jpeg_offset_tag (a + 2) es, r))
        (option_to_list (both (λ x n. range (offset o x) (offset o n)) x n)))
    near_jpeg None None h = tt
    near_jpeg None (Some n) h = tt
    near_jpeg (Some x) None h = tt
    near_jpeg (Some x) (Some n) h = (found_bound (λ e. e.tag == jpeg_offset_tag) a x h, tt)

    near_strips : (x n : Option Entry) → entry_with strip_offsets_tag es ≡ x
        → AllByRecursion IsNear (map (λ r. (place_with strip_offsets_tag (a + 2) es, r))
        (listed (both (λ x n. ranges_of (numbers b o x) (numbers b o n)) x n)))
    near_strips None None h = tt
    near_strips None (Some n) h = tt
    near_strips (Some x) None h = tt
    near_strips (Some x) (Some n) h =
        near_map (place_with strip_offsets_tag (a + 2) es) (ranges_of (numbers b o x) (numbers b o n))
        (found_bound (λ e. e.tag == strip_offsets_tag) a x h)

    near_thumb : AllByRecursion IsNear (thumb_owners b o a)
    unfolding thumb_owners jpeg_range strip_ranges
    near_thumb = each_append IsNear
        (map (λ r. (place_with jpeg_offset_tag (a + 2) es, r)) (option_to_list (jpeg_range o es)))
        (map (λ r. (place_with strip_offsets_tag (a + 2) es, r)) (listed (strip_ranges b o es)))
        (near_jpeg (entry_with jpeg_offset_tag es) (entry_with jpeg_length_tag es) refl)
        (near_strips (entry_with strip_offsets_tag es) (entry_with strip_lengths_tag es) refl)

  near_thumb_at : (z : Option ℕ) → AllByRecursion IsNear (listed (option_map (thumb_owners b o) z))
  near_thumb_at None = tt
  near_thumb_at (Some a) = near_thumb a

  near_owners : Begins b o → AllByRecursion IsNear (owners b o)
  unfolding owners
  near_owners g = (
    (let l : 0 ≤ length b = omega arith in l),
    each_append IsNear (flat_map (owners_at b o) dirs)
        (listed (option_map (thumb_owners b o) (dir_at b o Thumb))) (near_dirs g dirs) (near_thumb_at (dir_at b o Thumb)),
  )

pub fault_bounded : (b : List ℕ) (c : Cause) (p : ℕ) → length b ≤ limit → ExifFault b c p → p ≤ limit
fault_bounded b cause.TooLong p l f = let e = f.0 in omega arith
fault_bounded b cause.UnknownKind p l f = let e = f.0 in omega arith
fault_bounded b cause.HeaderCut p l f = let e = f.0 in omega arith
fault_bounded b cause.Loop p l f = let r = f.4 in let k = named_bound b f.0 r.0 f.1 f.3 r.1 in let e = f.7 in omega arith
fault_bounded b cause.DirectoryOutside p l f = let r = f.3 in let k = named_bound b f.0 r.0 f.1 f.2 r.1 in let e = f.4 in omega arith
fault_bounded b cause.EmptyDirectory p l f = let k = f.3 in omega arith
fault_bounded b cause.Overlap p l f =
    let k : p ≤ length b = all_at (IsNear b f.0) (owners b f.0) f.2 (p, f.5) (near_owners b f.0 f.7) f.10 in omega arith
fault_bounded b cause.Unsorted p l f = let k = entry_bound b f.0 f.1 (f.2 + 1) p f.5 f.7 in omega arith
fault_bounded b cause.Doubled p l f = let k = entry_bound b f.0 f.1 (f.2 + 1) p f.5 f.7 in omega arith
fault_bounded b cause.UnknownType p l f = let k = entry_bound b f.0 f.1 f.2 p f.3 f.4 in omega arith
fault_bounded b cause.MisplacedOffset p l f = let k = entry_bound b f.0 f.1 f.2 p f.3 f.4 in omega arith
fault_bounded b cause.PointerForm p l f = let k = entry_bound b f.0 f.1 f.2 p f.3 f.4 in omega arith
fault_bounded b cause.ValueOutside p l f = let k = entry_bound b f.0 f.1 f.2 p f.3 f.4 in omega arith
fault_bounded b cause.ThumbnailPair p l f = let k = entry_bound b f.0 Thumb f.2 p f.3 f.5 in omega arith
fault_bounded b cause.ExtraDirectory p l f = let k = next_bound b f.0 f.1 f.4 in let e = f.3 in omega arith
fault_bounded b cause.ThumbnailOutside p l f = let w = f.2 in let k = entry_bound b f.0 Thumb w.0 p w.3 w.5 in omega arith
fault_bounded b cause.NoMarker p l f = absurd f
fault_bounded b cause.LengthForm p l f = absurd f
fault_bounded b cause.DataSetCut p l f = absurd f

-- a block longer than the limit has its first fault there
pub faults_bounded : FaultsBounded
unfolding checks
faults_bounded b c p h = elim (cases_Bool (nat_le (length b) limit)) [
  | inl t ↦ fault_bounded b c p (leb-true (length b) limit t) (first_is_fault b c p h)
  | inr f ↦
      let e : ◌≡◌ {A = Option (Cause × ℕ)} (Some (cause.TooLong, limit)) (Some (c, p)) = sym (cond-false _ _ _ f) ∙ h in
      let q : ◌≡◌ {A = Cause × ℕ} (cause.TooLong, limit) (c, p) = cc in
      let place : limit ≡ p = ap (λ (z : Cause × ℕ). z.1) q in
      omega arith
]
