-- A block with a fault has no meaning.
use Rattle.std.proofs.Common.{◌≡◌, ℕ, ◌+◌, ◌<◌, ◌≤◌, nat_le, ◌⊎◌, inl, inr, true, Option, Some, None, is_some, option_map, List, [], ◌++◌}
use Rattle.std.proofs.Common.{flat_map, length, sym, ◌∙◌, ap, ap₂, subst, arith, leb-true}
use Rattle.std.specs.Prelude.{IfSome}
use Rattle.std.specs.List.{AllByRecursion}
use Rattle.std.proofs.lemmas.Bool.{and_parts, true≢false}
use Rattle.px_bytes.specs.declared.Order.{Order}
use Rattle.px_bytes.specs.declared.Cause.{Cause}
use Rattle.px_bytes.specs.declared.Cause.TheVariants as cause
use Rattle.px_bytes.specs.Parts.{part}
use Rattle.px_bytes.specs.Range.{Range, range, IsIn, Apart, AllApart}
use Rattle.px_bytes.specs.lemmas.EachLaws.{each_left, each_right, all_at}
use Rattle.px_field.specs.Forms.{form_of}
use Rattle.px_meaning.specs.declared.Dir.{Dir}
use Rattle.px_meaning.specs.declared.Dir.TheVariants.{Main, Exif, Interop, Gps, Thumb}
use Rattle.px_meaning.specs.declared.Role.TheVariants.{Forbidden}
use Rattle.px_meaning.specs.Roles.{jpeg_offset_tag, jpeg_length_tag, strip_offsets_tag, strip_lengths_tag, role}
use Rattle.px_meaning.specs.Tree.{Meaning}
use Rattle.px_meaning.specs.Entry.{Entry, short, table_size, has_table, is_allowed, offset, IsEntry, IsDirectory}
use Rattle.px_meaning.specs.Directory.{dirs, dir_at, entries_at, entry_with}
use Rattle.px_meaning.specs.Thumbnail.{both, are_paired, numbers, jpeg_range, ranges_of, strip_ranges, IsInside, IsThumbnail}
use Rattle.px_meaning.specs.Footprint.{listed, dir_ranges, ranges_at, thumb_ranges, footprint}
use Rattle.px_meaning.specs.Says.{IsExif, SaysExif}
use Rattle.px_meaning.specs.Roles.{dir_number}
use Rattle.px_tree.specs.Faults.{At, Begins, EntryAt, owners, partners, IsAlone, IsUneven, Names, PartAt, ExifFault}
use Rattle.px_tree.proofs.lists.EachDir.{each_dir}
use Rattle.px_tree.proofs.assembling.Fresh.{Clear, clear_across, apart_left, apart_right}
use Rattle.px_tree.proofs.assembling.Owned.{ranges, owners_own}
use Rattle.px_meaning.specs.lemmas.MeaningLaws.{magic_decides}
use Rattle.px_meaning.specs.lemmas.TagLaws.{each_at}
use Rattle.px_tree.proofs.assembling.Judged.{all_magic}
use Rattle.px_meaning.specs.lemmas.Members.{each_member}
use Rattle.px_tree.proofs.lists.At.{at_map, at_apart, at_rising, at_found}

-- ---- no directory occurs twice

module _ (G : Dir → List Range) (h : AllApart (flat_map G dirs)) where
  abbrev rest4 : List Range
  rest4 = G Thumb ++ []

  abbrev rest3 : List Range
  rest3 = G Gps ++ rest4

  abbrev rest2 : List Range
  rest2 = G Interop ++ rest3

  abbrev rest1 : List Range
  rest1 = G Exif ++ rest2

  a1 : AllApart rest1
  a1 = apart_right (G Main) rest1 h

  a2 : AllApart rest2
  a2 = apart_right (G Exif) rest2 a1

  a3 : AllApart rest3
  a3 = apart_right (G Interop) rest3 a2

  -- of the ranges after those of e, those of d
  abbrev To : Dir → Range → Type 0
  To e r = AllByRecursion (Apart r) (G e)

  clear_dirs : (e d : Dir) → dir_number e < dir_number d → Clear (G e) (G d)
  clear_dirs Main Exif l = each_left (To Main) (G Exif) rest2 (clear_across (G Main) rest1 h)
  clear_dirs Main Interop l = each_left (To Main) (G Interop) rest3 (each_right (To Main) (G Exif) rest2 (clear_across (G Main) rest1 h))
  clear_dirs Main Gps l =
      each_left (To Main) (G Gps) rest4 (each_right (To Main) (G Interop) rest3
      (each_right (To Main) (G Exif) rest2 (clear_across (G Main) rest1 h)))
  clear_dirs Main Thumb l =
      each_left (To Main) (G Thumb) [] (each_right (To Main) (G Gps) rest4 (each_right (To Main) (G Interop) rest3
      (each_right (To Main) (G Exif) rest2 (clear_across (G Main) rest1 h))))
  clear_dirs Exif Interop l = each_left (To Exif) (G Interop) rest3 (clear_across (G Exif) rest2 a1)
  clear_dirs Exif Gps l = each_left (To Exif) (G Gps) rest4 (each_right (To Exif) (G Interop) rest3 (clear_across (G Exif) rest2 a1))
  clear_dirs Exif Thumb l =
      each_left (To Exif) (G Thumb) [] (each_right (To Exif) (G Gps) rest4 (each_right (To Exif) (G Interop) rest3
      (clear_across (G Exif) rest2 a1)))
  clear_dirs Interop Gps l = each_left (To Interop) (G Gps) rest4 (clear_across (G Interop) rest3 a2)
  clear_dirs Interop Thumb l =
      each_left (To Interop) (G Thumb) [] (each_right (To Interop) (G Gps) rest4 (clear_across (G Interop) rest3 a2))
  clear_dirs Gps Thumb l = each_left (To Gps) (G Thumb) [] (clear_across (G Gps) rest4 a3)
  clear_dirs Main Main l = absurd (omega arith)
  clear_dirs Exif Main l = absurd (omega arith)
  clear_dirs Exif Exif l = absurd (omega arith)
  clear_dirs Interop Main l = absurd (omega arith)
  clear_dirs Interop Exif l = absurd (omega arith)
  clear_dirs Interop Interop l = absurd (omega arith)
  clear_dirs Gps Main l = absurd (omega arith)
  clear_dirs Gps Exif l = absurd (omega arith)
  clear_dirs Gps Interop l = absurd (omega arith)
  clear_dirs Gps Gps l = absurd (omega arith)
  clear_dirs Thumb Main l = absurd (omega arith)
  clear_dirs Thumb Exif l = absurd (omega arith)
  clear_dirs Thumb Interop l = absurd (omega arith)
  clear_dirs Thumb Gps l = absurd (omega arith)
  clear_dirs Thumb Thumb l = absurd (omega arith)

-- ---- in a block in order

module _ (b : List ℕ) (o : Order) (x : IsExif b o) where
  abbrev of_dir : Dir → List Range
  of_dir d = ranges_at b o d

  abbrev of_thumb : List Range
  of_thumb = listed (option_map (thumb_ranges b o) (dir_at b o Thumb))

  dirs_apart : AllApart (flat_map of_dir dirs)
  unfolding footprint
  dirs_apart = apart_left (flat_map of_dir dirs) of_thumb x.apart.1

  in_order : (d : Dir) → IfSome (dir_at b o d) (IsDirectory b o d)
  in_order d = each_dir (λ d. IfSome (dir_at b o d) (IsDirectory b o d)) x.directories d

  one_place : (d : Dir) (a c : ℕ) → dir_at b o d ≡ Some a → dir_at b o d ≡ Some c → a ≡ c
  one_place d a c h k = let q : Some a ≡ Some c = sym h ∙ k in cc

  loop_no_meaning : (d e : Dir) (a : ℕ) → dir_at b o d ≡ Some a → dir_at b o e ≡ Some a → dir_number e < dir_number d → ⊥
  unfolding dir_ranges
  loop_no_meaning d e a h k l = (go (dir_at b o e) (dir_at b o d) k h (clear_dirs of_dir dirs_apart e d l))
    where
      go : (y z : Option ℕ) → y ≡ Some a → z ≡ Some a → Clear (listed (option_map (dir_ranges b o) y))
          (listed (option_map (dir_ranges b o) z)) → ⊥
      go None z k h c = cc
      go (Some y) None k h c = cc
      go (Some y) (Some z) k h c = let p : y ≡ a = cc in let q : z ≡ a = cc in c.0.0 a (omega arith, omega arith) (omega arith, omega arith)

  -- ---- one directory

  module _ (d : Dir) (a : ℕ) (at : dir_at b o d ≡ Some a) where
    abbrev es : List Entry
    es = entries_at b o a

    is : IsDirectory b o d a
    is = subst (λ z. IfSome z (IsDirectory b o d)) at (in_order d)

    whole : (1 ≤ short o (part b a 2)) × (a + table_size (short o (part b a 2)) ≤ length b)
    unfolding has_table
    whole = let h = and_parts (nat_le 1 (short o (part b a 2))) (nat_le (a + table_size (short o (part b a 2))) (length b)) is.there in
        (leb-true 1 (short o (part b a 2)) h.0, leb-true (a + table_size (short o (part b a 2))) (length b) h.1)

    outside_no_meaning : length b < a + table_size (short o (part b a 2)) → ⊥
    outside_no_meaning l = let w = whole.1 in omega arith

    empty_no_meaning : short o (part b a 2) ≡ 0 → ⊥
    empty_no_meaning l = let w = whole.0 in omega arith

    rising : (i : ℕ) (e f : Entry) → At es i e → At es (i + 1) f → e.tag < f.tag
    rising i e f h k = at_rising es i e f is.rising h k

    found : (i : ℕ) (e : Entry) → At es i e → entry_with e.tag es ≡ Some e
    found i e h = at_found es i e is.rising h

    entry_is : (i : ℕ) (e : Entry) → At es i e → IsEntry b o d e
    entry_is i e h = all_at (IsEntry b o d) es i e is.each h

  module _ (d : Dir) where
    -- the entries are those of one table
    at_one : (a i p : ℕ) (e : Entry) → dir_at b o d ≡ Some a → EntryAt b o d i p e → At (entries_at b o a) i e
    at_one a i p e h (c, r, k, q) = subst (λ a. At (entries_at b o a) i e) (one_place d c a r.1 h) k

    follows : (i p q : ℕ) (e f : Entry) → EntryAt b o d i p e → EntryAt b o d (i + 1) q f → e.tag < f.tag
    follows i p q e f (a, r, h, l) k = rising d a r.1 i e f h (at_one a (i + 1) q f r.1 k)

    in_order_at : (i p : ℕ) (e : Entry) → EntryAt b o d i p e → IsEntry b o d e
    in_order_at i p e (a, r, h, l) = entry_is d a r.1 i e h

  unknown_no_meaning : (d : Dir) (e : Entry) → IsEntry b o d e → form_of e.code ≡ None → ⊥
  unknown_no_meaning d e h n = true≢false (sym h.known ∙ ap is_some n)

  misplaced_no_meaning : (d : Dir) (e : Entry) → IsEntry b o d e → role d e.tag ≡ Forbidden → ⊥
  misplaced_no_meaning d e h n = true≢false (sym h.allowed ∙ ap is_allowed n)

  overlap_no_meaning : (i j p q : ℕ) (r s : Range) (y : ℕ) → i < j → At (owners b o) i (q, r) → At (owners b o) j (p, s) → IsIn y r → IsIn y s
      → ⊥
  overlap_no_meaning i j p q r s y l h k u v =
      let own : ranges (owners b o) ≡ footprint b o = owners_own b o in
      at_apart (footprint b o) i j r s x.apart l
      (subst (λ (rs : List Range). At rs i r) own (at_map (λ z. z.1) (owners b o) i (q, r) h))
      (subst (λ (rs : List Range). At rs j s) own (at_map (λ z. z.1) (owners b o) j (p, s) k)) y u v

  -- ---- the thumbnail

  module _ (a : ℕ) (at : dir_at b o Thumb ≡ Some a) where
    abbrev ts : List Entry
    ts = entries_at b o a

    thumb_is : IsThumbnail b o a
    thumb_is = subst (λ z. IfSome z (IsThumbnail b o)) at x.thumbnail

    -- one of a pair is not without the other
    abbrev HasPartner : ℕ × ℕ → Type 0
    HasPartner p = (e : Entry) → entry_with p.0 ts ≡ Some e → entry_with p.1 ts ≡ None → ⊥

    first_alone : (y z : Option Entry) (e : Entry) → are_paired y z ≡ true → y ≡ Some e → z ≡ None → ⊥
    first_alone None z e h k n = cc
    first_alone (Some y) None e h k n = cc
    first_alone (Some y) (Some z) e h k n = cc

    second_alone : (y z : Option Entry) (e : Entry) → are_paired y z ≡ true → z ≡ Some e → y ≡ None → ⊥
    second_alone None None e h k n = cc
    second_alone None (Some z) e h k n = cc
    second_alone (Some y) z e h k n = cc

    have_partners : AllByRecursion HasPartner partners
    have_partners = (
      λ e h n. first_alone (entry_with jpeg_offset_tag ts) (entry_with jpeg_length_tag ts) e thumb_is.jpeg_pair h n,
      (
        λ e h n. second_alone (entry_with jpeg_offset_tag ts) (entry_with jpeg_length_tag ts) e thumb_is.jpeg_pair h n,
        (
          λ e h n. first_alone (entry_with strip_offsets_tag ts) (entry_with strip_lengths_tag ts) e thumb_is.strip_pair h n,
          (λ e h n. second_alone (entry_with strip_offsets_tag ts) (entry_with strip_lengths_tag ts) e thumb_is.strip_pair h n, tt),
        ),
      ),
    )

    alone_no_meaning : (i : ℕ) (e : Entry) → At ts i e → IsAlone e ts → ⊥
    alone_no_meaning i e h (u, q, n) = each_at HasPartner e.tag u partners have_partners q e (found Thumb a at i e h) n

    tag_found : (i t : ℕ) (e : Entry) → At ts i e → e.tag ≡ t → entry_with t ts ≡ Some e
    tag_found i t e h q = subst (λ t. entry_with t ts ≡ Some e) q (found Thumb a at i e h)

    uneven_no_meaning : (i : ℕ) (e : Entry) → At ts i e → IsUneven e ts → ⊥
    uneven_no_meaning i e h (f, q, k, n) =
        let same : Some e.count ≡ Some f.count = sym (ap (option_map (λ (e : Entry). e.count)) (tag_found i strip_offsets_tag e h q))
        ∙ thumb_is.strip_counts ∙ ap (option_map (λ (e : Entry). e.count)) k in
        n cc

    part_inside : (i j : ℕ) (e n : Entry) (r : Range) → At ts i e → At ts j n → Names b o e n r → IsInside b r
    unfolding jpeg_range strip_ranges
    part_inside i j e n r h k (inl (t, u, q)) =
        let is : jpeg_range o ts ≡ Some (range (offset o e) (offset o n)) =
        ap₂ (both (λ x n. range (offset o x) (offset o n))) (tag_found i jpeg_offset_tag e h t) (tag_found j jpeg_length_tag n k u) in
        subst (IsInside b) (sym q) (subst (λ z. IfSome z (IsInside b)) is thumb_is.jpeg_inside)
    part_inside i j e n r h k (inr (t, u, q)) =
        let is : strip_ranges b o ts ≡ Some (ranges_of (numbers b o e) (numbers b o n)) =
        ap₂ (both (λ x n. ranges_of (numbers b o x) (numbers b o n))) (tag_found i strip_offsets_tag e h t)
        (tag_found j strip_lengths_tag n k u) in
        each_member (IsInside b) (ranges_of (numbers b o e) (numbers b o n)) r
        (subst (λ z. IfSome z (AllByRecursion (IsInside b))) is thumb_is.strips_inside) q

  pair_no_meaning : (a i p : ℕ) (e : Entry) → dir_at b o Thumb ≡ Some a → At (entries_at b o a) i e
      → IsAlone e (entries_at b o a) ⊎ IsUneven e (entries_at b o a) → ⊥
  pair_no_meaning a i p e h k (inl s) = alone_no_meaning a h i e k s
  pair_no_meaning a i p e h k (inr s) = uneven_no_meaning a h i e k s

  part_no_meaning : (p : ℕ) (r : Range) → PartAt b o p r → length b < r.start + r.size → ⊥
  part_no_meaning p r (i, j, q, e, n, h, k, u, v, s) l =
      let f = h.1.1 in
      let w = part_inside h.0 f i j e n r h.2 (at_one Thumb h.0 j q n f k) s in omega arith

-- the byte order of a fault is that of the meaning
begins_is_exif : (b : List ℕ) (m : Meaning) (o : Order) (s : SaysExif b m) → Begins b o → IsExif b o
begins_is_exif b m o s h = subst (IsExif b) (magic_decides s.order o (sym s.is_block.begins ∙ h.1)) s.is_block

-- A block with a fault has no meaning.
pub fault_excludes_meaning : (b : List ℕ) (c : Cause) (p : ℕ) (m : Meaning) → ExifFault b c p → SaysExif b m → ⊥
fault_excludes_meaning b cause.TooLong p m f s = let l = f.1 in let k = s.is_block.most in omega arith
fault_excludes_meaning b cause.UnknownKind p m (q, inl z) s = let l = s.is_block.least in omega arith
fault_excludes_meaning b cause.UnknownKind p m (q, inr n) s = n s.order (s.is_block.begins ∙ sym (all_magic b s.order s.is_block.least))
fault_excludes_meaning b cause.HeaderCut p m f s = let l = f.1 in let k = s.is_block.least in omega arith
fault_excludes_meaning b cause.Loop p m (o, d, e, a, h, k, l, q) s = loop_no_meaning b o (begins_is_exif b m o s h.0) d e a h.1 k.1 l
fault_excludes_meaning b cause.DirectoryOutside p m (o, d, a, h, q, l) s = outside_no_meaning b o (begins_is_exif b m o s h.0) d a h.1 l
fault_excludes_meaning b cause.EmptyDirectory p m (o, d, h, q, l) s = empty_no_meaning b o (begins_is_exif b m o s h.0) d p h.1 l
fault_excludes_meaning b cause.Overlap p m (o, i, j, q, r, t, y, h, l, u, v, k, n, w, z) s =
    overlap_no_meaning b o (begins_is_exif b m o s h) i j p q r t y l u v w z
fault_excludes_meaning b cause.Unsorted p m (o, d, i, q, e, f, h, k, l) s = let n = follows b o
    (begins_is_exif b m o s h.1.0) d i q p e f h k in omega arith
fault_excludes_meaning b cause.Doubled p m (o, d, i, q, e, f, h, k, l) s = let n = follows b o
    (begins_is_exif b m o s h.1.0) d i q p e f h k in omega arith
fault_excludes_meaning b cause.UnknownType p m (o, d, i, e, h, n) s =
    let x = begins_is_exif b m o s h.1.0 in unknown_no_meaning b o x d e (in_order_at b o x d i p e h) n
fault_excludes_meaning b cause.MisplacedOffset p m (o, d, i, e, h, n) s =
    let x = begins_is_exif b m o s h.1.0 in misplaced_no_meaning b o x d e (in_order_at b o x d i p e h) n
fault_excludes_meaning b cause.PointerForm p m (o, d, i, e, h, n) s =
    let x = begins_is_exif b m o s h.1.0 in true≢false (sym (in_order_at b o x d i p e h).formed ∙ n)
fault_excludes_meaning b cause.ValueOutside p m (o, d, i, e, h, n) s =
    let x = begins_is_exif b m o s h.1.0 in true≢false (sym (in_order_at b o x d i p e h).inside ∙ n)
fault_excludes_meaning b cause.ThumbnailPair p m (o, a, i, e, r, h, n) s =
    let x = begins_is_exif b m o s r.0 in pair_no_meaning b o x a i p e r.1 (at_one b o x Thumb a i p e r.1 h) n
fault_excludes_meaning b cause.ExtraDirectory p m (o, a, r, q, n) s = n (thumb_is b o (begins_is_exif b m o s r.0) a r.1).ends
fault_excludes_meaning b cause.ThumbnailOutside p m (o, r, h, l) s = part_no_meaning b o (begins_is_exif b m o s h.5.1.0) p r h l
fault_excludes_meaning b _ p m f s = f
