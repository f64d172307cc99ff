-- A legal block has its meaning.
use Rattle.std.proofs.Common.{◌≡◌, ℕ, ◌*◌, ◌^◌, ◌<◌, ◌≤◌, nat_lt, inl, inr, true, Option, Some, None, option_map, option_and_then, List, []}
use Rattle.std.proofs.Common.{◌∷◌, ◌++◌, map, filter_map, flat_map, length, refl, sym, ◌∙◌, ap, ap₂, subst, arith}
use Rattle.std.specs.Prelude.{IfSome, option_to_list}
use Rattle.std.specs.List.{AllByRecursion}
use Rattle.std.proofs.lemmas.Bool.{cond-true, cond-false, cases_Bool}
use Rattle.std.proofs.lemmas.List.{map-append, length-map}
use Rattle.px_bytes.specs.Parts.{limit}
use Rattle.px_bytes.specs.declared.Order.{Order}
use Rattle.px_bytes.specs.Range.{range, AllApart}
use Rattle.px_bytes.specs.lemmas.NumberLaws.{number_spelling}
use Rattle.px_bytes.specs.lemmas.EachLaws.{each_map, each_left, each_right}
use Rattle.px_field.specs.Values.{form_in, Value}
use Rattle.px_field.specs.Forms.{form_of}
use Rattle.px_field.specs.lemmas.FormLaws.{form_of_code}
use Rattle.px_meaning.specs.Iim.{Iim, IsRecord, normal_iim}
use Rattle.px_meaning.specs.declared.Dir.{Dir}
use Rattle.px_meaning.specs.declared.Dir.TheVariants.{Main, Exif, Interop, Gps, Thumb}
use Rattle.px_meaning.specs.Tree.{Fields, ExifPart, Thumbnail, Meaning}
use Rattle.px_meaning.specs.declared.Role.TheVariants.{Record}
use Rattle.px_meaning.specs.Roles.{exif_tag, gps_tag, record_tag, jpeg_offset_tag, jpeg_length_tag, strip_offsets_tag, strip_lengths_tag}
use Rattle.px_meaning.specs.Roles.{role}
use Rattle.px_meaning.specs.Roles.{at_tag}
use Rattle.px_meaning.specs.Entry.{Entry, raw, raw_size, is_placed, offset, record_in, fields, table_size, IsDirectory}
use Rattle.px_meaning.specs.Directory.{dir_at, entries_at, entry_with, fields_at, dirs}
use Rattle.px_meaning.specs.Says.{record_at, exif_part, thumbnail, meaning, IsExif}
use Rattle.px_meaning.specs.Thumbnail.{both, are_paired, numbers, jpeg_range, ranges_of, strip_ranges, bytes_of, IsInside, IsThumbnail}
use Rattle.px_meaning.specs.Footprint.{placed_range, dir_ranges, thumb_ranges, listed, footprint}
use Rattle.px_meaning.specs.Writable.{Item, Field, Iptc, AtJpeg, JpegSize, AtStrips, StripSizes, item_form, item_size, put_some, link}
use Rattle.px_meaning.specs.Writable.{field_items}
use Rattle.px_meaning.specs.Writable.{main_items, exif_items, thumb_items, items, Allows, IsWritableField, IsWritableThumb, IsBytes}
use Rattle.px_meaning.specs.Writable.{IsWritable}
use Rattle.px_layout.specs.declared.chunks.Chunk.{Chunk}
use Rattle.px_layout.specs.declared.chunks.Chunk.TheVariants.{Table, Placed, Jpeg}
use Rattle.px_layout.specs.Chunks.{placed_chunk, dir_chunks, chunks_of_dir, jpeg_chunks, strip_chunks, all_strip_chunks, thumb_chunks}
use Rattle.px_layout.specs.Chunks.{chunks}
use Rattle.px_layout.specs.Plans.{Plan, place, Legal, plan_ranges}
use Rattle.px_layout.specs.Laws.{LegalBlockHasMeaning}
use Rattle.px_layout.specs.Laid.{item_bytes, jpeg_contents, strip_contents, all_strip_contents, thumb_contents}
use Rattle.px_layout.specs.lemmas.PlacementLaws.{IsPlaced, length_range}
use Rattle.px_layout.specs.lemmas.ItemLaws.{IsHere, entry_of, raw_is, iim_normal, size_is, placed_as, offset_is}
use Rattle.px_layout.specs.lemmas.ReadLaws.{record_turned}
use Rattle.px_layout.specs.lemmas.DirectoryLaws.{filter_map_each, directory_placed, count_is}
use Rattle.px_layout.specs.lemmas.SizeLaws.{filter_map_map}
use Rattle.px_layout.specs.lemmas.EntryLaws.{NotThere}
use Rattle.px_layout.specs.lemmas.TagLaws.{at_some_same, at_some_other, at_fields, each_at, fields_back, entry_found}
use Rattle.px_layout.specs.lemmas.PlacedLaws.{block, length_block, placed_near, thumb_here, good_dir}
use Rattle.px_layout.specs.lemmas.PlacedLaws.{table_here, items_here, some_items, entries_few}
use Rattle.px_layout.specs.lemmas.PointerLaws.{main_items_are, main_place, entries_of, fields_of, next_of, exif_items_are}
use Rattle.px_layout.specs.lemmas.PointerLaws.{interop_items_are, thumb_items_are, dir_at_plan, begins_is}
use Rattle.px_layout.specs.lemmas.PartLaws.{fields_main, fields_exif, fields_thumb, numbers_at_strips, numbers_sizes, offset_jpeg}
use Rattle.px_layout.specs.lemmas.PartLaws.{offset_size, at_jpeg, at_size, at_strips, at_lengths, chunk_range, strip_ranges_are}
use Rattle.px_layout.specs.lemmas.PartLaws.{strip_bytes_are, strips_inside_are, strips_near}

module _ (m : Meaning) (plan : Plan) (o : Order) (filler : ℕ) (f : IsWritable m) (l : Legal m plan) where
  abbrev b : List ℕ
  b = block m plan o filler f l

  abbrev at_plan : Dir → ℕ
  at_plan d = place plan (Table d)

  there : (d : Dir) (xs : List (ℕ × Item)) → items m d ≡ Some xs → dir_at b o d ≡ Some (at_plan d)
  there d xs is = dir_at_plan m plan o filler f l d ∙ ap (option_map (λ _. at_plan d)) is

  not_there : (d : Dir) → items m d ≡ None → dir_at b o d ≡ None
  not_there d is = dir_at_plan m plan o filler f l d ∙ ap (option_map (λ _. at_plan d)) is

  -- ---- each directory is in order

  placed_dir : (d : Dir) (xs : List (ℕ × Item)) → items m d ≡ Some xs → IsDirectory b o d (at_plan d)
  placed_dir d xs is =
      directory_placed plan o filler b m d xs (items_here m plan o filler f l d xs is) (some_items m plan o filler f l d xs is)
      (entries_few m plan o filler f l d xs is) (table_here m plan o filler f l d xs is) (good_dir m plan o filler f l d xs is).rising

  in_order : (d : Dir) (x : Option (List (ℕ × Item))) → items m d ≡ x → IfSome (dir_at b o d) (IsDirectory b o d)
  in_order d None is = subst (λ a. IfSome a (IsDirectory b o d)) (sym (not_there d is)) tt
  in_order d (Some xs) is = subst (λ a. IfSome a (IsDirectory b o d)) (sym (there d xs is)) (placed_dir d xs is)

  -- ---- the footprint of each directory

  placed_one : (d : Dir) (i : ℕ × Item) → IsHere plan o filler b d i
      → placed_range o (entry_of plan o filler d i) ≡ option_map (chunk_range plan) (placed_chunk d i)
  unfolding placed_range placed_chunk
  placed_one d i h = elim (cases_Bool (nat_lt 4 (item_size i.1))) [
    | inl t ↦ cond-true (is_placed (entry_of plan o filler d i)) (Some (range (offset o (entry_of plan o filler d i))
        (raw_size (entry_of plan o filler d i)))) None (placed_as plan o filler b d i h ∙ t)
        ∙ ap₂ (λ x n. Some (range x n)) (offset_is plan o filler b d i h t) (size_is plan o filler b d i h)
        ∙ sym (ap (option_map (chunk_range plan)) (cond-true (nat_lt 4 (item_size i.1)) (Some (Placed d i.0, item_size i.1)) None t))
    | inr n ↦ cond-false (is_placed (entry_of plan o filler d i)) (Some (range (offset o (entry_of plan o filler d i))
        (raw_size (entry_of plan o filler d i)))) None (placed_as plan o filler b d i h ∙ n)
        ∙ sym (ap (option_map (chunk_range plan)) (cond-false (nat_lt 4 (item_size i.1)) (Some (Placed d i.0, item_size i.1)) None n))
  ]

  same_each : {X Y : Type 0} (g : X → Y) (xs : List X) → AllByRecursion (λ x. g x ≡ g x) xs
  same_each g [] = tt
  same_each g (x ∷ xs) = (refl, same_each g xs)

  ranges_dir : (d : Dir) (xs : List (ℕ × Item)) → items m d ≡ Some xs
      → dir_ranges b o (at_plan d) ≡ map (chunk_range plan) (dir_chunks d xs)
  unfolding dir_ranges
  ranges_dir d xs is = ap₂ (λ n rs. range (at_plan d) (table_size n) ∷ rs)
      (count_is plan o filler b m d xs (items_here m plan o filler f l d xs is) (some_items m plan o filler f l d xs is)
      (entries_few m plan o filler f l d xs is) (table_here m plan o filler f l d xs is))
      (ap (filter_map (placed_range o)) (entries_of m plan o filler f l d xs is)
      ∙ filter_map_each (placed_range o) (entry_of plan o filler d) (λ i. option_map (chunk_range plan) (placed_chunk d i)) xs
      (each_map (IsHere plan o filler b d) (λ i. placed_range o (entry_of plan o filler d i) ≡ option_map (chunk_range plan)
      (placed_chunk d i)) (placed_one d) xs (items_here m plan o filler f l d xs is))
      ∙ sym (filter_map_map (chunk_range plan) (placed_chunk d) (λ i. option_map (chunk_range plan) (placed_chunk d i)) xs
      (same_each (λ i. option_map (chunk_range plan) (placed_chunk d i)) xs)))

  ranges_opt : (d : Dir) (x : Option (List (ℕ × Item))) → items m d ≡ x
      → listed (option_map (dir_ranges b o) (dir_at b o d)) ≡ map (chunk_range plan) (chunks_of_dir d (items m d))
  ranges_opt d None is =
      ap (λ a. listed (option_map (dir_ranges b o) a)) (not_there d is) ∙ sym (ap (λ x. map (chunk_range plan) (chunks_of_dir d x)) is)
  ranges_opt d (Some xs) is = ap (λ a. listed (option_map (dir_ranges b o) a)) (there d xs is) ∙ ranges_dir d xs is
      ∙ sym (ap (λ x. map (chunk_range plan) (chunks_of_dir d x)) is)

  -- ---- the thumbnail

  module _ (t : Thumbnail) (is : m.thumb ≡ Some t) where
    abbrev es : List Entry
    es = entries_at b o (at_plan Thumb)

    abbrev of : ℕ × Item → Entry
    of i = entry_of plan o filler Thumb i

    fit : IsWritableThumb t
    fit = subst (λ x. IfSome x IsWritableThumb) is f.thumb

    items_are : items m Thumb ≡ Some (thumb_items t)
    items_are = thumb_items_are m plan o filler f l t is

    es_are : es ≡ map of (thumb_items t)
    es_are = entries_of m plan o filler f l Thumb (thumb_items t) items_are

    found : (u : ℕ) (x : Option Item) → at_tag u (thumb_items t) ≡ x → entry_with u es ≡ option_map (λ x. of (u, x)) x
    found u x e = ap (entry_with u) es_are ∙ entry_found plan o filler Thumb u (thumb_items t) ∙ ap (option_map (λ x. of (u, x))) e

    here : (u : ℕ) (x : Item) → at_tag u (thumb_items t) ≡ Some x → IsHere plan o filler b Thumb (u, x)
    here u x e =
        each_at (IsHere plan o filler b Thumb) u x (thumb_items t) (items_here m plan o filler f l Thumb (thumb_items t) items_are) e

    abbrev Here : Chunk × List ℕ → Type 0
    Here c = IsPlaced b (place plan c.0) c.1

    parts_here : AllByRecursion Here (jpeg_contents t.jpeg ++ all_strip_contents t.strips)
    unfolding thumb_contents
    parts_here = subst (λ x. AllByRecursion Here (thumb_contents x)) is (thumb_here m plan o filler f l)

    jpeg_here : AllByRecursion Here (jpeg_contents t.jpeg)
    jpeg_here = each_left Here (jpeg_contents t.jpeg) _ parts_here

    strips_here : AllByRecursion Here (all_strip_contents t.strips)
    strips_here = each_right Here (jpeg_contents t.jpeg) _ parts_here

    near_chunk : (c : Chunk × List ℕ) → Here c → place plan c.0 < 2 ^ 32
    near_chunk c h = let n = placed_near m plan o filler f l (place plan c.0) c.1 h in omega arith

    -- the JPEG
    jpeg_is : (j : Option (List ℕ)) → t.jpeg ≡ j → jpeg_range o es ≡ option_map (λ x. range (place plan Jpeg) (length x)) j
    unfolding jpeg_range
    jpeg_is None q =
        ap₂ (both (λ x n. range (offset o x) (offset o n))) (found jpeg_offset_tag None (at_jpeg t fit ∙ ap (option_map (λ _. AtJpeg)) q))
        (found jpeg_length_tag None (at_size t fit ∙ ap (option_map (λ x. JpegSize (length x))) q))
    jpeg_is (Some x) q =
        let h : AllByRecursion Here ((Jpeg, x) ∷ []) = subst (λ j. AllByRecursion Here (jpeg_contents j)) q jpeg_here in
        let p : place plan Jpeg < 2 ^ 32 = near_chunk (Jpeg, x) h.0 in
        let most : length x ≤ limit = (subst (λ j. IfSome j IsBytes) q fit.jpeg).most in
        ap₂ (both (λ x n. range (offset o x) (offset o n))) (found jpeg_offset_tag (Some AtJpeg)
        (at_jpeg t fit ∙ ap (option_map (λ _. AtJpeg)) q)) (found jpeg_length_tag (Some (JpegSize (length x)))
        (at_size t fit ∙ ap (option_map (λ x. JpegSize (length x))) q))
        ∙ ap₂ (λ x n. Some (range x n)) (offset_jpeg plan o filler b Thumb jpeg_offset_tag p)
        (offset_size plan o filler b Thumb jpeg_length_tag (length x) (omega arith))

    -- the strips
    strips_are : (s : Option (List (List ℕ))) → t.strips ≡ s
        → strip_ranges b o es ≡ option_map (λ s. map (chunk_range plan) (strip_chunks 0 s)) s
    unfolding strip_ranges
    strips_are None q =
        ap₂ (both (λ x n. ranges_of (numbers b o x) (numbers b o n))) (found strip_offsets_tag None
        (at_strips t fit ∙ ap (option_map (λ s. AtStrips (length s))) q)) (found strip_lengths_tag None
        (at_lengths t fit ∙ ap (option_map (λ s. StripSizes (map (λ x. length x) s))) q))
    strips_are (Some s) q =
        let h : AllByRecursion Here (strip_contents 0 s) = subst (λ s. AllByRecursion Here (all_strip_contents s)) q strips_here in
        let e1 = at_strips t fit ∙ ap (option_map (λ s. AtStrips (length s))) q in
        let e2 = at_lengths t fit ∙ ap (option_map (λ s. StripSizes (map (λ x. length x) s))) q in
        ap₂ (both (λ x n. ranges_of (numbers b o x) (numbers b o n))) (found strip_offsets_tag (Some (AtStrips (length s))) e1)
        (found strip_lengths_tag (Some (StripSizes (map (λ x. length x) s))) e2)
        ∙ ap₂ (λ xs ns. Some (ranges_of xs ns))
        (numbers_at_strips plan o filler b Thumb strip_offsets_tag (length s) (here strip_offsets_tag (AtStrips (length s)) e1)
        (length_range 0 (length s)) (strips_near plan o filler Here near_chunk 0 s h))
        (numbers_sizes plan o filler b Thumb strip_lengths_tag (map (λ x. length x) s)
        (here strip_lengths_tag (StripSizes (map (λ x. length x) s)) e2)
        (small s (subst (λ s. IfSome s (λ s. (length s ≤ limit) × AllByRecursion IsBytes s)) q fit.strips).1))
        ∙ ap (λ rs. Some rs) (strip_ranges_are plan 0 s)
      where
        small : (s : List (List ℕ)) → AllByRecursion IsBytes s → AllByRecursion (λ n. n < 2 ^ 32) (map (λ x. length x) s)
        small [] h = tt
        small (x ∷ s) h = (let k = h.0.most in omega arith, small s h.1)

    thumb_jpeg : (j : Option (List ℕ)) → t.jpeg ≡ j → option_map (bytes_of b) (jpeg_range o es) ≡ j
    thumb_jpeg None q = ap (option_map (bytes_of b)) (jpeg_is None q)
    thumb_jpeg (Some x) q =
        let h : AllByRecursion Here ((Jpeg, x) ∷ []) = subst (λ j. AllByRecursion Here (jpeg_contents j)) q jpeg_here in
        ap (option_map (bytes_of b)) (jpeg_is (Some x) q) ∙ ap (λ y. Some y) h.0.is

    thumb_strips : (s : Option (List (List ℕ))) → t.strips ≡ s → option_map (map (bytes_of b)) (strip_ranges b o es) ≡ s
    thumb_strips None q = ap (option_map (map (bytes_of b))) (strips_are None q)
    thumb_strips (Some s) q =
        let h : AllByRecursion Here (strip_contents 0 s) = subst (λ s. AllByRecursion Here (all_strip_contents s)) q strips_here in
        ap (option_map (map (bytes_of b))) (strips_are (Some s) q) ∙ ap (λ y. Some y) (strip_bytes_are plan o filler b 0 s h)

    thumb_is : thumbnail b o (at_plan Thumb) ≡ t
    unfolding thumbnail
    thumb_is i =
        record {
          fields =
              (fields_of m plan o filler f l Thumb (thumb_items t) items_are ∙ fields_thumb t) i;
          jpeg =
              thumb_jpeg t.jpeg refl i;
          strips = thumb_strips t.strips refl i;
        }

    ranges_thumb : thumb_ranges b o (at_plan Thumb) ≡ map (chunk_range plan) (jpeg_chunks t.jpeg ++ all_strip_chunks t.strips)
    unfolding thumb_ranges
    ranges_thumb = ap₂ (λ j s. option_to_list j ++ listed s) (jpeg_is t.jpeg refl) (strips_are t.strips refl) ∙ joined t.jpeg t.strips
      where
        joined : (j : Option (List ℕ)) (s : Option (List (List ℕ)))
            → option_to_list (option_map (λ x. range (place plan Jpeg) (length x)) j)
            ++ listed (option_map (λ s. map (chunk_range plan) (strip_chunks 0 s)) s) ≡ map (chunk_range plan) (jpeg_chunks j
            ++ all_strip_chunks s)
        joined None None = refl
        joined None (Some s) = refl
        joined (Some x) None = refl
        joined (Some x) (Some s) = refl

    pairs : {X : Type 0} (u w : ℕ) (g h : X → Item) (x : Option X) → at_tag u (thumb_items t) ≡ option_map g x
        → at_tag w (thumb_items t) ≡ option_map h x → are_paired (entry_with u es) (entry_with w es) ≡ true
    pairs u w g h None e k = ap₂ are_paired (found u None e) (found w None k)
    pairs u w g h (Some x) e k = ap₂ are_paired (found u (Some (g x)) e) (found w (Some (h x)) k)

    counts : (s : Option (List (List ℕ))) → t.strips ≡ s → option_map (λ (e : Entry). e.count)
        (entry_with strip_offsets_tag es) ≡ option_map (λ (e : Entry). e.count) (entry_with strip_lengths_tag es)
    unfolding entry_of
    counts None q =
        ap (option_map (λ (e : Entry). e.count)) (found strip_offsets_tag None
        (at_strips t fit ∙ ap (option_map (λ s. AtStrips (length s))) q))
        ∙ sym (ap (option_map (λ (e : Entry). e.count)) (found strip_lengths_tag None
        (at_lengths t fit ∙ ap (option_map (λ s. StripSizes (map (λ x. length x) s))) q)))
    counts (Some s) q =
        ap (option_map (λ (e : Entry). e.count)) (found strip_offsets_tag (Some (AtStrips (length s)))
        (at_strips t fit ∙ ap (option_map (λ s. AtStrips (length s))) q))
        ∙ ap (λ n. Some n) (sym (length-map s (λ x. length x)))
        ∙ sym (ap (option_map (λ (e : Entry). e.count)) (found strip_lengths_tag (Some (StripSizes (map (λ x. length x) s)))
        (at_lengths t fit ∙ ap (option_map (λ s. StripSizes (map (λ x. length x) s))) q)))

    jpeg_in : (j : Option (List ℕ)) → t.jpeg ≡ j → IfSome (jpeg_range o es) (IsInside b)
    jpeg_in None q = subst (λ r. IfSome r (IsInside b)) (sym (jpeg_is None q)) tt
    jpeg_in (Some x) q =
        let h : AllByRecursion Here ((Jpeg, x) ∷ []) = subst (λ j. AllByRecursion Here (jpeg_contents j)) q jpeg_here in
        subst (λ r. IfSome r (IsInside b)) (sym (jpeg_is (Some x) q)) h.0.inside

    strips_in : (s : Option (List (List ℕ))) → t.strips ≡ s → IfSome (strip_ranges b o es) (AllByRecursion (IsInside b))
    strips_in None q = subst (λ r. IfSome r (AllByRecursion (IsInside b))) (sym (strips_are None q)) tt
    strips_in (Some s) q =
        let h : AllByRecursion Here (strip_contents 0 s) = subst (λ s. AllByRecursion Here (all_strip_contents s)) q strips_here in
        subst (λ r. IfSome r (AllByRecursion (IsInside b))) (sym (strips_are (Some s) q)) (strips_inside_are plan o filler b 0 s h)

    thumb_ok : IsThumbnail b o (at_plan Thumb)
    thumb_ok = record {
      jpeg_pair = pairs jpeg_offset_tag jpeg_length_tag (λ _. AtJpeg) (λ x. JpegSize (length x)) t.jpeg (at_jpeg t fit) (at_size t fit);
      jpeg_inside = jpeg_in t.jpeg refl;
      strip_pair =
          pairs strip_offsets_tag strip_lengths_tag (λ s. AtStrips (length s)) (λ s. StripSizes (map (λ x. length x) s)) t.strips
          (at_strips t fit) (at_lengths t fit);
      strip_counts = counts t.strips refl;
      strips_inside = strips_in t.strips refl;
      ends = next_of m plan o filler f l Thumb (thumb_items t) items_are ∙ number_spelling o 4 0 (omega arith);
    }

  no_thumb : m.thumb ≡ None → dir_at b o Thumb ≡ None
  unfolding items
  no_thumb q = not_there Thumb (ap (option_map thumb_items) q)

  is_thumb : (t : Thumbnail) → m.thumb ≡ Some t → dir_at b o Thumb ≡ Some (at_plan Thumb)
  is_thumb t q = there Thumb (thumb_items t) (thumb_items_are m plan o filler f l t q)

  thumb_checked : (x : Option Thumbnail) → m.thumb ≡ x → IfSome (dir_at b o Thumb) (IsThumbnail b o)
  thumb_checked None q = subst (λ a. IfSome a (IsThumbnail b o)) (sym (no_thumb q)) tt
  thumb_checked (Some t) q = subst (λ a. IfSome a (IsThumbnail b o)) (sym (is_thumb t q)) (thumb_ok t q)

  ranges_of_thumb : (x : Option Thumbnail) → m.thumb ≡ x → listed (option_map (thumb_ranges b o) (dir_at b o Thumb)) ≡ map
      (chunk_range plan) (thumb_chunks x)
  unfolding thumb_chunks
  ranges_of_thumb None q = ap (λ a. listed (option_map (thumb_ranges b o) a)) (no_thumb q)
  ranges_of_thumb (Some t) q = ap (λ a. listed (option_map (thumb_ranges b o) a)) (is_thumb t q) ∙ ranges_thumb t q

  map-flat : {X Y Z : Type 0} (g : Y → Z) (h : X → List Y) (k : X → List Z) (xs : List X) → AllByRecursion (λ x. k x ≡ map g (h x)) xs
      → flat_map k xs ≡ map g (flat_map h xs)
  map-flat g h k [] e = refl
  map-flat g h k (x ∷ xs) e = ap₂ (λ a c. a ++ c) e.0 (map-flat g h k xs e.1) ∙ sym (map-append g (h x) (flat_map h xs))

  footprint_is : footprint b o ≡ plan_ranges m plan
  unfolding footprint plan_ranges chunks
  footprint_is = ap (λ rs. range 0 8 ∷ rs) (ap₂ (λ a c. a ++ c)
      (map-flat (chunk_range plan) (λ d. chunks_of_dir d (items m d)) (λ d. listed (option_map (dir_ranges b o) (dir_at b o d))) dirs (
        ranges_opt Main (items m Main) refl,
        (
          ranges_opt Exif (items m Exif) refl,
          (ranges_opt Interop (items m Interop) refl, (ranges_opt Gps (items m Gps) refl, (ranges_opt Thumb (items m Thumb) refl, tt))),
        ),
      ))
      (ranges_of_thumb m.thumb refl) ∙ sym (map-append (chunk_range plan) (flat_map (λ d. chunks_of_dir d (items m d)) dirs)
      (thumb_chunks m.thumb)))

  -- ---- the fields

  opt_fields : (d : Dir) (x : Option Fields) → items m d ≡ option_map field_items x → fields_at b o d ≡ x
  opt_fields d None is = ap (option_map (fields b o d)) (not_there d is)
  opt_fields d (Some fs) is = ap (option_map (fields b o d)) (there d (field_items fs) is)
      ∙ ap (λ x. Some x) (fields_of m plan o filler f l d (field_items fs) is ∙ fields_back fs)

  exif_of : (x : Option ExifPart) → m.exif ≡ x → option_map (exif_part b o) (dir_at b o Exif) ≡ x
  unfolding items exif_part
  exif_of None q = ap (option_map (exif_part b o)) (not_there Exif (ap (option_map exif_items) q))
  exif_of (Some e) q = ap (option_map (exif_part b o)) (there Exif (exif_items e) (exif_items_are m plan o filler f l e q))
      ∙ (λ i. Some (record {
        fields = (fields_of m plan o filler f l Exif (exif_items e)
            (exif_items_are m plan o filler f l e q) ∙ fields_exif e) i;
        interop =
            opt_fields Interop e.interop (interop_items_are m plan o filler f l e q) i;
      }))

  gps_of : fields_at b o Gps ≡ m.gps
  unfolding items
  gps_of = opt_fields Gps m.gps refl

  thumb_of : (x : Option Thumbnail) → m.thumb ≡ x → option_map (thumbnail b o) (dir_at b o Thumb) ≡ x
  thumb_of None q = ap (option_map (thumbnail b o)) (no_thumb q)
  thumb_of (Some t) q = ap (option_map (thumbnail b o)) (is_thumb t q) ∙ ap (λ x. Some x) (thumb_is t q)

  -- the record
  record_entry : Option Entry → Option Iim
  record_entry x = option_and_then (λ e. option_and_then (λ f. record_in f (raw b o e)) (form_of e.code)) x

  main_found : (x : Option Item) → at_tag record_tag (main_items m) ≡ x
      → entry_with record_tag (entries_at b o (at_plan Main)) ≡ option_map (λ x. entry_of plan o filler Main (record_tag, x)) x
  main_found x e = ap (entry_with record_tag) (entries_of m plan o filler f l Main (main_items m) (main_items_are m plan o filler f l))
      ∙ entry_found plan o filler Main record_tag (main_items m) ∙ ap (option_map (λ x. entry_of plan o filler Main (record_tag, x))) e

  main_here : (x : Item) → at_tag record_tag (main_items m) ≡ Some x → IsHere plan o filler b Main (record_tag, x)
  main_here x e =
      each_at (IsHere plan o filler b Main) record_tag x (main_items m) (items_here m plan o filler f l Main (main_items m)
      (main_items_are m plan o filler f l)) e

  past_pointers : at_tag record_tag (main_items m) ≡ at_tag record_tag
      (put_some record_tag (option_map (λ i. Iptc i) m.iptc) (field_items m.main))
  past_pointers =
      let rest = put_some record_tag (option_map (λ i. Iptc i) m.iptc) (field_items m.main) in
      at_some_other record_tag exif_tag (link Exif m.exif) (put_some gps_tag (link Gps m.gps) rest) (omega arith)
      ∙ at_some_other record_tag gps_tag (link Gps m.gps) rest (omega arith)

  record_read : (x : Item) (i : Option Iim) → at_tag record_tag (main_items m) ≡ Some x
      → record_in (item_form x) (item_bytes plan o filler x) ≡ i → record_entry (entry_with record_tag (entries_at b o (at_plan Main))) ≡ i
  unfolding record_entry entry_of
  record_read x i e c = ap record_entry (main_found (Some x) e)
      ∙ ap (option_and_then (λ f. record_in f (raw b o (entry_of plan o filler Main (record_tag, x))))) (form_of_code (item_form x))
      ∙ ap (record_in (item_form x)) (raw_is plan o filler b Main (record_tag, x) (main_here x e)) ∙ c

  record_role : role Main record_tag ≡ Record
  unfolding role
  record_role = refl

  plain_record : (x : Option Value) → at_tag record_tag m.main ≡ x → at_tag record_tag (main_items m) ≡ option_map (λ v. Field v) x
      → record_entry (entry_with record_tag (entries_at b o (at_plan Main))) ≡ None
  unfolding record_entry item_bytes
  plain_record None q e = ap record_entry (main_found None e)
  plain_record (Some v) q e =
      let ff : IsWritableField Main (record_tag, v) = each_at (IsWritableField Main) record_tag v m.main f.main.each q in
      let a : Allows Record v = subst (λ r. Allows r v) record_role ff.allowed in
      record_read (Field v) None e (record_turned o (form_in v.kind) v ff.value ∙ a.1)

  record_is : (i : Option Iim) → m.iptc ≡ i → record_entry (entry_with record_tag (entries_at b o (at_plan Main))) ≡ i
  unfolding item_bytes item_size
  record_is None q =
      plain_record (at_tag record_tag m.main) refl (past_pointers
      ∙ ap (λ x. at_tag record_tag (put_some record_tag (option_map (λ i. Iptc i) x) (field_items m.main))) q ∙ at_fields record_tag m.main)
  record_is (Some i) q =
      let e : at_tag record_tag (main_items m) ≡ Some (Iptc i) =
      past_pointers ∙ ap (λ x. at_tag record_tag (put_some record_tag (option_map (λ i. Iptc i) x) (field_items m.main))) q
      ∙ at_some_same record_tag (Some (Iptc i)) (field_items m.main) (none (subst
      (λ x. IfSome x (λ i. AllByRecursion (λ p. (p.0 ≡ record_tag) → ⊥) m.main)) q f.no_second)) in
      let l : item_size (Iptc i) ≤ limit = (main_here (Iptc i) e).bounded in
      record_read (Iptc i) (Some i) e (iim_normal i (subst (λ x. IfSome x (λ i. IsRecord i × (length (normal_iim i) ≤ 2 * limit))) q
      f.iptc).0 (omega arith))
    where
      none_in : (fs : Fields) → AllByRecursion (λ p. (p.0 ≡ record_tag) → ⊥) fs → NotThere record_tag (field_items fs)
      none_in [] h = tt
      none_in (p ∷ fs) h = (h.0, none_in fs h.1)

      none : AllByRecursion (λ p. (p.0 ≡ record_tag) → ⊥) m.main → NotThere record_tag (field_items m.main)
      none = none_in m.main

  -- ---- all of it

  meaning_is : meaning b o ≡ m
  unfolding meaning record_at record_entry
  meaning_is i = record {
    main = (ap (fields b o Main) (main_place m plan o filler f l)
        ∙ fields_of m plan o filler f l Main (main_items m) (main_items_are m plan o filler f l) ∙ fields_main m) i;
    iptc = (ap (λ a. record_entry (entry_with record_tag (entries_at b o a))) (main_place m plan o filler f l) ∙ record_is m.iptc refl) i;
    exif = exif_of m.exif refl i;
    gps = gps_of i;
    thumb = thumb_of m.thumb refl i;
  }

  pub legal_is_exif : IsExif b o
  legal_is_exif = record {
    least = subst (λ n. 8 ≤ n) (sym (length_block m plan o filler f l)) l.least;
    most = subst (λ n. n ≤ limit) (sym (length_block m plan o filler f l)) l.most;
    begins = begins_is m plan o filler f l;
    directories = (
      in_order Main (items m Main) refl,
      (
        in_order Exif (items m Exif) refl,
        (in_order Interop (items m Interop) refl, (in_order Gps (items m Gps) refl, (in_order Thumb (items m Thumb) refl, tt))),
      ),
    );
    thumbnail = thumb_checked m.thumb refl;
    apart = subst AllApart (sym footprint_is) l.apart;
  }

-- A legal block of a meaning that fits has that meaning, in either byte order, with any filler.
pub legal_block_has_meaning : LegalBlockHasMeaning
legal_block_has_meaning m plan o filler f l =
    record { order = o; is_block = legal_is_exif m plan o filler f l; means = sym (meaning_is m plan o filler f l) }
