-- A normal form is at most twice as long as any block with its meaning.
use Rattle.std.proofs.Common.{◌≡◌, ℕ, ◌+◌, ◌*◌, ◌≤◌, nat_le, inl, inr, true, Option, Some, None, option_map, option_and_then, List, [], ◌∷◌}
use Rattle.std.proofs.Common.{◌++◌, map, filter_map, flat_map, length, take, drop, refl, sym, ◌∙◌, ap, subst, arith, leb-true, length-take}
use Rattle.std.specs.Prelude.{IfSome, option_to_list}
use Rattle.std.specs.List.{AllByRecursion, cons_option}
use Rattle.std.proofs.lemmas.Bool.{cond-true, cond-false, cases_Bool, and_parts}
use Rattle.std.proofs.lemmas.List.{length-map, take-take}
use Rattle.px_bytes.specs.declared.Order.{Order}
use Rattle.px_bytes.specs.Numbers.{number}
use Rattle.px_bytes.specs.Parts.{part, pieces}
use Rattle.px_bytes.specs.Range.{Range, range}
use Rattle.px_field.specs.lemmas.PieceLaws.{length_pieces}
use Rattle.px_meaning.specs.declared.Dir.{Dir}
use Rattle.px_meaning.specs.declared.Dir.TheVariants.{Main, Exif, Interop, Gps, Thumb}
use Rattle.px_meaning.specs.Tree.{Meaning}
use Rattle.px_meaning.specs.Entry.{Entry, entry, short, table_size, has_table, table, entries, raw_size, is_placed, offset, has_raw}
use Rattle.px_meaning.specs.Entry.{IsEntry}
use Rattle.px_meaning.specs.Entry.{IsDirectory, fields}
use Rattle.px_meaning.specs.Directory.{dirs, entries_at, main_at, dir_at}
use Rattle.px_meaning.specs.Thumbnail.{bytes_of, IsInside, jpeg_range, strip_ranges, IsThumbnail}
use Rattle.px_meaning.specs.Footprint.{listed, placed_range, dir_ranges, ranges_at, thumb_ranges, footprint}
use Rattle.px_meaning.specs.Says.{exif_part, thumbnail, meaning, IsExif}
use Rattle.px_meaning.specs.Writable.{Item, field_items, exif_items, thumb_items, items, IsWritable}
use Rattle.px_meaning.specs.Laws.{MeaningIsWritable}
use Rattle.px_layout.specs.declared.chunks.Chunk.{Chunk}
use Rattle.px_layout.specs.Chunks.{dir_chunks, chunks_of_dir, jpeg_chunks, strip_chunks, all_strip_chunks, thumb_chunks, chunks}
use Rattle.px_layout.specs.Normal.{padded_size, normal_plan, normal_exif}
use Rattle.px_layout.specs.Laws.{NormalBound}
use Rattle.px_bytes.specs.lemmas.ApartLaws.{total, total_le}
use Rattle.px_bytes.specs.lemmas.EachLaws.{each_append}
use Rattle.px_layout.specs.lemmas.EntryLaws.{Good, good_items}
use Rattle.px_layout.specs.lemmas.LineLaws.{length_normal}
use Rattle.px_layout.specs.lemmas.CostLaws.{even_near, even_double, PayEach, pay_all, padded_placed, total_placed}
use Rattle.px_layout.specs.lemmas.PayLaws.{main_paid, exif_paid, plain_paid, thumb_paid}

-- ---- sums

total_append : (rs ss : List Range) → total (rs ++ ss) ≡ total rs + total ss
total_append [] ss = omega arith
total_append (r ∷ rs) ss = let e = total_append rs ss in omega arith

padded_append : (xs ys : List (Chunk × ℕ)) → padded_size (xs ++ ys) ≡ padded_size xs + padded_size ys
padded_append [] ys = omega arith
padded_append (x ∷ xs) ys = let e = padded_append xs ys in omega arith

bound_append : (xs ys : List (Chunk × ℕ)) (rs ss : List Range) → padded_size xs ≤ 2 * total rs → padded_size ys ≤ 2 * total ss
    → padded_size (xs ++ ys) ≤ 2 * total (rs ++ ss)
bound_append xs ys rs ss h k = let p = padded_append xs ys in let t = total_append rs ss in omega arith

module _ (b : List ℕ) (o : Order) where
  IsIn : Range → Type 0
  IsIn r = IsInside b r

  -- ---- one directory

  module _ (d : Dir) (a : ℕ) (is : IsDirectory b o d a) where
    abbrev n : ℕ
    n = short o (part b a 2)

    abbrev es : List Entry
    es = entries_at b o a

    table_inside : a + table_size n ≤ length b
    unfolding has_table
    table_inside = leb-true (a + table_size n) (length b) (and_parts (nat_le 1 n) (nat_le (a + table_size n) (length b)) is.there).1

    count_is : short o (take 2 (table b o a)) ≡ n
    unfolding table
    count_is = ap (λ t. short o (take 2 t)) (cond-true (has_table b o a) (part b a (table_size n)) [] is.there)
        ∙ ap (number o 2) (take-take 2 (table_size n) (drop a b) (omega arith))

    length_entries : length es ≡ n
    unfolding entries
    length_entries =
        let t = table b o a in
        length-map (pieces (short o (take 2 t)) 12 (drop 2 t)) (entry o) ∙ length_pieces (short o (take 2 t)) 12 (drop 2 t) ∙ count_is

    placed_inside : (zs : List Entry) → AllByRecursion (IsEntry b o d) zs → AllByRecursion IsIn (filter_map (placed_range o) zs)
    unfolding placed_range has_raw IsIn
    placed_inside [] h = tt
    placed_inside (e ∷ zs) h = elim (cases_Bool (is_placed e)) [
      | inl t ↦ subst (λ r. AllByRecursion IsIn (cons_option r (filter_map (placed_range o) zs)))
          (sym (cond-true (is_placed e) (Some (range (offset o e) (raw_size e))) None t)) (
            leb-true _ _ (sym (cond-true (is_placed e) (nat_le (offset o e + raw_size e) (length b)) true t)
                ∙ h.0.inside),
            placed_inside zs h.1,
          )
      | inr t ↦ subst (λ r. AllByRecursion IsIn (cons_option r (filter_map (placed_range o) zs)))
          (sym (cond-false (is_placed e) (Some (range (offset o e) (raw_size e))) None t)) (placed_inside zs h.1)
    ]

    dir_inside : AllByRecursion IsIn (dir_ranges b o a)
    unfolding dir_ranges IsIn
    dir_inside = (table_inside, placed_inside es is.each)

    dir_bound : (xs : List (ℕ × Item)) → Good d xs → PayEach es xs → padded_size (dir_chunks d xs) ≤ 2 * total (dir_ranges b o a)
    unfolding dir_ranges
    dir_bound xs g p =
        let c = pay_all xs es g.rising is.rising p in
        let x = padded_placed d xs in
        let y = total_placed o es in
        let l = length_entries in
        let t = even_near (table_size (length xs)) in
        omega arith

  -- ---- the thumbnail's parts

  part_short : (r : Range) → length (bytes_of b r) ≤ r.size
  part_short r = let e = length-take r.size (drop r.start b) in omega arith

  strips_bound : (n : ℕ) (rs : List Range) → padded_size (strip_chunks n (map (bytes_of b) rs)) ≤ 2 * total rs
  strips_bound n [] = omega arith
  strips_bound n (r ∷ rs) =
      let e = even_double (length (bytes_of b r)) r.size (part_short r) in
      let k = strips_bound (n + 1) rs in
      omega arith

  all_strips_bound : (z : Option (List Range)) → padded_size (all_strip_chunks (option_map (map (bytes_of b)) z)) ≤ 2 * total (listed z)
  all_strips_bound None = omega arith
  all_strips_bound (Some rs) = strips_bound 0 rs

  jpeg_bound : (z : Option Range) → padded_size (jpeg_chunks (option_map (bytes_of b) z)) ≤ 2 * total (option_to_list z)
  jpeg_bound None = omega arith
  jpeg_bound (Some r) = let e = even_double (length (bytes_of b r)) r.size (part_short r) in omega arith

  thumb_bound : (z : Option ℕ) → padded_size (thumb_chunks (option_map (thumbnail b o) z)) ≤ 2 * total
      (listed (option_map (thumb_ranges b o) z))
  unfolding thumb_chunks thumbnail thumb_ranges
  thumb_bound None = omega arith
  thumb_bound (Some a) =
      let es = entries_at b o a in
      bound_append (jpeg_chunks (option_map (bytes_of b) (jpeg_range o es)))
      (all_strip_chunks (option_map (map (bytes_of b)) (strip_ranges b o es)))
      (option_to_list (jpeg_range o es)) (listed (strip_ranges b o es)) (jpeg_bound (jpeg_range o es))
      (all_strips_bound (strip_ranges b o es))

  jpeg_inside : (z : Option Range) → IfSome z (IsInside b) → AllByRecursion IsIn (option_to_list z)
  unfolding IsIn
  jpeg_inside None h = tt
  jpeg_inside (Some r) h = (h, tt)

  strips_inside : (z : Option (List Range)) → IfSome z (AllByRecursion (IsInside b)) → AllByRecursion IsIn (listed z)
  unfolding IsIn
  strips_inside None h = tt
  strips_inside (Some rs) h = h

  thumb_inside : (z : Option ℕ) → IfSome z (IsThumbnail b o) → AllByRecursion IsIn (listed (option_map (thumb_ranges b o) z))
  unfolding thumb_ranges
  thumb_inside None h = tt
  thumb_inside (Some a) h =
      let es = entries_at b o a in
      each_append IsIn (option_to_list (jpeg_range o es)) (listed (strip_ranges b o es)) (jpeg_inside (jpeg_range o es) h.jpeg_inside)
      (strips_inside (strip_ranges b o es) h.strips_inside)

  -- ---- the block

  module _ (x : IsExif b o) (f : IsWritable (meaning b o)) where
    abbrev m : Meaning
    m = meaning b o

    in_order : (d : Dir) → IfSome (dir_at b o d) (IsDirectory b o d)
    in_order Main = x.directories.0
    in_order Exif = x.directories.1.0
    in_order Interop = x.directories.1.1.0
    in_order Gps = x.directories.1.1.1.0
    in_order Thumb = x.directories.1.1.1.1.0

    is_at : (d : Dir) (a : ℕ) → dir_at b o d ≡ Some a → IsDirectory b o d a
    is_at d a q = subst (λ z. IfSome z (IsDirectory b o d)) q (in_order d)

    -- if a directory is present
    bound_at : (d : Dir) (a : ℕ) (xs : List (ℕ × Item)) → dir_at b o d ≡ Some a → Good d xs → PayEach (entries_at b o a) xs
        → padded_size (dir_chunks d xs) ≤ 2 * total (dir_ranges b o a)
    bound_at d a xs q g p = dir_bound d a (is_at d a q) xs g p

    abbrev Bounded : Dir → Option (List (ℕ × Item)) → Option ℕ → Type 0
    Bounded d y z = padded_size (chunks_of_dir d y) ≤ 2 * total (listed (option_map (dir_ranges b o) z))

    bound_exif : (z : Option ℕ) → dir_at b o Exif ≡ z → IfSome (option_map exif_items (option_map (exif_part b o) z)) (Good Exif)
        → Bounded Exif (option_map exif_items (option_map (exif_part b o) z)) z
    bound_exif None q g = omega arith
    bound_exif (Some a) q g = bound_at Exif a (exif_items (exif_part b o a)) q g (exif_paid b o a q)

    bound_plain : (d : Dir) (z : Option ℕ) → dir_at b o d ≡ z → IfSome (option_map field_items (option_map (fields b o d) z)) (Good d)
        → Bounded d (option_map field_items (option_map (fields b o d) z)) z
    bound_plain d None q g = omega arith
    bound_plain d (Some a) q g = bound_at d a (field_items (fields b o d a)) q g (plain_paid b o d a)

    bound_thumb : (z : Option ℕ) → dir_at b o Thumb ≡ z → IfSome (option_map thumb_items (option_map (thumbnail b o) z)) (Good Thumb)
        → Bounded Thumb (option_map thumb_items (option_map (thumbnail b o) z)) z
    bound_thumb None q g = omega arith
    bound_thumb (Some a) q g = bound_at Thumb a (thumb_items (thumbnail b o a)) q g (thumb_paid b o a (is_at Thumb a q).each)

    -- the directory of the Exif directory
    bound_interop : (y : Option ℕ) → IfSome (option_and_then (λ e. option_map field_items e.interop) (option_map (exif_part b o) y))
        (Good Interop) →
        Bounded Interop (option_and_then (λ e. option_map field_items e.interop) (option_map (exif_part b o) y)) (dir_at b o Interop)
    unfolding exif_part
    bound_interop None g = none (total (listed (option_map (dir_ranges b o) (dir_at b o Interop))))
      where
        none : (n : ℕ) → 0 ≤ 2 * n
        none n = omega arith
    bound_interop (Some a) g = bound_plain Interop (dir_at b o Interop) refl g

    main_is : dir_at b o Main ≡ Some (main_at b o)
    unfolding dir_at
    main_is = refl

    each_bound : (d : Dir) → Bounded d (items m d) (dir_at b o d)
    unfolding items meaning
    each_bound Main =
        subst (λ z. Bounded Main (items m Main) z) (sym main_is) (bound_at Main (main_at b o) _ main_is (good_items m f Main)
        (main_paid b o))
    each_bound Exif = bound_exif (dir_at b o Exif) refl (good_items m f Exif)
    each_bound Interop = bound_interop (dir_at b o Exif) (good_items m f Interop)
    each_bound Gps = bound_plain Gps (dir_at b o Gps) refl (good_items m f Gps)
    each_bound Thumb = bound_thumb (dir_at b o Thumb) refl (good_items m f Thumb)

    dirs_bound : (ds : List Dir) → padded_size (flat_map (λ d. chunks_of_dir d (items m d)) ds) ≤ 2 * total (flat_map (ranges_at b o) ds)
    dirs_bound [] = omega arith
    dirs_bound (d ∷ ds) =
        bound_append (chunks_of_dir d (items m d)) (flat_map (λ d. chunks_of_dir d (items m d)) ds) (ranges_at b o d)
        (flat_map (ranges_at b o) ds) (each_bound d) (dirs_bound ds)

    chunks_bound : 16 + padded_size (chunks m) ≤ 2 * total (footprint b o)
    unfolding chunks footprint meaning
    chunks_bound =
        let e = bound_append (flat_map (λ d. chunks_of_dir d (items m d)) dirs) (thumb_chunks m.thumb) (flat_map (ranges_at b o) dirs)
        (listed (option_map (thumb_ranges b o) (dir_at b o Thumb))) (dirs_bound dirs) (thumb_bound (dir_at b o Thumb)) in omega arith

    -- ---- the footprint lies inside

    inside_at : (d : Dir) (z : Option ℕ) → dir_at b o d ≡ z → AllByRecursion IsIn (listed (option_map (dir_ranges b o) z))
    inside_at d None q = tt
    inside_at d (Some a) q = dir_inside d a (is_at d a q)

    dirs_inside : (ds : List Dir) → AllByRecursion IsIn (flat_map (ranges_at b o) ds)
    dirs_inside [] = tt
    dirs_inside (d ∷ ds) =
        each_append IsIn (ranges_at b o d) (flat_map (ranges_at b o) ds) (inside_at d (dir_at b o d) refl) (dirs_inside ds)

    inside : AllByRecursion IsIn (footprint b o)
    unfolding footprint IsIn
    inside = (
      x.least,
      each_append IsIn (flat_map (ranges_at b o) dirs) (listed (option_map (thumb_ranges b o) (dir_at b o Thumb)))
          (dirs_inside dirs) (thumb_inside (dir_at b o Thumb) x.thumbnail),
    )

    footprint_fits : total (footprint b o) ≤ length b
    unfolding IsIn
    footprint_fits = total_le (length b) (footprint b o) x.apart inside

    bound_is : length (normal_exif m) ≤ 2 * length b
    unfolding normal_plan
    bound_is = let l = length_normal m f in let c = chunks_bound in let t = footprint_fits in omega arith

-- A normal form is at most twice as long as any block with its meaning, because that fits.
pub normal_bound : MeaningIsWritable → NormalBound
normal_bound fits b m h s =
    subst (λ z. length (normal_exif z) ≤ 2 * length b) (sym s.means)
    (bound_is b s.order s.is_block (subst IsWritable s.means (fits b m h s)))
