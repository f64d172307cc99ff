-- The bytes of each chunk have the chunk's size; so each piece of a legal block is at its offset.
use Rattle.std.proofs.Common.{◌≡◌, ℕ, ◌+◌, ◌*◌, ◌≤◌, nat_lt, inl, inr, Option, Some, None, option_map, List, [], ◌∷◌, ◌++◌, map, filter_map}
use Rattle.std.proofs.Common.{flat_map, length, refl, sym, ◌∙◌, ap, ap₂, subst, arith}
use Rattle.std.specs.Prelude.{IfSome}
use Rattle.std.specs.List.{AllByRecursion, cons_option}
use Rattle.std.proofs.lemmas.List.{length-append, length-replicate, map-append}
use Rattle.std.proofs.lemmas.Bool.{cond-true, cond-false, cases_Bool}
use Rattle.px_bytes.specs.declared.Order.{Order}
use Rattle.px_bytes.specs.declared.Order.TheVariants.{Least, Most}
use Rattle.px_bytes.specs.Numbers.{spelling}
use Rattle.px_bytes.specs.Range.{range, AllApart}
use Rattle.px_bytes.specs.lemmas.NumberLaws.{length_spelling}
use Rattle.px_bytes.specs.lemmas.EachLaws.{each_map, each_in_map, map_map}
use Rattle.px_field.specs.lemmas.PieceLaws.{length_joined}
use Rattle.px_meaning.specs.declared.Dir.{Dir}
use Rattle.px_meaning.specs.declared.Dir.TheVariants.{Main, Exif, Interop, Gps, Thumb}
use Rattle.px_meaning.specs.Tree.{Meaning, Thumbnail}
use Rattle.px_meaning.specs.Roles.{role}
use Rattle.px_meaning.specs.Entry.{table_size}
use Rattle.px_meaning.specs.Directory.{dirs, magic}
use Rattle.px_meaning.specs.Writable.{Item, item_size, items, IsWritable}
use Rattle.px_layout.specs.declared.chunks.Chunk.{Chunk}
use Rattle.px_layout.specs.declared.chunks.Chunk.TheVariants.{Table, Placed, Strip}
use Rattle.px_layout.specs.Chunks.{placed_chunk, chunks_of_dir, jpeg_chunks, strip_chunks, all_strip_chunks, thumb_chunks, chunks}
use Rattle.px_layout.specs.Plans.{Plan, place, Legal, plan_ranges}
use Rattle.px_layout.specs.Laid.{long_bytes, item_bytes, entry_bytes, next_bytes, table_bytes, placed_content, contents_of_dir}
use Rattle.px_layout.specs.Laid.{jpeg_contents, strip_contents, all_strip_contents, thumb_contents, contents, header, laid_pieces, laid}
use Rattle.px_layout.specs.lemmas.PlacementLaws.{IsPlaced, piece_range, each_placed}
use Rattle.px_layout.specs.lemmas.ItemLaws.{Suits, length_is, length_entry}
use Rattle.px_layout.specs.lemmas.EntryLaws.{Good, good_items}

pub filter_map_map : {X Y Z : Type 0} (g : Y → Z) (h : X → Option Y) (k : X → Option Z) (xs : List X)
    → AllByRecursion (λ x. option_map g (h x) ≡ k x) xs → map g (filter_map h xs) ≡ filter_map k xs
filter_map_map g h k [] e = refl
filter_map_map g h k (x ∷ xs) e = moved (h x) (filter_map h xs) ∙ ap₂ cons_option e.0 (filter_map_map g h k xs e.1)
  where
    moved : (o : Option _) (ys : List _) → map g (cons_option o ys) ≡ cons_option (option_map g o) (map g ys)
    moved None ys = refl
    moved (Some y) ys = refl

map_flat_map : {X Y Z : Type 0} (g : Y → Z) (f : X → List Y) (k : X → List Z) (xs : List X) → AllByRecursion (λ x. map g (f x) ≡ k x) xs
    → map g (flat_map f xs) ≡ flat_map k xs
map_flat_map g f k [] e = refl
map_flat_map g f k (x ∷ xs) e = map-append g (f x) (flat_map f xs) ∙ ap₂ (λ a b. a ++ b) e.0 (map_flat_map g f k xs e.1)

-- a chunk and the size of its bytes
abbrev pub sized : Chunk × List ℕ → Chunk × ℕ
sized c = (c.0, length c.1)

module _ (plan : Plan) (o : Order) (filler : ℕ) where
  pub length_next : (m : Meaning) (d : Dir) → length (next_bytes plan o filler m d) ≡ 4
  length_next m Main = main_next m.thumb
    where
      main_next : (t : Option Thumbnail) → length
          (elim t as (λ _. List ℕ) [ Some t ↦ long_bytes o (place plan (Table Thumb)) | None ↦ long_bytes o 0 ]) ≡ 4
      main_next (Some t) = length_spelling o 4 (place plan (Table Thumb))
      main_next None = length_spelling o 4 0
  length_next m Thumb = length_spelling o 4 0
  length_next m _ = length-replicate 4 filler

  module _ (d : Dir) (xs : List (ℕ × Item)) (suit : AllByRecursion (λ i. Suits (role d i.0) i.1) xs) where
    pub entries_twelve : AllByRecursion (λ i. length (entry_bytes plan o filler d i) ≡ 12) xs
    entries_twelve = each_map (λ i. Suits (role d i.0) i.1) (λ i. length (entry_bytes plan o filler d i) ≡ 12)
        (λ i h. length_entry plan o filler d i h) xs suit

    pub length_entries : length (flat_map (entry_bytes plan o filler d) xs) ≡ length xs * 12
    length_entries = length_joined 12 (entry_bytes plan o filler d) xs entries_twelve

    pub length_table : (m : Meaning) → length (table_bytes plan o filler m d xs) ≡ table_size (length xs)
    unfolding table_bytes
    length_table m =
        length-append (spelling o 2 (length xs)) (flat_map (entry_bytes plan o filler d) xs ++ next_bytes plan o filler m d) ∙ (
        let a = length_spelling o 2 (length xs) in
        let c = length-append (flat_map (entry_bytes plan o filler d) xs) (next_bytes plan o filler m d) in
        let e = length_entries in let n = length_next m d in omega arith)

    placed_sized : map sized (filter_map (placed_content plan o filler d) xs) ≡ filter_map (placed_chunk d) xs
    unfolding placed_content placed_chunk
    placed_sized = filter_map_map sized (placed_content plan o filler d) (placed_chunk d) xs
        (each_map (λ i. Suits (role d i.0) i.1) (λ i. option_map sized (placed_content plan o filler d i) ≡ placed_chunk d i) (λ i h.
        elim (cases_Bool (nat_lt 4 (item_size i.1))) [
          | inl t ↦ ap (option_map sized) (cond-true (nat_lt 4 (item_size i.1)) (Some (Placed d i.0, item_bytes plan o filler i.1)) None t)
              ∙ ap (λ n. Some (Placed d i.0, n)) (length_is plan o filler d i h)
              ∙ sym (cond-true (nat_lt 4 (item_size i.1)) (Some (Placed d i.0, item_size i.1)) None t)
          | inr f ↦ ap (option_map sized) (cond-false (nat_lt 4 (item_size i.1)) (Some (Placed d i.0, item_bytes plan o filler i.1)) None f)
              ∙ sym (cond-false (nat_lt 4 (item_size i.1)) (Some (Placed d i.0, item_size i.1)) None f)
        ]) xs suit)

    pub dir_sized : (m : Meaning) → map sized (contents_of_dir plan o filler m d (Some xs)) ≡ chunks_of_dir d (Some xs)
    dir_sized m = ap₂ (λ n ys. (Table d, n) ∷ ys) (length_table m) placed_sized

  opt_sized : (m : Meaning) (d : Dir) (xs : Option (List (ℕ × Item))) → IfSome xs (Good d)
      → map sized (contents_of_dir plan o filler m d xs) ≡ chunks_of_dir d xs
  opt_sized m d None g = refl
  opt_sized m d (Some xs) g = dir_sized d xs g.suit m

  strips_sized : (n : ℕ) (xs : List (List ℕ)) → map sized (strip_contents n xs) ≡ strip_chunks n xs
  strips_sized n [] = refl
  strips_sized n (x ∷ xs) = ap (λ ys. (Strip n, length x) ∷ ys) (strips_sized (n + 1) xs)

  thumb_sized : (t : Option Thumbnail) → map sized (thumb_contents t) ≡ thumb_chunks t
  unfolding thumb_contents thumb_chunks
  thumb_sized None = refl
  thumb_sized (Some t) =
      map-append sized (jpeg_contents t.jpeg) (all_strip_contents t.strips) ∙ ap₂ (λ a b. a ++ b) (jpeg t.jpeg) (strips t.strips)
    where
      jpeg : (j : Option (List ℕ)) → map sized (jpeg_contents j) ≡ jpeg_chunks j
      jpeg None = refl
      jpeg (Some x) = refl

      strips : (s : Option (List (List ℕ))) → map sized (all_strip_contents s) ≡ all_strip_chunks s
      strips None = refl
      strips (Some s) = strips_sized 0 s

  pub contents_sized : (m : Meaning) → IsWritable m → map sized (contents plan o filler m) ≡ chunks m
  unfolding contents chunks
  contents_sized m f = map-append sized (flat_map (λ d. contents_of_dir plan o filler m d (items m d)) dirs) (thumb_contents m.thumb)
      ∙ ap₂ (λ a b. a ++ b)
      (map_flat_map sized (λ d. contents_of_dir plan o filler m d (items m d)) (λ d. chunks_of_dir d (items m d)) dirs
      (here Main, (here Exif, (here Interop, (here Gps, (here Thumb, tt))))))
      (thumb_sized m.thumb)
    where
      here : (d : Dir) → map sized (contents_of_dir plan o filler m d (items m d)) ≡ chunks_of_dir d (items m d)
      here d = opt_sized m d (items m d) (good_items m f d)

  pub length_header : length (header plan o filler) ≡ 8
  unfolding header
  length_header = eight o
    where
      eight : (p : Order) → length (magic p ++ spelling p 4 (place plan (Table Main))) ≡ 8
      eight Least = refl
      eight Most = refl

  pub ranges_are : (m : Meaning) → IsWritable m → map piece_range (laid_pieces plan o filler m) ≡ plan_ranges m plan
  unfolding laid_pieces plan_ranges
  ranges_are m f = ap₂ (λ n rs. range 0 n ∷ rs) length_header
      (map_map piece_range (λ c. (place plan c.0, c.1)) (contents plan o filler m)
      ∙ sym (map_map (λ c. range (place plan c.0) c.1) sized (contents plan o filler m))
      ∙ ap (map (λ c. range (place plan c.0) c.1)) (contents_sized m f))

  -- each piece is in the block
  pub pieces_placed : (m : Meaning) → IsWritable m → Legal m plan → AllByRecursion (λ y. IsPlaced (laid m plan o filler) y.0 y.1)
      (laid_pieces plan o filler m)
  unfolding laid
  pieces_placed m f l = each_placed filler plan.length (laid_pieces plan o filler m)
      (subst AllApart (sym (ranges_are m f)) l.apart)
      (each_in_map (λ r. r.start + r.size ≤ plan.length) piece_range (laid_pieces plan o filler m)
      (subst (AllByRecursion (λ r. r.start + r.size ≤ plan.length)) (sym (ranges_are m f)) l.inside))
