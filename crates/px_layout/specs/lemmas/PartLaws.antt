-- In a legal block each part of the meaning reads back, and the footprint is the plan.
use Rattle.std.proofs.Common.{◌≡◌, ℕ, ◌+◌, ◌^◌, ◌<◌, Option, Some, None, option_map, List, [], ◌∷◌, map, filter_map, flat_map, length, refl}
use Rattle.std.proofs.Common.{sym, ◌∙◌, ap, ap₂, arith, append-nil}
use Rattle.std.specs.Prelude.{IfSome}
use Rattle.std.specs.List.{AllByRecursion, range_with_len}
use Rattle.px_bytes.specs.Parts.{pieces}
use Rattle.px_bytes.specs.declared.Order.{Order}
use Rattle.px_bytes.specs.Numbers.{number, spelling}
use Rattle.px_bytes.specs.Range.{Range, range}
use Rattle.px_bytes.specs.lemmas.NumberLaws.{number_spelling, length_spelling}
use Rattle.px_field.specs.declared.Form.TheVariants.{Long}
use Rattle.px_field.specs.Values.{element_of, elements}
use Rattle.px_field.specs.lemmas.PieceLaws.{pieces_joined}
use Rattle.px_field.specs.lemmas.FormLaws.{form_of_code}
use Rattle.px_meaning.specs.declared.Dir.{Dir}
use Rattle.px_meaning.specs.declared.Dir.TheVariants.{Exif, Interop, Gps, Thumb}
use Rattle.px_meaning.specs.Tree.{ExifPart, Thumbnail, Meaning}
use Rattle.px_meaning.specs.Roles.{exif_tag, gps_tag, record_tag, interop_tag, jpeg_offset_tag, jpeg_length_tag, strip_offsets_tag}
use Rattle.px_meaning.specs.Roles.{strip_lengths_tag, role, at_tag}
use Rattle.px_meaning.specs.Entry.{offset, entry_elements}
use Rattle.px_meaning.specs.Thumbnail.{whole_number, numbers, numbers_in, ranges_of, bytes_of, IsInside}
use Rattle.px_meaning.specs.Writable.{Item, Iptc, Link, AtJpeg, JpegSize, AtStrips, StripSizes, item_size, put_some, link, field_items}
use Rattle.px_meaning.specs.Writable.{main_items}
use Rattle.px_meaning.specs.Writable.{exif_items, thumb_items, IsWritableThumb}
use Rattle.px_layout.specs.declared.chunks.Chunk.{Chunk}
use Rattle.px_layout.specs.declared.chunks.Chunk.TheVariants.{Jpeg, Strip}
use Rattle.px_layout.specs.Chunks.{strip_chunks}
use Rattle.px_layout.specs.Plans.{Plan, place}
use Rattle.px_layout.specs.Laid.{item_bytes, last_bytes, strip_contents}
use Rattle.px_layout.specs.lemmas.PlacementLaws.{IsPlaced}
use Rattle.px_layout.specs.lemmas.ItemLaws.{item_value, item_field, IsHere, entry_of, raw_is}
use Rattle.px_layout.specs.lemmas.EntryLaws.{no_field, not_put}
use Rattle.px_layout.specs.lemmas.TagLaws.{at_some_same, at_some_other, fields_some, fields_back}

no_value : {X : Type 0} (g : X → Item) (o : Option X) → ((x : X) → item_value (g x) ≡ None)
    → IfSome (option_map g o) (λ x. item_value x ≡ None)
no_value g None h = tt
no_value g (Some x) h = h x

pub fields_main : (m : Meaning) → filter_map item_field (main_items m) ≡ m.main
fields_main m = fields_some exif_tag (link Exif m.exif) _ (no_value (λ _. Link Exif) m.exif (λ _. refl))
    ∙ fields_some gps_tag (link Gps m.gps) _ (no_value (λ _. Link Gps) m.gps (λ _. refl))
    ∙ fields_some record_tag (option_map Iptc m.iptc) _ (no_value (λ i. Iptc i) m.iptc (λ _. refl)) ∙ fields_back m.main

pub fields_exif : (e : ExifPart) → filter_map item_field (exif_items e) ≡ e.fields
fields_exif e =
    fields_some interop_tag (link Interop e.interop) _ (no_value (λ _. Link Interop) e.interop (λ _. refl)) ∙ fields_back e.fields

pub fields_thumb : (t : Thumbnail) → filter_map item_field (thumb_items t) ≡ t.fields
fields_thumb t = fields_some jpeg_offset_tag _ _ (no_value (λ _. AtJpeg) t.jpeg (λ _. refl))
    ∙ fields_some jpeg_length_tag _ _ (no_value (λ x. JpegSize (length x)) t.jpeg (λ _. refl))
    ∙ fields_some strip_offsets_tag _ _ (no_value (λ s. AtStrips (length s)) t.strips (λ _. refl))
    ∙ fields_some strip_lengths_tag _ _ (no_value (λ s. StripSizes (map (λ x. length x) s)) t.strips (λ _. refl)) ∙ fields_back t.fields

-- ---- numbers in an item

module _ (plan : Plan) (o : Order) (filler : ℕ) (b : List ℕ) where
  long_elements : {X : Type 0} (g : X → ℕ) (xs : List X) → AllByRecursion (λ x. g x < 2 ^ 32) xs
      → map whole_number (elements o Long (length xs) (flat_map (λ x. spelling o 4 (g x)) xs)) ≡ map g xs
  unfolding elements
  long_elements g xs h =
      ap (λ y. map whole_number (map (element_of o Long) y)) (ap (λ z. pieces' (length xs) z)
      (sym (append-nil (flat_map (λ x. spelling o 4 (g x)) xs))) ∙ pieces_joined 4 (λ x. spelling o 4 (g x)) xs [] (four xs))
      ∙ back xs h
    where
      pieces' : ℕ → List ℕ → List (List ℕ)
      pieces' n z = pieces n 4 z

      four : (xs : List _) → AllByRecursion (λ x. length (spelling o 4 (g x)) ≡ 4) xs
      four [] = tt
      four (x ∷ xs) = (length_spelling o 4 (g x), four xs)

      back : (xs : List _) → AllByRecursion (λ x. g x < 2 ^ 32) xs
          → map whole_number (map (element_of o Long) (map (λ x. spelling o 4 (g x)) xs)) ≡ map g xs
      back [] h = refl
      back (x ∷ xs) h = ap₂ (λ n ns. n ∷ ns) (number_spelling o 4 (g x) h.0) (back xs h.1)

  module _ (d : Dir) (t : ℕ) where
    -- the numbers of the two lists of strips
    pub numbers_at_strips : (n : ℕ) → IsHere plan o filler b d (t, AtStrips n) → (len : length (range_with_len 0 n) ≡ n)
        → AllByRecursion (λ i. place plan (Strip i) < 2 ^ 32) (range_with_len 0 n)
        → numbers b o (entry_of plan o filler d (t, AtStrips n)) ≡ map (λ i. place plan (Strip i)) (range_with_len 0 n)
    unfolding numbers entry_of entry_elements item_bytes
    numbers_at_strips n h len k = ap (numbers_in b o (entry_of plan o filler d (t, AtStrips n))) (form_of_code Long)
        ∙ ap₂ (λ c r. map whole_number (elements o Long c r)) (sym len) (raw_is plan o filler b d (t, AtStrips n) h)
        ∙ long_elements (λ i. place plan (Strip i)) (range_with_len 0 n) k

    pub numbers_sizes : (ns : List ℕ) → IsHere plan o filler b d (t, StripSizes ns) → AllByRecursion (λ n. n < 2 ^ 32) ns
        → numbers b o (entry_of plan o filler d (t, StripSizes ns)) ≡ ns
    unfolding numbers entry_of entry_elements item_bytes
    numbers_sizes ns h k = ap (numbers_in b o (entry_of plan o filler d (t, StripSizes ns))) (form_of_code Long)
        ∙ ap (λ r. map whole_number (elements o Long (length ns) r)) (raw_is plan o filler b d (t, StripSizes ns) h)
        ∙ long_elements (λ n. n) ns k ∙ map-same ns
      where
        map-same : (ns : List ℕ) → map (λ (n : ℕ). n) ns ≡ ns
        map-same [] = refl
        map-same (n ∷ ns) = ap (λ x. n ∷ x) (map-same ns)

    pub offset_jpeg : place plan Jpeg < 2 ^ 32 → offset o (entry_of plan o filler d (t, AtJpeg)) ≡ place plan Jpeg
    unfolding entry_of last_bytes item_size item_bytes
    offset_jpeg h = ap (number o 4) (append-nil (spelling o 4 (place plan Jpeg))) ∙ number_spelling o 4 (place plan Jpeg) h

    pub offset_size : (n : ℕ) → n < 2 ^ 32 → offset o (entry_of plan o filler d (t, JpegSize n)) ≡ n
    unfolding entry_of last_bytes item_size item_bytes
    offset_size n h = ap (number o 4) (append-nil (spelling o 4 n)) ∙ number_spelling o 4 n h

-- ---- the indexes of the thumbnail's parts among its entries

module _ (t : Thumbnail) (f : IsWritableThumb t) where
  abbrev with_lengths : List (ℕ × Item)
  with_lengths = put_some strip_lengths_tag (option_map (λ s. StripSizes (map (λ x. length x) s)) t.strips) (field_items t.fields)

  abbrev with_strips : List (ℕ × Item)
  with_strips = put_some strip_offsets_tag (option_map (λ s. AtStrips (length s)) t.strips) with_lengths

  abbrev with_size : List (ℕ × Item)
  with_size = put_some jpeg_length_tag (option_map (λ x. JpegSize (length x)) t.jpeg) with_strips

  pub at_jpeg : at_tag jpeg_offset_tag (thumb_items t) ≡ option_map (λ _. AtJpeg) t.jpeg
  unfolding role
  at_jpeg =
      at_some_same jpeg_offset_tag _ with_size (not_put jpeg_offset_tag jpeg_length_tag _ with_strips (omega arith)
      (not_put jpeg_offset_tag strip_offsets_tag _ with_lengths (omega arith)
      (not_put jpeg_offset_tag strip_lengths_tag _ (field_items t.fields) (omega arith)
      (no_field Thumb jpeg_offset_tag t.fields (λ v a. a) f.fields.each))))

  pub at_size : at_tag jpeg_length_tag (thumb_items t) ≡ option_map (λ x. JpegSize (length x)) t.jpeg
  unfolding role
  at_size = at_some_other jpeg_length_tag jpeg_offset_tag _ with_size (omega arith)
      ∙ at_some_same jpeg_length_tag _ with_strips (not_put jpeg_length_tag strip_offsets_tag _ with_lengths (omega arith)
      (not_put jpeg_length_tag strip_lengths_tag _ (field_items t.fields) (omega arith)
      (no_field Thumb jpeg_length_tag t.fields (λ v a. a) f.fields.each)))

  pub at_strips : at_tag strip_offsets_tag (thumb_items t) ≡ option_map (λ s. AtStrips (length s)) t.strips
  unfolding role
  at_strips = at_some_other strip_offsets_tag jpeg_offset_tag _ with_size (omega arith)
      ∙ at_some_other strip_offsets_tag jpeg_length_tag _ with_strips (omega arith)
      ∙ at_some_same strip_offsets_tag _ with_lengths (not_put strip_offsets_tag strip_lengths_tag _ (field_items t.fields) (omega arith)
      (no_field Thumb strip_offsets_tag t.fields (λ v a. a) f.fields.each))

  pub at_lengths : at_tag strip_lengths_tag (thumb_items t) ≡ option_map (λ s. StripSizes (map (λ x. length x) s)) t.strips
  unfolding role
  at_lengths = at_some_other strip_lengths_tag jpeg_offset_tag _ with_size (omega arith)
      ∙ at_some_other strip_lengths_tag jpeg_length_tag _ with_strips (omega arith)
      ∙ at_some_other strip_lengths_tag strip_offsets_tag _ with_lengths (omega arith)
      ∙ at_some_same strip_lengths_tag _ (field_items t.fields) (no_field Thumb strip_lengths_tag t.fields (λ v a. a) f.fields.each)

-- ---- strips

-- the range of a chunk
abbrev pub chunk_range : Plan → Chunk × ℕ → Range
chunk_range plan c = range (place plan c.0) c.1

pub strip_ranges_are : (plan : Plan) (n : ℕ) (s : List (List ℕ))
    → ranges_of (map (λ i. place plan (Strip i)) (range_with_len n (length s))) (map (λ x. length x) s) ≡ map (chunk_range plan)
    (strip_chunks n s)
strip_ranges_are plan n [] = refl
strip_ranges_are plan n (x ∷ s) = ap (λ rs. range (place plan (Strip n)) (length x) ∷ rs) (strip_ranges_are plan (n + 1) s)

pub strip_bytes_are : (plan : Plan) (o : Order) (filler : ℕ) (b : List ℕ) (n : ℕ) (s : List (List ℕ))
    → AllByRecursion (λ c. IsPlaced b (place plan c.0) c.1) (strip_contents n s)
    → map (bytes_of b) (map (chunk_range plan) (strip_chunks n s)) ≡ s
strip_bytes_are plan o filler b n [] h = refl
strip_bytes_are plan o filler b n (x ∷ s) h = ap₂ (λ y ys. y ∷ ys) h.0.is (strip_bytes_are plan o filler b (n + 1) s h.1)

pub strips_inside_are : (plan : Plan) (o : Order) (filler : ℕ) (b : List ℕ) (n : ℕ) (s : List (List ℕ))
    → AllByRecursion (λ c. IsPlaced b (place plan c.0) c.1) (strip_contents n s)
    → AllByRecursion (IsInside b) (map (chunk_range plan) (strip_chunks n s))
strips_inside_are plan o filler b n [] h = tt
strips_inside_are plan o filler b n (x ∷ s) h = (h.0.inside, strips_inside_are plan o filler b (n + 1) s h.1)

pub strips_near : (plan : Plan) (o : Order) (filler : ℕ) (P : Chunk × List ℕ → Type 0)
    → ((c : Chunk × List ℕ) → P c → place plan c.0 < 2 ^ 32) → (n : ℕ) (s : List (List ℕ)) → AllByRecursion P (strip_contents n s)
    → AllByRecursion (λ i. place plan (Strip i) < 2 ^ 32) (range_with_len n (length s))
strips_near plan o filler P q n [] h = tt
strips_near plan o filler P q n (x ∷ s) h = (q (Strip n, x) h.0, strips_near plan o filler P q (n + 1) s h.1)
