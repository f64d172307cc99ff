-- A block that is laid out is made of bytes.
use Rattle.std.proofs.Common.{◌<◌, ◌≤◌, ◌+◌, ◌-◌, ◌&&◌, ℕ, zero, suc, nat_lt, nat_le, Option, Some, None, List, [], ◌∷◌, ◌++◌, map}
use Rattle.std.proofs.Common.{filter_map, flat_map, length, slice_index, replicate, arith}
use Rattle.std.specs.Prelude.{IfSome}
use Rattle.std.specs.Int.{w16, w32, cast_unsigned}
use Rattle.std.specs.List.{AllByRecursion, cons_option, range_with_len}
use Rattle.std.proofs.lemmas.Bool.{cond_both}
use Rattle.px_bytes.specs.declared.Order.{Order}
use Rattle.px_bytes.specs.declared.Order.TheVariants.{Least, Most}
use Rattle.px_bytes.specs.Numbers.{AreBytes, spelling}
use Rattle.px_bytes.specs.Parts.{limit}
use Rattle.px_bytes.specs.lemmas.EachLaws.{each_map, each_all, each_append, each_of_map}
use Rattle.px_bytes.specs.lemmas.ByteLaws.{bytes_none, bytes_cons, bytes_append, bytes_spelling}
use Rattle.px_field.specs.declared.Form.{Form}
use Rattle.px_field.specs.declared.Form.TheVariants as form
use Rattle.px_field.specs.declared.Element.{Element}
use Rattle.px_field.specs.declared.Element.TheVariants as element
use Rattle.px_field.specs.Forms.{code}
use Rattle.px_field.specs.Values.{encode, IsOf, Value, IsValue, form_in, encoded}
use Rattle.px_iim.specs.lemmas.NormalLaws.{form_has_meaning}
use Rattle.px_meaning.specs.declared.Dir.{Dir}
use Rattle.px_meaning.specs.declared.Dir.TheVariants.{Main, Thumb}
use Rattle.px_meaning.specs.declared.Role.{Role}
use Rattle.px_meaning.specs.declared.Role.TheVariants.{Plain, Widened, Record, JpegOffset, JpegLength, StripOffsets, StripLengths, To}
use Rattle.px_meaning.specs.Roles.{role}
use Rattle.px_meaning.specs.Tree.{Meaning, Thumbnail}
use Rattle.px_meaning.specs.Directory.{magic, dirs}
use Rattle.px_meaning.specs.Writable.{Item, Field, Iptc, Link, AtJpeg, JpegSize, AtStrips, StripSizes, item_form, item_count, item_size}
use Rattle.px_meaning.specs.Writable.{items, IsBytes, IsWritableThumb, IsWritable}
use Rattle.px_layout.specs.declared.chunks.Chunk.{Chunk}
use Rattle.px_layout.specs.declared.chunks.Chunk.TheVariants.{Table, Placed, Jpeg, Strip}
use Rattle.px_layout.specs.Plans.{Plan, place}
use Rattle.px_layout.specs.Laid.{long_bytes, jpeg_contents, strip_contents, all_strip_contents, thumb_contents, item_bytes, last_bytes}
use Rattle.px_layout.specs.Laid.{entry_bytes, next_bytes, table_bytes, placed_content, contents_of_dir, contents, header, laid_pieces}
use Rattle.px_layout.specs.Laid.{byte_at, laid}
use Rattle.px_layout.specs.Laws.{LaidIsBytes}
use Rattle.px_layout.specs.lemmas.ItemLaws.{Suits}
use Rattle.px_layout.specs.lemmas.EntryLaws.{Good, good_items}

-- ---- lists

bytes_flat : {X : Type 0} (f : X → List ℕ) (xs : List X) → AllByRecursion (λ x. AreBytes (f x)) xs → AreBytes (flat_map f xs)
bytes_flat f [] h = bytes_none
bytes_flat f (x ∷ xs) h = bytes_append (f x) (flat_map f xs) h.0 (bytes_flat f xs h.1)

bytes_same : (n filler : ℕ) → filler < 256 → AreBytes (replicate n filler)
bytes_same zero filler h = bytes_none
bytes_same (suc n) filler h = bytes_cons filler (replicate n filler) h (bytes_same n filler h)

bytes_map : (g : ℕ → ℕ) → ((p : ℕ) → g p < 256) → (ps : List ℕ) → AreBytes (map g ps)
bytes_map g h [] = bytes_none
bytes_map g h (p ∷ ps) = bytes_cons (g p) (map g ps) (h p) (bytes_map g h ps)

-- ---- values

bytes_encode : (o : Order) (f : Form) (e : Element) → IsOf f e → AreBytes (encode o e)
bytes_encode o form.Short (element.Short n) h = bytes_spelling o 2 n
bytes_encode o form.Long (element.Long n) h = bytes_spelling o 4 n
bytes_encode o form.Rational (element.Rational n d) h =
    bytes_append (spelling o 4 n) (spelling o 4 d) (bytes_spelling o 4 n) (bytes_spelling o 4 d)
bytes_encode o form.SShort (element.SShort z) h = bytes_spelling o 2 (cast_unsigned w16 z)
bytes_encode o form.SLong (element.SLong z) h = bytes_spelling o 4 (cast_unsigned w32 z)
bytes_encode o form.SRational (element.SRational y z) h =
    bytes_append (spelling o 4 (cast_unsigned w32 y)) (spelling o 4 (cast_unsigned w32 z)) (bytes_spelling o 4 (cast_unsigned w32 y))
    (bytes_spelling o 4 (cast_unsigned w32 z))
bytes_encode o form.Float (element.Float n) h = bytes_spelling o 4 n
bytes_encode o form.Double (element.Double n) h = bytes_spelling o 8 n
bytes_encode o form.Byte (element.Byte n) h = bytes_cons n [] h bytes_none
bytes_encode o form.Ascii (element.Byte n) h = bytes_cons n [] h bytes_none
bytes_encode o form.SByte (element.Byte n) h = bytes_cons n [] h bytes_none
bytes_encode o form.Undefined (element.Byte n) h = bytes_cons n [] h bytes_none
bytes_encode o form.Utf8 (element.Byte n) h = bytes_cons n [] h bytes_none
bytes_encode o _ _ h = absurd h

-- a value's encoding is made of bytes
pub bytes_encoded : (o : Order) (v : Value) → IsValue v → AreBytes (encoded o v)
unfolding encoded
bytes_encoded o v h =
    bytes_flat (encode o) v.elements (each_map (IsOf (form_in v.kind)) (λ e. AreBytes (encode o e)) (bytes_encode o (form_in v.kind))
    v.elements h)

-- ---- the pieces of a block

-- a chunk of bytes
abbrev OfBytes : Chunk × List ℕ → Type 0
OfBytes c = AreBytes c.1

module _ (plan : Plan) (o : Order) (filler : ℕ) (fill : filler < 256) where
  item_is : (r : Role) (i : Item) → Suits r i → AreBytes (item_bytes plan o filler i)
  unfolding item_bytes
  item_is Plain (Field v) h = bytes_encoded o v h.0
  item_is Widened (Field v) h = bytes_encoded o v h.0
  item_is Record (Field v) h = bytes_encoded o v h.0
  item_is Record (Iptc i) h = (form_has_meaning i h).0
  item_is (To d) (Link e) h = bytes_spelling o 4 (place plan (Table e))
  item_is JpegOffset AtJpeg h = bytes_spelling o 4 (place plan Jpeg)
  item_is JpegLength (JpegSize n) h = bytes_spelling o 4 n
  item_is StripOffsets (AtStrips n) h =
      bytes_flat (λ i. long_bytes o (place plan (Strip i))) (range_with_len 0 n)
      (each_all (λ i. AreBytes (long_bytes o (place plan (Strip i)))) (λ i. bytes_spelling o 4 (place plan (Strip i))) (range_with_len 0 n))
  item_is StripLengths (StripSizes ns) h =
      bytes_flat (long_bytes o) ns (each_all (λ n. AreBytes (long_bytes o n)) (λ n. bytes_spelling o 4 n) ns)
  item_is _ _ h = absurd h

  module _ (d : Dir) where
    abbrev Suited : ℕ × Item → Type 0
    Suited i = Suits (role d i.0) i.1

    last_is : (i : ℕ × Item) → Suited i → AreBytes (last_bytes plan o filler d i)
    unfolding last_bytes
    last_is i h =
        cond_both (nat_lt 4 (item_size i.1)) (long_bytes o (place plan (Placed d i.0))) (item_bytes plan o filler i.1
        ++ replicate (4 - item_size i.1) filler) AreBytes
        (λ _. bytes_spelling o 4 (place plan (Placed d i.0)))
        (λ _. bytes_append (item_bytes plan o filler i.1) (replicate (4 - item_size i.1) filler) (item_is (role d i.0) i.1 h)
        (bytes_same (4 - item_size i.1) filler fill))

    entry_is : (i : ℕ × Item) → Suited i → AreBytes (entry_bytes plan o filler d i)
    unfolding entry_bytes
    entry_is i h =
        let code_is = spelling o 2 (code (item_form i.1)) in
        let count_is = long_bytes o (item_count i.1) in
        bytes_append (spelling o 2 i.0) (code_is ++ (count_is ++ last_bytes plan o filler d i)) (bytes_spelling o 2 i.0)
        (bytes_append code_is (count_is ++ last_bytes plan o filler d i) (bytes_spelling o 2 (code (item_form i.1)))
        (bytes_append count_is (last_bytes plan o filler d i) (bytes_spelling o 4 (item_count i.1)) (last_is i h)))

    placed_is : (xs : List (ℕ × Item)) → AllByRecursion Suited xs → AllByRecursion OfBytes (filter_map (placed_content plan o filler d) xs)
    unfolding placed_content
    placed_is [] h = tt
    placed_is (i ∷ xs) h = cond_both (nat_lt 4 (item_size i.1)) (Some (Placed d i.0, item_bytes plan o filler i.1)) None
        (λ c. AllByRecursion OfBytes (cons_option c (filter_map (placed_content plan o filler d) xs)))
        (λ _. (item_is (role d i.0) i.1 h.0, placed_is xs h.1)) (λ _. placed_is xs h.1)

  next_is : (m : Meaning) (d : Dir) → AreBytes (next_bytes plan o filler m d)
  next_is m Main = main_next m.thumb
    where
      main_next : (t : Option Thumbnail) → AreBytes
          (elim t as (λ _. List ℕ) [ Some t ↦ long_bytes o (place plan (Table Thumb)) | None ↦ long_bytes o 0 ])
      main_next (Some t) = bytes_spelling o 4 (place plan (Table Thumb))
      main_next None = bytes_spelling o 4 0
  next_is m Thumb = bytes_spelling o 4 0
  next_is m _ = bytes_same 4 filler fill

  table_is : (m : Meaning) (d : Dir) (xs : List (ℕ × Item)) → AllByRecursion (Suited d) xs → AreBytes (table_bytes plan o filler m d xs)
  unfolding table_bytes
  table_is m d xs h =
      bytes_append (spelling o 2 (length xs)) (flat_map (entry_bytes plan o filler d) xs
      ++ next_bytes plan o filler m d) (bytes_spelling o 2 (length xs))
      (bytes_append (flat_map (entry_bytes plan o filler d) xs) (next_bytes plan o filler m d)
      (bytes_flat (entry_bytes plan o filler d) xs (each_map (Suited d) (λ i. AreBytes (entry_bytes plan o filler d i)) (entry_is d) xs h))
      (next_is m d))

  dir_is : (m : Meaning) (d : Dir) (x : Option (List (ℕ × Item))) → IfSome x (Good d)
      → AllByRecursion OfBytes (contents_of_dir plan o filler m d x)
  dir_is m d None g = tt
  dir_is m d (Some xs) g = (table_is m d xs g.suit, placed_is d xs g.suit)

  strips_are : (n : ℕ) (xs : List (List ℕ)) → AllByRecursion IsBytes xs → AllByRecursion OfBytes (strip_contents n xs)
  strips_are n [] h = tt
  strips_are n (x ∷ xs) h = (h.0.each, strips_are (n + 1) xs h.1)

  thumb_is : (t : Option Thumbnail) → IfSome t IsWritableThumb → AllByRecursion OfBytes (thumb_contents t)
  unfolding thumb_contents
  thumb_is None f = tt
  thumb_is (Some t) f =
      each_append OfBytes (jpeg_contents t.jpeg) (all_strip_contents t.strips) (jpeg t.jpeg f.jpeg) (strips t.strips f.strips)
    where
      jpeg : (j : Option (List ℕ)) → IfSome j IsBytes → AllByRecursion OfBytes (jpeg_contents j)
      jpeg None h = tt
      jpeg (Some x) h = (h.each, tt)

      strips : (s : Option (List (List ℕ))) → IfSome s (λ s. (length s ≤ limit) × AllByRecursion IsBytes s)
          → AllByRecursion OfBytes (all_strip_contents s)
      strips None h = tt
      strips (Some s) h = strips_are 0 s h.1

  -- each chunk is made of bytes
  pub contents_are : (m : Meaning) → IsWritable m → AllByRecursion OfBytes (contents plan o filler m)
  unfolding contents
  contents_are m f =
      each_append OfBytes (flat_map (λ d. contents_of_dir plan o filler m d (items m d)) dirs) (thumb_contents m.thumb) (each_dir dirs)
      (thumb_is m.thumb f.thumb)
    where
      each_dir : (ds : List Dir) → AllByRecursion OfBytes (flat_map (λ d. contents_of_dir plan o filler m d (items m d)) ds)
      each_dir [] = tt
      each_dir (d ∷ ds) =
          each_append OfBytes (contents_of_dir plan o filler m d (items m d))
          (flat_map (λ d. contents_of_dir plan o filler m d (items m d)) ds) (dir_is m d (items m d) (good_items m f d)) (each_dir ds)

  magic_is : (p : Order) → AreBytes (magic p)
  magic_is Least =
      bytes_cons 0x49 (0x49 ∷ 0x2A ∷ 0 ∷ []) (omega arith) (bytes_cons 0x49 (0x2A ∷ 0 ∷ []) (omega arith)
      (bytes_cons 0x2A (0 ∷ []) (omega arith) (bytes_cons 0 [] (omega arith) bytes_none)))
  magic_is Most =
      bytes_cons 0x4D (0x4D ∷ 0 ∷ 0x2A ∷ []) (omega arith) (bytes_cons 0x4D (0 ∷ 0x2A ∷ []) (omega arith)
      (bytes_cons 0 (0x2A ∷ []) (omega arith) (bytes_cons 0x2A [] (omega arith) bytes_none)))

  pub header_is : AreBytes (header plan o filler)
  unfolding header
  header_is = bytes_append (magic o) (long_bytes o (place plan (Table Main))) (magic_is o) (bytes_spelling o 4 (place plan (Table Main)))

  pieces_are : (m : Meaning) → IsWritable m → AllByRecursion (λ y. AreBytes y.1) (laid_pieces plan o filler m)
  unfolding laid_pieces
  pieces_are m f = (header_is, each_of_map (λ y. AreBytes y.1) (λ c. (place plan c.0, c.1)) (contents plan o filler m) (contents_are m f))

  byte_is : (ys : List (ℕ × List ℕ)) (p : ℕ) → AllByRecursion (λ y. AreBytes y.1) ys → byte_at filler ys p < 256
  byte_is [] p h = fill
  byte_is (y ∷ ys) p h =
      cond_both (nat_le y.0 p && nat_lt p (y.0 + length y.1)) (slice_index y.1 (p - y.0)) (byte_at filler ys p) (λ n. n < 256)
      (λ _. h.0 (p - y.0)) (λ _. byte_is ys p h.1)

-- A block that is laid out is made of bytes.
pub laid_is_bytes : LaidIsBytes
unfolding laid
laid_is_bytes m plan o filler fill f =
    bytes_map (byte_at filler (laid_pieces plan o filler m)) (λ p. byte_is plan o filler fill (laid_pieces plan o filler m) p
    (pieces_are plan o filler fill m f)) (range_with_len 0 plan.length)
