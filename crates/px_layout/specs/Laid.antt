-- The block that a plan lays out. TIFF 6.0 section 2, "Image File Header", "Image File Directory", "IFD Entry" and
-- "Value/Offset".
-- Example: by that legal plan, most significant byte first, the entry of the text ends with its offset, 00 00 00 26, and that of
-- Orientation with 00 01 and two bytes of filler.
use Rattle.std.specs.Prelude.{ℕ, ◌+◌, ◌-◌, nat_lt, nat_le, ◌&&◌, if◌then◌else◌, Option, Some, None, List, [], ◌∷◌, ◌++◌, length, map}
use Rattle.std.specs.Prelude.{replicate, filter_map, flat_map, slice_index}
use Rattle.std.specs.List.{range_with_len}
use Rattle.px_bytes.specs.declared.Order.{Order}
use Rattle.px_bytes.specs.Numbers.{spelling}
use Rattle.px_field.specs.Forms.{code}
use Rattle.px_field.specs.Values.{encoded}
use Rattle.px_meaning.specs.Iim.{normal_iim}
use Rattle.px_meaning.specs.declared.Dir.{Dir}
use Rattle.px_meaning.specs.declared.Dir.TheVariants.{Main, Thumb}
use Rattle.px_meaning.specs.Tree.{Meaning, Thumbnail}
use Rattle.px_meaning.specs.Directory.{magic, dirs}
use Rattle.px_meaning.specs.Writable.{Item, Field, Iptc, Link, AtJpeg, JpegSize, AtStrips, StripSizes, item_form, item_count, item_size}
use Rattle.px_meaning.specs.Writable.{items}
use Rattle.px_layout.specs.declared.chunks.Chunk.{Chunk}
use Rattle.px_layout.specs.declared.chunks.Chunk.TheVariants.{Table, Placed, Jpeg, Strip}
use Rattle.px_layout.specs.Plans.{Plan, place}

-- a number in four bytes: a LONG of TIFF
abbrev pub long_bytes : Order → ℕ → List ℕ
long_bytes o n = spelling o 4 n

-- ---- the bytes of each chunk

-- the JPEG with its bytes, if the thumbnail has one
abbrev pub jpeg_contents : Option (List ℕ) → List (Chunk × List ℕ)
jpeg_contents None = []
jpeg_contents (Some x) = (Jpeg, x) ∷ []

-- the strips, numbered from n on
abbrev pub strip_contents : ℕ → List (List ℕ) → List (Chunk × List ℕ)
strip_contents n [] = []
strip_contents n (x ∷ xs) = (Strip n, x) ∷ strip_contents (n + 1) xs

-- all strips with their bytes, if the thumbnail has any
abbrev pub all_strip_contents : Option (List (List ℕ)) → List (Chunk × List ℕ)
all_strip_contents None = []
all_strip_contents (Some xs) = strip_contents 0 xs

-- the thumbnail's chunks with their bytes
unfoldable pub thumb_contents : Option Thumbnail → List (Chunk × List ℕ)
thumb_contents None = []
thumb_contents (Some t) = jpeg_contents t.jpeg ++ all_strip_contents t.strips

module _ (plan : Plan) (o : Order) (filler : ℕ) where
  -- the value of an entry
  unfoldable pub item_bytes : Item → List ℕ
  item_bytes (Field v) = encoded o v
  item_bytes (Iptc i) = normal_iim i
  item_bytes (Link d) = long_bytes o (place plan (Table d))
  item_bytes AtJpeg = long_bytes o (place plan Jpeg)
  item_bytes (JpegSize n) = long_bytes o n
  item_bytes (AtStrips n) = flat_map (λ i. long_bytes o (place plan (Strip i))) (range_with_len 0 n)
  item_bytes (StripSizes ns) = flat_map (long_bytes o) ns

  -- the last four bytes of an entry: the value and filler after it, or the offset of its chunk
  unfoldable pub last_bytes : Dir → ℕ × Item → List ℕ
  last_bytes d i =
      if nat_lt 4 (item_size i.1) then long_bytes o (place plan (Placed d i.0)) else item_bytes i.1 ++ replicate (4 - item_size i.1) filler

  -- tag, type, count, last field
  unfoldable pub entry_bytes : Dir → ℕ × Item → List ℕ
  entry_bytes d i = spelling o 2 i.0 ++ (spelling o 2 (code (item_form i.1)) ++ (long_bytes o (item_count i.1) ++ last_bytes d i))

  -- the next directory: after the main one the thumbnail directory, after that none, and otherwise not read
  abbrev pub next_bytes : Meaning → Dir → List ℕ
  next_bytes m Main = elim m.thumb [ Some t ↦ long_bytes o (place plan (Table Thumb)) | None ↦ long_bytes o 0 ]
  next_bytes m Thumb = long_bytes o 0
  next_bytes m _ = replicate 4 filler

  -- the table of a directory: the number of entries, the entries, the offset of the next directory
  unfoldable pub table_bytes : Meaning → Dir → List (ℕ × Item) → List ℕ
  table_bytes m d xs = spelling o 2 (length xs) ++ (flat_map (entry_bytes d) xs ++ next_bytes m d)

  -- the chunks again, each with its bytes
  unfoldable pub placed_content : Dir → ℕ × Item → Option (Chunk × List ℕ)
  placed_content d i = if nat_lt 4 (item_size i.1) then Some (Placed d i.0, item_bytes i.1) else None

  -- the table of a directory and its values that have an offset; none if the meaning lacks it
  abbrev pub contents_of_dir : Meaning → Dir → Option (List (ℕ × Item)) → List (Chunk × List ℕ)
  contents_of_dir m d None = []
  contents_of_dir m d (Some xs) = (Table d, table_bytes m d xs) ∷ filter_map (placed_content d) xs

  -- all chunks of the meaning, each with its bytes, in the order of the normal form
  unfoldable pub contents : Meaning → List (Chunk × List ℕ)
  contents m = flat_map (λ d. contents_of_dir m d (items m d)) dirs ++ thumb_contents m.thumb

  -- the first eight bytes: the byte order, the number 42, and the offset of the main directory
  unfoldable pub header : List ℕ
  header = magic o ++ long_bytes o (place plan (Table Main))

  -- ---- the block, byte by byte

  -- the header at 0, and each chunk at its offset
  unfoldable pub laid_pieces : Meaning → List (ℕ × List ℕ)
  laid_pieces m = (0, header) ∷ map (λ c. (place plan c.0, c.1)) (contents m)

-- the byte at an offset: that of the first piece that has it, or else the filler
abbrev pub byte_at : ℕ → List (ℕ × List ℕ) → ℕ → ℕ
byte_at filler [] p = filler
byte_at filler (x ∷ xs) p = if nat_le x.0 p && nat_lt p (x.0 + length x.1) then slice_index x.1 (p - x.0) else byte_at filler xs p

-- the block: each byte from 0 up to the plan's length
unfoldable pub laid : Meaning → Plan → Order → ℕ → List ℕ
laid m plan o filler = map (byte_at filler (laid_pieces plan o filler m)) (range_with_len 0 plan.length)
