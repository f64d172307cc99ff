-- The chunks of a meaning: the parts that have an offset, each with its size in bytes. TIFF 6.0 section 2, "Image File Directory"
-- and "Value/Offset"; section 8, "StripOffsets"; CIPA DC-008 4.5.5 (the thumbnail).
-- Example: a main directory with ImageDescription of ten bytes and Orientation has two chunks: its table, of 30 bytes, and the text,
-- of 10. Orientation is in its entry, and so no chunk.
use Rattle.std.specs.Prelude.{ℕ, ◌+◌, ◌==◌, ◌&&◌, Bool, true, false, nat_lt, if◌then◌else◌, Option, Some, None, List, [], ◌∷◌, ◌++◌, length}
use Rattle.std.specs.Prelude.{filter_map, flat_map}
use Rattle.px_meaning.specs.declared.Dir.{Dir}
use Rattle.px_meaning.specs.Tree.{Thumbnail, Meaning}
use Rattle.px_meaning.specs.Entry.{table_size}
use Rattle.px_meaning.specs.Directory.{dirs}
use Rattle.px_meaning.specs.Roles.{dir_number}
use Rattle.px_meaning.specs.Writable.{Item, item_size, items}
use Rattle.px_layout.specs.declared.chunks.Chunk.{Chunk}
use Rattle.px_layout.specs.declared.chunks.Chunk.TheVariants.{Table, Placed, Jpeg, Strip}

-- whether two chunks are the same: the table of a directory, the value of a tag in a directory, the
-- JPEG, or a strip by its index
abbrev pub same_chunk : Chunk → Chunk → Bool
same_chunk (Table d) (Table e) = dir_number d == dir_number e
same_chunk (Placed d t) (Placed e u) = (dir_number d == dir_number e) && (t == u)
same_chunk Jpeg Jpeg = true
same_chunk (Strip i) (Strip j) = i == j
same_chunk _ _ = false

-- a value of more than four bytes has an offset
unfoldable pub placed_chunk : Dir → ℕ × Item → Option (Chunk × ℕ)
placed_chunk d i = if nat_lt 4 (item_size i.1) then Some (Placed d i.0, item_size i.1) else None

-- a directory's table, and its values that have an offset, by ascending tag
abbrev pub dir_chunks : Dir → List (ℕ × Item) → List (Chunk × ℕ)
dir_chunks d xs = (Table d, table_size (length xs)) ∷ filter_map (placed_chunk d) xs

-- the chunks of a directory; none if the meaning lacks it
abbrev pub chunks_of_dir : Dir → Option (List (ℕ × Item)) → List (Chunk × ℕ)
chunks_of_dir d None = []
chunks_of_dir d (Some xs) = dir_chunks d xs

-- the JPEG, if the thumbnail has one
abbrev pub jpeg_chunks : Option (List ℕ) → List (Chunk × ℕ)
jpeg_chunks None = []
jpeg_chunks (Some x) = (Jpeg, length x) ∷ []

-- the strips, numbered from n on
abbrev pub strip_chunks : ℕ → List (List ℕ) → List (Chunk × ℕ)
strip_chunks n [] = []
strip_chunks n (x ∷ xs) = (Strip n, length x) ∷ strip_chunks (n + 1) xs

-- all strips, if the thumbnail has any
abbrev pub all_strip_chunks : Option (List (List ℕ)) → List (Chunk × ℕ)
all_strip_chunks None = []
all_strip_chunks (Some xs) = strip_chunks 0 xs

-- the thumbnail's bytes: the JPEG, then the strips
unfoldable pub thumb_chunks : Option Thumbnail → List (Chunk × ℕ)
thumb_chunks None = []
thumb_chunks (Some t) = jpeg_chunks t.jpeg ++ all_strip_chunks t.strips

-- the chunks in the order of the normal form
unfoldable pub chunks : Meaning → List (Chunk × ℕ)
chunks m = flat_map (λ d. chunks_of_dir d (items m d)) dirs ++ thumb_chunks m.thumb
