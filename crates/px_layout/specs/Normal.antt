-- The normal form of a meaning: most significant byte first, the chunks in one order, each directly after the one before and
-- padded to an even number of bytes, because TIFF 6.0 section 2, "IFD Entry", requires even offsets.
-- Example: the table of 30 bytes is at 8, after the header, and the text at 38, and the form has 48 bytes. With a text of nine bytes
-- it has as many: a zero follows the text.
use Rattle.std.specs.Prelude.{ℕ, ◌+◌, ◌%◌, if◌then◌else◌, Option, Some, None, List, [], ◌∷◌, ◌++◌, length, replicate, flat_map}
use Rattle.px_bytes.specs.declared.Order.TheVariants.{Most}
use Rattle.px_meaning.specs.Tree.{Meaning}
use Rattle.px_layout.specs.declared.chunks.Chunk.{Chunk}
use Rattle.px_layout.specs.Chunks.{same_chunk, chunks}
use Rattle.px_layout.specs.Plans.{Plan}
use Rattle.px_layout.specs.Laid.{header, contents}

-- n, or the next even number
abbrev pub even : ℕ → ℕ
even n = n + n % 2

-- a chunk's offset, if the first of the list is at x
abbrev pub running : ℕ → List (Chunk × ℕ) → Chunk → Option ℕ
running x [] c = None
running x (y ∷ ys) c = if same_chunk y.0 c then Some x else running (x + even y.1) ys c

-- the bytes of the chunks, each padded to an even number
abbrev pub padded_size : List (Chunk × ℕ) → ℕ
padded_size [] = 0
padded_size (c ∷ cs) = even c.1 + padded_size cs

-- the plan of the normal form: the chunks follow the header, which has eight bytes
unfoldable pub normal_plan : Meaning → Plan
normal_plan m = record { length = 8 + padded_size (chunks m); offset = running 8 (chunks m) }

-- bytes, and a zero after an odd number of them
abbrev pub padded : List ℕ → List ℕ
padded x = x ++ replicate (length x % 2) 0

-- the bytes of the normal form: the header, and the chunks, each padded
unfoldable pub normal_exif : Meaning → List ℕ
normal_exif m = header (normal_plan m) Most 0 ++ flat_map (λ c. padded c.1) (contents (normal_plan m) Most 0 m)
