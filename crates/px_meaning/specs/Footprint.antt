-- The footprint: the bytes that the block's structure covers, one range for each owner. TIFF 6.0 section 7, "No Duplicate
-- Pointers": no data is referenced from more than one place.
-- Example: a block with one directory at offset 8, whose only entry has its value in it, has two ranges: the header, 0 to 7, and the
-- table, 8 to 25.
use Rattle.std.specs.Prelude.{ℕ, if◌then◌else◌, Option, Some, None, option_map, option_to_list, List, [], ◌∷◌, ◌++◌, filter_map, flat_map}
use Rattle.px_bytes.specs.declared.Order.{Order}
use Rattle.px_bytes.specs.Parts.{part}
use Rattle.px_bytes.specs.Range.{Range, range}
use Rattle.px_meaning.specs.declared.roles.Dir.{Dir}
use Rattle.px_meaning.specs.declared.roles.Dir.TheVariants.{Thumb}
use Rattle.px_meaning.specs.Entry.{Entry, short, table_size, raw_size, is_placed, offset}
use Rattle.px_meaning.specs.Directory.{dirs, entries_at, dir_at}
use Rattle.px_meaning.specs.Thumbnail.{jpeg_range, strip_ranges}

-- a list that may be missing: none is the empty list
abbrev pub listed : {X : Type 0} → Option (List X) → List X
listed None = []
listed (Some xs) = xs

-- a value at an offset of its own
unfoldable pub placed_range : Order → Entry → Option Range
placed_range o e = if is_placed e then Some (range (offset o e) (raw_size e)) else None

-- the table of the directory at a
abbrev pub table_range : List ℕ → Order → ℕ → Range
table_range b o a = range a (table_size (short o (part b a 2)))

-- a directory's table, and its values that have an offset
unfoldable pub dir_ranges : List ℕ → Order → ℕ → List Range
dir_ranges b o a = table_range b o a ∷ filter_map (placed_range o) (entries_at b o a)

-- the ranges of a directory, or none if the block lacks it
abbrev pub ranges_at : List ℕ → Order → Dir → List Range
ranges_at b o d = listed (option_map (dir_ranges b o) (dir_at b o d))

-- the JPEG, and the strips
unfoldable pub thumb_ranges : List ℕ → Order → ℕ → List Range
thumb_ranges b o a = option_to_list (jpeg_range o (entries_at b o a)) ++ listed (strip_ranges b o (entries_at b o a))

-- the header, each directory's table and values, the JPEG and the strips
unfoldable pub footprint : List ℕ → Order → List Range
footprint b o = range 0 8 ∷ flat_map (ranges_at b o) dirs ++ listed (option_map (thumb_ranges b o) (dir_at b o Thumb))
