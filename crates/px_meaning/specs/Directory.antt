-- The header, and the offsets of the directories. TIFF 6.0 section 2, "Image File Header" and "Image File Directory"; CIPA DC-008
-- 4.6.3 (the pointers to the Exif, GPS and Interoperability IFDs), 4.5.5 (the thumbnail IFD).
-- Example: 4D 4D 00 2A 00 00 00 08 is a header, most significant byte first, whose main directory is at offset 8. An entry
-- 87 69 00 04 00 00 00 01 00 00 00 1A of it is the pointer to the Exif directory, at offset 26.
use Rattle.std.specs.Prelude.{ℕ, ◌==◌, if◌then◌else◌, ◌&&◌, Bool, Option, Some, None, option_map, option_and_then, List, [], ◌∷◌, find}
use Rattle.px_bytes.specs.declared.Order.{Order}
use Rattle.px_bytes.specs.declared.Order.TheVariants.{Least, Most}
use Rattle.px_bytes.specs.Parts.{part}
use Rattle.px_meaning.specs.declared.roles.Dir.{Dir}
use Rattle.px_meaning.specs.declared.roles.Dir.TheVariants.{Main, Exif, Interop, Gps, Thumb}
use Rattle.px_meaning.specs.Roles.{exif_tag, gps_tag, interop_tag}
use Rattle.px_meaning.specs.Tree.{Fields}
use Rattle.px_meaning.specs.Entry.{Entry, long, table, entries, next, offset, is_one_long, fields}

-- "II" or "MM", and 42 in that order
abbrev pub magic : Order → List ℕ
magic Least = 0x49 ∷ 0x49 ∷ 0x2A ∷ 0 ∷ []
magic Most = 0x4D ∷ 0x4D ∷ 0 ∷ 0x2A ∷ []

-- the directories in the order in which they are read
abbrev pub dirs : List Dir
dirs = Main ∷ Exif ∷ Interop ∷ Gps ∷ Thumb ∷ []

-- the entries of the directory at a, none if there is no table
abbrev pub entries_at : List ℕ → Order → ℕ → List Entry
entries_at b o a = entries o (table b o a)

-- the first entry of a tag
abbrev pub entry_with : ℕ → List Entry → Option Entry
entry_with t es = find (λ e. e.tag == t) es

-- a pointer: LONG of count 1
abbrev pub is_pointer : ℕ → Entry → Bool
is_pointer t e = (e.tag == t) && is_one_long e

-- the offset in the pointer with that tag
unfoldable pub pointer : Order → ℕ → List Entry → Option ℕ
pointer o t es = option_map (offset o) (find (is_pointer t) es)

-- an offset, or None for 0
abbrev pub unless_zero : ℕ → Option ℕ
unless_zero n = if n == 0 then None else Some n

-- the main directory's offset, in the header
abbrev pub main_at : List ℕ → Order → ℕ
main_at b o = long o (part b 4 4)

-- the Exif directory's offset, if the main directory has a pointer to it
abbrev pub exif_at : List ℕ → Order → Option ℕ
exif_at b o = pointer o exif_tag (entries_at b o (main_at b o))

-- the offset of each directory that a pointer of the block leads to
unfoldable pub dir_at : List ℕ → Order → Dir → Option ℕ
dir_at b o Main = Some (main_at b o)
dir_at b o Exif = exif_at b o
dir_at b o Interop = option_and_then (λ a. pointer o interop_tag (entries_at b o a)) (exif_at b o)
dir_at b o Gps = pointer o gps_tag (entries_at b o (main_at b o))
dir_at b o Thumb = unless_zero (next o (table b o (main_at b o)))

-- the fields of a directory, if the block has it
abbrev pub fields_at : List ℕ → Order → Dir → Option Fields
fields_at b o d = option_map (fields b o d) (dir_at b o d)
