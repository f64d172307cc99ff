-- The meaning of a block. TIFF 6.0 section 2 and section 7, "No Duplicate Pointers"; CIPA DC-008 4.6.3 and 4.5.5. The greatest
-- length of a block, and the record at its tag, are this project's profile.
-- Example: 4D 4D 00 2A 00 00 00 08 00 01 01 12 00 03 00 00 00 01 00 01 00 00 00 00 00 00 means a main directory with Orientation 1. So
-- does 49 49 2A 00 08 00 00 00 01 00 12 01 03 00 01 00 00 00 01 00 00 00 00 00 00 00, least significant byte first.
use Rattle.std.specs.Prelude.{◌≡◌, ℕ, ◌≤◌, Option, option_map, option_and_then, List, length, map, take, IfSome}
use Rattle.std.specs.List.{AllByRecursion}
use Rattle.px_bytes.specs.declared.Order.{Order}
use Rattle.px_bytes.specs.Parts.{limit}
use Rattle.px_bytes.specs.Range.{AllApart}
use Rattle.px_field.specs.Forms.{form_of}
use Rattle.px_meaning.specs.Iim.{Iim}
use Rattle.px_meaning.specs.declared.roles.Dir.TheVariants.{Main, Exif, Interop, Gps, Thumb}
use Rattle.px_meaning.specs.Roles.{record_tag}
use Rattle.px_meaning.specs.Tree.{ExifPart, Thumbnail, Meaning}
use Rattle.px_meaning.specs.Entry.{raw, record_in, IsDirectory, fields}
use Rattle.px_meaning.specs.Directory.{magic, dirs, entries_at, entry_with, main_at, dir_at, fields_at}
use Rattle.px_meaning.specs.Thumbnail.{bytes_of, jpeg_range, strip_ranges, IsThumbnail}
use Rattle.px_meaning.specs.Footprint.{footprint}

-- ---- the meaning

-- the record in the directory at a
unfoldable pub record_at : List ℕ → Order → ℕ → Option Iim
record_at b o a =
    option_and_then (λ e. option_and_then (λ f. record_in f (raw b o e)) (form_of e.code)) (entry_with record_tag (entries_at b o a))

-- the fields of the Exif directory at a, and those of the Interoperability directory, if there is
-- one
unfoldable pub exif_part : List ℕ → Order → ℕ → ExifPart
exif_part b o a = record { fields = fields b o Exif a; interop = fields_at b o Interop }

-- the fields of the thumbnail directory at a, and the bytes of its JPEG and of its strips, if it
-- has them
unfoldable pub thumbnail : List ℕ → Order → ℕ → Thumbnail
thumbnail b o a = record {
  fields = fields b o Thumb a;
  jpeg = option_map (bytes_of b) (jpeg_range o (entries_at b o a));
  strips = option_map (map (bytes_of b)) (strip_ranges b o (entries_at b o a));
}

-- the meaning of a block in a byte order: its directories by what they contain, without any offset
unfoldable pub meaning : List ℕ → Order → Meaning
meaning b o = record {
  main = fields b o Main (main_at b o);
  iptc = record_at b o (main_at b o);
  exif = option_map (exif_part b o) (dir_at b o Exif);
  gps = fields_at b o Gps;
  thumb = option_map (thumbnail b o) (dir_at b o Thumb);
}

-- ---- the meaning of a block

-- a valid block in that byte order: the header, each directory, the thumbnail, and no byte that two owners share
pub record IsExif (b : List ℕ) (o : Order) : Type 0 where
  pub least : 8 ≤ length b
  pub most : length b ≤ limit
  pub begins : take 4 b ≡ magic o
  pub directories : AllByRecursion (λ d. IfSome (dir_at b o d) (IsDirectory b o d)) dirs
  pub thumbnail : IfSome (dir_at b o Thumb) (IsThumbnail b o)
  pub apart : AllApart (footprint b o)

-- b is valid in the byte order of its first bytes, and m is its meaning
pub record SaysExif (b : List ℕ) (m : Meaning) : Type 0 where
  pub order : Order
  pub is_block : IsExif b order
  pub means : m ≡ meaning b order
