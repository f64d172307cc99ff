-- The meaning of a block: a tree of directories. CIPA DC-008 4.6.3 (the Exif, GPS and Interoperability IFDs), 4.5.5 (the
-- thumbnail IFD).
-- Example: the meaning of a block that has only Orientation 1 is the main directory with one pair, 0112 and SHORT 1, and
-- nothing else.
use Rattle.std.specs.Prelude.{ℕ, Option, List}
use Rattle.px_field.specs.Values.{Value}
use Rattle.px_meaning.specs.Iim.{Iim}

-- a map from tags to values: its pairs, by ascending tag
abbrev pub Fields : Type 0
Fields = List (ℕ × Value)

-- the Exif directory, with its Interoperability directory
pub record ExifPart : Type 0 where
  pub fields : Fields
  pub interop : Option Fields

-- the thumbnail directory, with the thumbnail's bytes
pub record Thumbnail : Type 0 where
  pub fields : Fields
  pub jpeg : Option (List ℕ)
  pub strips : Option (List (List ℕ))

-- the main directory, its record, and the other directories
pub record Meaning : Type 0 where
  pub main : Fields
  pub iptc : Option Iim
  pub exif : Option ExifPart
  pub gps : Option Fields
  pub thumb : Option Thumbnail
