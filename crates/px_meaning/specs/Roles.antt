-- The role of a tag in a directory. TIFF 6.0 section 8 ("StripOffsets", "StripByteCounts", "RowsPerStrip", "ImageWidth",
-- "ImageLength"); CIPA DC-008 4.6.3 (the pointers to the Exif, GPS and Interoperability IFDs), 4.5.5 (the thumbnail), and its
-- tags relating to recording offset and to image data structure. Which tags are refused is this project's profile.
-- Example: 0112, Orientation, is plain in each directory. 8769 leads from the main directory to the Exif directory, and is
-- forbidden in the others. 0100, ImageWidth, is widened in the main directory: SHORT 640 and LONG 640 mean the same there.
use Rattle.std.specs.Prelude.{ℕ, ◌==◌, if◌then◌else◌, Option, Some, None, List, [], ◌∷◌}
use Rattle.px_meaning.specs.declared.roles.Dir.{Dir}
use Rattle.px_meaning.specs.declared.roles.Dir.TheVariants.{Main, Exif, Interop, Gps, Thumb}
use Rattle.px_meaning.specs.declared.roles.Role.{Role}
use Rattle.px_meaning.specs.declared.roles.Role.TheVariants.{Plain, Widened, Forbidden, Record, JpegOffset, JpegLength, StripOffsets}
use Rattle.px_meaning.specs.declared.roles.Role.TheVariants.{StripLengths, To}

-- ---- the tags, by name

-- the pointers: Exif IFD, GPS Info IFD, Interoperability IFD
abbrev pub exif_tag : ℕ
exif_tag = 0x8769

-- in the main directory: the offset of the GPS IFD
abbrev pub gps_tag : ℕ
gps_tag = 0x8825

-- in the Exif IFD: the offset of the Interoperability IFD
abbrev pub interop_tag : ℕ
interop_tag = 0xA005

-- IPTC-NAA, a record inside the block
abbrev pub record_tag : ℕ
record_tag = 0x83BB

-- JPEGInterchangeFormat and JPEGInterchangeFormatLength
abbrev pub jpeg_offset_tag : ℕ
jpeg_offset_tag = 0x0201

-- the number of bytes of the JPEG
abbrev pub jpeg_length_tag : ℕ
jpeg_length_tag = 0x0202

-- StripOffsets and StripByteCounts
abbrev pub strip_offsets_tag : ℕ
strip_offsets_tag = 0x0111

-- the number of bytes of each strip
abbrev pub strip_lengths_tag : ℕ
strip_lengths_tag = 0x0117

-- ImageWidth, ImageLength, RowsPerStrip, PixelXDimension, PixelYDimension
abbrev pub width_tag : ℕ
width_tag = 0x0100

-- ImageLength: the number of rows
abbrev pub length_tag : ℕ
length_tag = 0x0101

-- RowsPerStrip
abbrev pub rows_tag : ℕ
rows_tag = 0x0116

-- PixelXDimension: the number of columns
abbrev pub pixel_x_tag : ℕ
pixel_x_tag = 0xA002

-- PixelYDimension: the number of rows
abbrev pub pixel_y_tag : ℕ
pixel_y_tag = 0xA003

-- FreeOffsets, TileOffsets, SubIFDs (of a technical note after TIFF 6.0)
abbrev pub free_offsets_tag : ℕ
free_offsets_tag = 0x0120

-- TileOffsets: where the tiles of an image begin
abbrev pub tile_offsets_tag : ℕ
tile_offsets_tag = 0x0144

-- SubIFDs: where further directories begin
abbrev pub sub_dirs_tag : ℕ
sub_dirs_tag = 0x014A

-- JPEGQTables, JPEGDCTables, JPEGACTables
abbrev pub jpeg_q_tag : ℕ
jpeg_q_tag = 0x0207

-- JPEGDCTables
abbrev pub jpeg_dc_tag : ℕ
jpeg_dc_tag = 0x0208

-- JPEGACTables
abbrev pub jpeg_ac_tag : ℕ
jpeg_ac_tag = 0x0209

-- the index of a directory in the order main, Exif, Interoperability, GPS, thumbnail
abbrev pub dir_number : Dir → ℕ
dir_number Main = 0
dir_number Exif = 1
dir_number Interop = 2
dir_number Gps = 3
dir_number Thumb = 4

-- ---- the table

-- the value at a tag in a list of pairs
abbrev pub at_tag : {X : Type 0} → ℕ → List (ℕ × X) → Option X
at_tag t [] = None
at_tag t (x ∷ xs) = if x.0 == t then Some x.1 else at_tag t xs

-- the tags with a special use in a directory: its pointers, its parts, and those for which SHORT and LONG mean the same
abbrev pub special : Dir → List (ℕ × Role)
special Main =
    (exif_tag, To Exif) ∷ (gps_tag, To Gps) ∷ (record_tag, Record) ∷ (width_tag, Widened) ∷ (length_tag, Widened) ∷ (rows_tag, Widened) ∷ []
special Exif = (interop_tag, To Interop) ∷ (pixel_x_tag, Widened) ∷ (pixel_y_tag, Widened) ∷ []
special Interop = []
special Gps = []
special Thumb =
    (jpeg_offset_tag, JpegOffset) ∷ (jpeg_length_tag, JpegLength) ∷ (strip_offsets_tag, StripOffsets) ∷ (strip_lengths_tag, StripLengths)
    ∷ (width_tag, Widened) ∷ (length_tag, Widened) ∷ (rows_tag, Widened) ∷ []

-- the tags of offsets, and two of lengths: each is refused in a directory without a special use for it
abbrev pub offset_tags : List (ℕ × Role)
offset_tags =
    (strip_offsets_tag, Forbidden) ∷ (strip_lengths_tag, Forbidden) ∷ (free_offsets_tag, Forbidden) ∷ (tile_offsets_tag, Forbidden)
    ∷ (sub_dirs_tag, Forbidden) ∷ (jpeg_offset_tag, Forbidden) ∷ (jpeg_length_tag, Forbidden) ∷ (jpeg_q_tag, Forbidden)
    ∷ (jpeg_dc_tag, Forbidden) ∷ (jpeg_ac_tag, Forbidden) ∷ (exif_tag, Forbidden) ∷ (gps_tag, Forbidden) ∷ (interop_tag, Forbidden) ∷ []

-- the role that a table has, or r if the tag is not in it
abbrev pub role_or : Option Role → Role → Role
role_or None r = r
role_or (Some r) _ = r

-- the role of a tag in a directory: a tag in neither table is plain
unfoldable pub role : Dir → ℕ → Role
role d t = role_or (at_tag t (special d)) (role_or (at_tag t offset_tags) Plain)
