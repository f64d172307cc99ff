-- Worked examples, computed: normal forms, and blocks that other plans lay out.
use Rattle.std.proofs.Common.{◌≡◌, ℕ, Option, Some, None, List, [], ◌∷◌, ◌++◌, refl}
use Rattle.px_bytes.specs.declared.Order.TheVariants.{Least, Most}
use Rattle.px_field.specs.declared.Form.TheVariants.{Short}
use Rattle.px_field.specs.declared.Kind.TheVariants.{Of}
use Rattle.px_field.specs.declared.Element.TheVariants as element
use Rattle.px_meaning.specs.declared.Dir.TheVariants.{Main, Exif, Interop, Gps}
use Rattle.px_meaning.specs.Tree.{Meaning}
use Rattle.px_meaning.specs.Says.{meaning}
use Rattle.px_layout.specs.declared.chunks.Chunk.{Chunk}
use Rattle.px_layout.specs.declared.chunks.Chunk.TheVariants.{Table, Placed}
use Rattle.px_layout.specs.Plans.{Plan}
use Rattle.px_layout.specs.Laid.{laid}
use Rattle.px_layout.specs.Normal.{normal_exif}
use Rattle.px_plans.proofs.Opened.{opened}

-- "MM", 42, and the main directory at 8
header : List ℕ
header = 0x4D ∷ 0x4D ∷ 0 ∷ 0x2A ∷ 0 ∷ 0 ∷ 0 ∷ 8 ∷ []

-- a next offset of 0
last : List ℕ
last = 0 ∷ 0 ∷ 0 ∷ 0 ∷ []

-- Orientation, SHORT, one
orientation : List ℕ
orientation = 1 ∷ 0x12 ∷ 0 ∷ 3 ∷ 0 ∷ 0 ∷ 0 ∷ 1 ∷ 0 ∷ 1 ∷ 0 ∷ 0 ∷ []

-- ---- one field

one_field : Meaning
one_field =
    record {
      main =
          (0x0112, record { kind = Of Short; elements = element.Short 1 ∷ [] }) ∷ [];
      iptc = None;
      exif = None;
      gps = None;
      thumb = None;
    }

one_field_normal : normal_exif one_field ≡ header ++ 0 ∷ 1 ∷ orientation ++ last
unfolding header last orientation one_field opened
one_field_normal = refl

-- ---- a value of five bytes at an odd offset, which the normal form moves to an even one, and pads

-- ImageDescription at an offset
description_at : ℕ → List ℕ
description_at x = header ++ 0 ∷ 1 ∷ 1 ∷ 0x0E ∷ 0 ∷ 2 ∷ 0 ∷ 0 ∷ 0 ∷ 5 ∷ 0 ∷ 0 ∷ 0 ∷ x ∷ last

urns : List ℕ
urns = 0x55 ∷ 0x72 ∷ 0x6E ∷ 0x73 ∷ 0 ∷ []

odd_offset : List ℕ
odd_offset = description_at 0x1B ++ 0xFF ∷ urns

odd_offset_normal : normal_exif (meaning odd_offset Most) ≡ description_at 0x1A ++ urns ++ 0 ∷ []
unfolding header last description_at urns odd_offset opened
odd_offset_normal = refl

odd_places : Chunk → Option ℕ
odd_places (Table Main) = Some 8
odd_places (Placed Main t) = Some 27
odd_places _ = None

-- the plan of the block itself, with FF in the gap
odd_offset_laid : laid (meaning odd_offset Most) (record { length = 32; offset = odd_places }) Most 0xFF ≡ odd_offset
unfolding header last description_at urns odd_offset odd_places opened
odd_offset_laid = refl

-- ---- four directories, which the normal form puts into one order

-- pointers to the Exif and the GPS directory
pointers_to : ℕ → ℕ → List ℕ
pointers_to exif gps =
    0 ∷ 2 ∷ 0x87 ∷ 0x69 ∷ 0 ∷ 4 ∷ 0 ∷ 0 ∷ 0 ∷ 1 ∷ 0 ∷ 0 ∷ 0 ∷ exif ∷ 0x88 ∷ 0x25 ∷ 0 ∷ 4 ∷ 0 ∷ 0 ∷ 0 ∷ 1 ∷ 0 ∷ 0 ∷ 0 ∷ gps ∷ last

exif_dir : ℕ → List ℕ
exif_dir interop = 0 ∷ 1 ∷ 0xA0 ∷ 5 ∷ 0 ∷ 4 ∷ 0 ∷ 0 ∷ 0 ∷ 1 ∷ 0 ∷ 0 ∷ 0 ∷ interop ∷ last

-- InteroperabilityIndex, four bytes of text
interop_dir : List ℕ
interop_dir = 0 ∷ 1 ∷ 0 ∷ 1 ∷ 0 ∷ 2 ∷ 0 ∷ 0 ∷ 0 ∷ 4 ∷ 0x52 ∷ 0x39 ∷ 0x38 ∷ 0 ∷ last

-- GPSVersionID, 2.2.0.0
gps_dir : List ℕ
gps_dir = 0 ∷ 1 ∷ 0 ∷ 0 ∷ 0 ∷ 1 ∷ 0 ∷ 0 ∷ 0 ∷ 4 ∷ 2 ∷ 2 ∷ 0 ∷ 0 ∷ last

four_dirs : List ℕ
four_dirs = header ++ pointers_to 0x4A 0x26 ++ gps_dir ++ interop_dir ++ exif_dir 0x38

four_dirs_normal : normal_exif (meaning four_dirs Most) ≡ header ++ pointers_to 0x26 0x4A ++ exif_dir 0x38 ++ interop_dir ++ gps_dir
unfolding header last pointers_to exif_dir interop_dir gps_dir four_dirs opened
four_dirs_normal = refl

four_places : Chunk → Option ℕ
four_places (Table Main) = Some 8
four_places (Table Exif) = Some 74
four_places (Table Interop) = Some 56
four_places (Table Gps) = Some 38
four_places _ = None

four_dirs_plan : Plan
four_dirs_plan = record { length = 92; offset = four_places }

four_dirs_laid : laid (meaning four_dirs Most) four_dirs_plan Most 0 ≡ four_dirs
unfolding header last pointers_to exif_dir interop_dir gps_dir four_dirs four_places four_dirs_plan opened
four_dirs_laid = refl

-- least significant byte first and with another filler, the meaning is the same
four_dirs_turned : meaning (laid (meaning four_dirs Most) four_dirs_plan Least 0xFF) Least ≡ meaning four_dirs Most
unfolding header last pointers_to exif_dir interop_dir gps_dir four_dirs four_places four_dirs_plan opened
four_dirs_turned = refl

-- ---- three strips, the empty one inside the third; their lists are widened to LONG, and move out of their entries

strips : List ℕ
strips =
    header ++ 0 ∷ 1 ∷ orientation
    ++ (0 ∷ 0 ∷ 0 ∷ 0x1A ∷ 0 ∷ 2 ∷ 1 ∷ 0x11 ∷ 0 ∷ 3 ∷ 0 ∷ 0 ∷ 0 ∷ 3 ∷ 0 ∷ 0 ∷ 0 ∷ 0x38 ∷ 1 ∷ 0x17 ∷ 0 ∷ 3 ∷ 0 ∷ 0 ∷ 0 ∷ 3 ∷ 0 ∷ 0 ∷ 0 ∷
    0x3E ∷ last)
    ++ 0 ∷ 0x47 ∷ 0 ∷ 0x46 ∷ 0 ∷ 0x44 ∷ 0 ∷ 2 ∷ 0 ∷ 0 ∷ 0 ∷ 3 ∷ 0x58 ∷ 0x59 ∷ 0x5A ∷ 0x41 ∷ 0x42 ∷ []

strips_normal : normal_exif (meaning strips Most) ≡
    header ++ 0 ∷ 1 ∷ orientation
    ++ (0 ∷ 0 ∷ 0 ∷ 0x1A ∷ 0 ∷ 2 ∷ 1 ∷ 0x11 ∷ 0 ∷ 4 ∷ 0 ∷ 0 ∷ 0 ∷ 3 ∷ 0 ∷ 0 ∷ 0 ∷ 0x38 ∷ 1 ∷ 0x17 ∷ 0 ∷ 4 ∷ 0 ∷ 0 ∷ 0 ∷ 3 ∷ 0 ∷ 0 ∷ 0 ∷
    0x44 ∷ last)
    ++ (0 ∷ 0 ∷ 0 ∷ 0x50 ∷ 0 ∷ 0 ∷ 0 ∷ 0x52 ∷ 0 ∷ 0 ∷ 0 ∷ 0x52 ∷ 0 ∷ 0 ∷ 0 ∷ 2 ∷ 0 ∷ 0 ∷ 0 ∷ 0 ∷ 0 ∷ 0 ∷ 0 ∷ 3 ∷ 0x41 ∷ 0x42 ∷ 0x58 ∷ 0x59
    ∷ 0x5A ∷ 0 ∷ [])
unfolding header last orientation strips opened
strips_normal = refl

-- ---- PixelXDimension 4000 as SHORT and as LONG: one meaning, written as LONG

-- a type and a last field
width_of : ℕ → List ℕ → List ℕ
width_of code field =
    header ++ 0 ∷ 1 ∷ 0x87 ∷ 0x69 ∷ 0 ∷ 4 ∷ 0 ∷ 0 ∷ 0 ∷ 1 ∷ 0 ∷ 0 ∷ 0 ∷ 0x1A ∷ last
    ++ 0 ∷ 1 ∷ 0xA0 ∷ 2 ∷ 0 ∷ code ∷ 0 ∷ 0 ∷ 0 ∷ 1 ∷ field ++ last

short_width : List ℕ
short_width = width_of 3 (0x0F ∷ 0xA0 ∷ 0 ∷ 0 ∷ [])

long_width : List ℕ
long_width = width_of 4 (0 ∷ 0 ∷ 0x0F ∷ 0xA0 ∷ [])

width_normal : (meaning short_width Most ≡ meaning long_width Most) × (normal_exif (meaning short_width Most) ≡ long_width)
unfolding header last width_of short_width long_width opened
width_normal = (refl, refl)

-- ---- a record with a zero byte after it, as BYTE: written as UNDEFINED, without it, and padded

-- a type and a count
record_of : ℕ → ℕ → List ℕ
record_of code count =
    header ++ 0 ∷ 1 ∷ 0x83 ∷ 0xBB ∷ 0 ∷ code ∷ 0 ∷ 0 ∷ 0 ∷ count ∷ 0 ∷ 0 ∷ 0 ∷ 0x1A ∷ last ++ 0x1C ∷ 2 ∷ 0x78 ∷ 0 ∷ 2 ∷ 0x68 ∷ 0x69 ∷ 0 ∷ []

record_normal : normal_exif (meaning (record_of 1 8) Most) ≡ record_of 7 7
unfolding header last record_of opened
record_normal = refl
