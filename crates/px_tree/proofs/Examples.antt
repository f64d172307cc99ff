-- Worked examples, computed: the meaning of a block, or its first fault.
use Rattle.std.proofs.Common.{◌≡◌, ℕ, Option, Some, None, List, [], ◌∷◌, ◌++◌, take, refl, lit≤, arith}
use Rattle.px_bytes.specs.declared.Order.TheVariants.{Least, Most}
use Rattle.px_bytes.specs.declared.Cause.{Cause}
use Rattle.px_bytes.specs.declared.Cause.TheVariants.{UnknownKind, HeaderCut, Loop, DirectoryOutside, EmptyDirectory, Overlap, Unsorted}
use Rattle.px_bytes.specs.declared.Cause.TheVariants.{Doubled, UnknownType, MisplacedOffset, PointerForm, ValueOutside, ThumbnailPair}
use Rattle.px_bytes.specs.declared.Cause.TheVariants.{ExtraDirectory, ThumbnailOutside}
use Rattle.px_bytes.specs.Checks.{first_false}
use Rattle.px_bytes.specs.Range.{range}
use Rattle.px_field.specs.declared.Form.TheVariants.{Byte, Ascii, Short, Long, Rational, Undefined}
use Rattle.px_field.specs.declared.Kind.TheVariants.{Of, Whole}
use Rattle.px_field.specs.declared.Element.TheVariants as element
use Rattle.px_field.specs.Values.{Value}
use Rattle.px_meaning.specs.declared.Dir.TheVariants.{Main, Thumb}
use Rattle.px_meaning.specs.Tree.{Meaning}
use Rattle.px_meaning.specs.Says.{meaning, SaysExif}
use Rattle.px_tree.specs.Checks.{checks}
use Rattle.px_tree.specs.Faults.{ExifFault}
use Rattle.px_tree.proofs.Opened.{opened}

first_fault : List ℕ → Option (Cause × ℕ)
first_fault b = first_false (checks b)

-- a meaning with only a main directory
main_only : List (ℕ × Value) → Meaning
main_only fs = record { main = fs; iptc = None; exif = None; gps = None; thumb = None }

-- "MM", 42, and the main directory at 8
header : List ℕ
header = 0x4D ∷ 0x4D ∷ 0 ∷ 0x2A ∷ 0 ∷ 0 ∷ 0 ∷ 8 ∷ []

-- Orientation, SHORT, one
orientation : List ℕ
orientation = 1 ∷ 0x12 ∷ 0 ∷ 3 ∷ 0 ∷ 0 ∷ 0 ∷ 1 ∷ 0 ∷ 1 ∷ 0 ∷ 0 ∷ []

-- the header and one entry
one_entry : List ℕ
one_entry = header ++ 0 ∷ 1 ∷ orientation ++ 0 ∷ 0 ∷ 0 ∷ 0 ∷ []

one_field : Meaning
one_field = main_only ((0x0112, record { kind = Of Short; elements = element.Short 1 ∷ [] }) ∷ [])

one_entry_means : (first_fault one_entry ≡ None) × (meaning one_entry Most ≡ one_field)
unfolding first_fault main_only header orientation one_entry one_field opened
one_entry_means = (refl, refl)

-- and, condition by condition, it has that field
one_entry_means_exif : SaysExif one_entry one_field
unfolding main_only header orientation one_entry one_field opened
one_entry_means_exif = record {
  order = Most;
  is_block = record {
    least = lit≤ tt;
    most = lit≤ tt;
    begins = refl;
    directories = (
      record { there = refl; rising = (tt, tt); each = (record { known = refl; allowed = refl; formed = refl; inside = refl }, tt) },
      (tt, (tt, (tt, (tt, tt)))),
    );
    thumbnail = tt;
    apart = (((λ p i j. omega arith), tt), (tt, tt));
  };
  means = refl;
}

-- the same in the other order, with spare bytes that have no meaning
turned : List ℕ
turned = 0x49 ∷ 0x49 ∷ 0x2A ∷ 0 ∷ 8 ∷ 0 ∷ 0 ∷ 0 ∷ 1 ∷ 0 ∷ 0x12 ∷ 1 ∷ 3 ∷ 0 ∷ 1 ∷ 0 ∷ 0 ∷ 0 ∷ 1 ∷ 0 ∷ 0xBE ∷ 0xEF ∷ 0 ∷ 0 ∷ 0 ∷ 0 ∷ []

turned_means_the_same : (first_fault turned ≡ None) × (meaning turned Least ≡ one_field)
unfolding first_fault main_only turned one_field opened
turned_means_the_same = (refl, refl)

-- cut short
cut_blocks : (first_fault (take 25 one_entry) ≡ Some (DirectoryOutside, 4)) ×
    (first_fault (take 9 one_entry) ≡ Some (DirectoryOutside, 4)) × (first_fault (take 7 one_entry) ≡ Some (HeaderCut, 7)) × (first_fault
    (take 1 one_entry) ≡ Some (HeaderCut, 1)) × (first_fault [] ≡ Some (UnknownKind, 0))
unfolding first_fault header orientation one_entry opened
cut_blocks = (refl, refl, refl, refl, refl)

-- ---- values

-- a description of five bytes at an odd offset
odd_offset : List ℕ
odd_offset =
    0x4D ∷ 0x4D ∷ 0 ∷ 0x2A ∷ 0 ∷ 0 ∷ 0 ∷ 8 ∷ 0 ∷ 1 ∷ 1 ∷ 0x0E ∷ 0 ∷ 2 ∷ 0 ∷ 0 ∷ 0 ∷ 5 ∷ 0 ∷ 0 ∷ 0 ∷ 0x1B ∷ 0 ∷ 0 ∷ 0 ∷ 0 ∷ 0xFF ∷ 0x55 ∷
    0x72 ∷ 0x6E ∷ 0x73 ∷ 0 ∷ []

odd_offset_means : (first_fault odd_offset ≡ None) ×
    (meaning odd_offset Most ≡ main_only ((
      0x010E,
      record {
        kind = Of Ascii;
        elements = element.Byte 0x55 ∷ element.Byte
            0x72 ∷ element.Byte 0x6E ∷ element.Byte 0x73 ∷ element.Byte 0 ∷ [];
      },
    ) ∷ []))
unfolding first_fault main_only odd_offset opened
odd_offset_means = (refl, refl)

-- the same value in the other order, at an even offset
described_least : List ℕ
described_least =
    0x49 ∷ 0x49 ∷ 0x2A ∷ 0 ∷ 8 ∷ 0 ∷ 0 ∷ 0 ∷ 1 ∷ 0 ∷ 0x0E ∷ 1 ∷ 2 ∷ 0 ∷ 5 ∷ 0 ∷ 0 ∷ 0 ∷ 0x1A ∷ 0 ∷ 0 ∷ 0 ∷ 0 ∷ 0 ∷ 0 ∷ 0 ∷ 0x55 ∷ 0x72 ∷
    0x6E ∷ 0x73 ∷ 0 ∷ []

described_least_means_the_same : (first_fault described_least ≡ None) × (meaning described_least Least ≡ meaning odd_offset Most)
unfolding first_fault main_only described_least odd_offset opened
described_least_means_the_same = (refl, refl)

-- PixelXDimension as SHORT in the Exif directory
pixels_short : List ℕ
pixels_short =
    0x4D ∷ 0x4D ∷ 0 ∷ 0x2A ∷ 0 ∷ 0 ∷ 0 ∷ 8 ∷ 0 ∷ 1 ∷ 0x87 ∷ 0x69 ∷ 0 ∷ 4 ∷ 0 ∷ 0 ∷ 0 ∷ 1 ∷ 0 ∷ 0 ∷ 0 ∷ 0x1A ∷ 0 ∷ 0 ∷ 0 ∷ 0 ∷ 0 ∷ 1 ∷ 0xA0
    ∷ 2 ∷ 0 ∷ 3 ∷ 0 ∷ 0 ∷ 0 ∷ 1 ∷ 0x0F ∷ 0xA0 ∷ 0 ∷ 0 ∷ 0 ∷ 0 ∷ 0 ∷ 0 ∷ []

-- and as LONG
pixels_long : List ℕ
pixels_long =
    0x4D ∷ 0x4D ∷ 0 ∷ 0x2A ∷ 0 ∷ 0 ∷ 0 ∷ 8 ∷ 0 ∷ 1 ∷ 0x87 ∷ 0x69 ∷ 0 ∷ 4 ∷ 0 ∷ 0 ∷ 0 ∷ 1 ∷ 0 ∷ 0 ∷ 0 ∷ 0x1A ∷ 0 ∷ 0 ∷ 0 ∷ 0 ∷ 0 ∷ 1 ∷ 0xA0
    ∷ 2 ∷ 0 ∷ 4 ∷ 0 ∷ 0 ∷ 0 ∷ 1 ∷ 0 ∷ 0 ∷ 0x0F ∷ 0xA0 ∷ 0 ∷ 0 ∷ 0 ∷ 0 ∷ []

pixels_are_whole : (first_fault pixels_short ≡ None) ×
    (meaning pixels_short Most ≡ record {
      main = [];
      iptc = None;
      exif = Some
          (record { fields = (0xA002, record { kind = Whole; elements = element.Long 4000 ∷ [] }) ∷ []; interop = None });
      gps =
          None;
      thumb = None;
    })
unfolding first_fault main_only pixels_short opened
pixels_are_whole = (refl, refl)

pixels_mean_the_same : (first_fault pixels_long ≡ None) × (meaning pixels_long Most ≡ meaning pixels_short Most)
unfolding first_fault main_only pixels_long pixels_short opened
pixels_mean_the_same = (refl, refl)

-- ImageWidth of two SHORTs
widths : List ℕ
widths = 0x4D ∷ 0x4D ∷ 0 ∷ 0x2A ∷ 0 ∷ 0 ∷ 0 ∷ 8 ∷ 0 ∷ 1 ∷ 1 ∷ 0 ∷ 0 ∷ 3 ∷ 0 ∷ 0 ∷ 0 ∷ 2 ∷ 0x0B ∷ 0xB8 ∷ 7 ∷ 0xD0 ∷ 0 ∷ 0 ∷ 0 ∷ 0 ∷ []

widths_are_whole : (first_fault widths ≡ None) ×
    (meaning widths Most ≡ main_only ((0x0100, record { kind = Whole; elements = element.Long 3000 ∷ element.Long 2000 ∷ [] }) ∷ []))
unfolding first_fault main_only widths opened
widths_are_whole = (refl, refl)

-- a count of 0, with an offset that leads nowhere
no_elements : List ℕ
no_elements =
    0x4D ∷ 0x4D ∷ 0 ∷ 0x2A ∷ 0 ∷ 0 ∷ 0 ∷ 8 ∷ 0 ∷ 1 ∷ 1 ∷ 0x0E ∷ 0 ∷ 2 ∷ 0 ∷ 0 ∷ 0 ∷ 0 ∷ 0xFF ∷ 0xFF ∷ 0xFF ∷ 0xFF ∷ 0 ∷ 0 ∷ 0 ∷ 0 ∷ []

no_elements_means : (first_fault no_elements ≡ None) ×
    (meaning no_elements Most ≡ main_only ((0x010E, record { kind = Of Ascii; elements = [] }) ∷ []))
unfolding first_fault main_only no_elements opened
no_elements_means = (refl, refl)

-- ---- shared bytes

one_for_both : List ℕ
one_for_both =
    0x4D ∷ 0x4D ∷ 0 ∷ 0x2A ∷ 0 ∷ 0 ∷ 0 ∷ 8 ∷ 0 ∷ 2 ∷ 1 ∷ 0x1A ∷ 0 ∷ 5 ∷ 0 ∷ 0 ∷ 0 ∷ 1 ∷ 0 ∷ 0 ∷ 0 ∷ 0x26 ∷ 1 ∷ 0x1B ∷ 0 ∷ 5 ∷ 0 ∷ 0 ∷ 0 ∷ 1
    ∷ 0 ∷ 0 ∷ 0 ∷ 0x26 ∷ 0 ∷ 0 ∷ 0 ∷ 0 ∷ 0 ∷ 0 ∷ 0 ∷ 0x48 ∷ 0 ∷ 0 ∷ 0 ∷ 1 ∷ []

half_for_both : List ℕ
half_for_both =
    0x4D ∷ 0x4D ∷ 0 ∷ 0x2A ∷ 0 ∷ 0 ∷ 0 ∷ 8 ∷ 0 ∷ 2 ∷ 1 ∷ 0x1A ∷ 0 ∷ 5 ∷ 0 ∷ 0 ∷ 0 ∷ 1 ∷ 0 ∷ 0 ∷ 0 ∷ 0x26 ∷ 1 ∷ 0x1B ∷ 0 ∷ 5 ∷ 0 ∷ 0 ∷ 0 ∷ 1
    ∷ 0 ∷ 0 ∷ 0 ∷ 0x28 ∷ 0 ∷ 0 ∷ 0 ∷ 0 ∷ 0 ∷ 0 ∷ 0 ∷ 0x48 ∷ 0 ∷ 0 ∷ 0 ∷ 1 ∷ 0 ∷ 0 ∷ []

-- two resolutions at one offset, and at offsets four bytes apart
shared_values : (first_fault one_for_both ≡ Some (Overlap, 22)) × (first_fault half_for_both ≡ Some (Overlap, 22))
unfolding first_fault one_for_both half_for_both opened
shared_values = (refl, refl)

-- each at an offset of its own
two_resolutions : List ℕ
two_resolutions =
    0x4D ∷ 0x4D ∷ 0 ∷ 0x2A ∷ 0 ∷ 0 ∷ 0 ∷ 8 ∷ 0 ∷ 2 ∷ 1 ∷ 0x1A ∷ 0 ∷ 5 ∷ 0 ∷ 0 ∷ 0 ∷ 1 ∷ 0 ∷ 0 ∷ 0 ∷ 0x26 ∷ 1 ∷ 0x1B ∷ 0 ∷ 5 ∷ 0 ∷ 0 ∷ 0 ∷ 1
    ∷ 0 ∷ 0 ∷ 0 ∷ 0x2E ∷ 0 ∷ 0 ∷ 0 ∷ 0 ∷ 0 ∷ 0 ∷ 0 ∷ 0x48 ∷ 0 ∷ 0 ∷ 0 ∷ 1 ∷ 0 ∷ 0 ∷ 0 ∷ 0x48 ∷ 0 ∷ 0 ∷ 0 ∷ 1 ∷ []

two_resolutions_mean : (first_fault two_resolutions ≡ None) ×
    (meaning two_resolutions Most ≡ main_only ((0x011A, record { kind = Of Rational; elements = element.Rational 72 1 ∷ [] }) ∷ (
      0x011B,
      record { kind = Of Rational; elements = element.Rational 72 1 ∷ [] },
    ) ∷ []))
unfolding first_fault main_only two_resolutions opened
two_resolutions_mean = (refl, refl)

value_past_end : List ℕ
value_past_end = 0x4D ∷ 0x4D ∷ 0 ∷ 0x2A ∷ 0 ∷ 0 ∷ 0 ∷ 8 ∷ 0 ∷ 1 ∷ 1 ∷ 0x0E ∷ 0 ∷ 2 ∷ 0 ∷ 0 ∷ 0 ∷ 5 ∷ 0 ∷ 0 ∷ 0 ∷ 0x16 ∷ 0 ∷ 0 ∷ 0 ∷ 0 ∷ []

value_on_table : List ℕ
value_on_table = 0x4D ∷ 0x4D ∷ 0 ∷ 0x2A ∷ 0 ∷ 0 ∷ 0 ∷ 8 ∷ 0 ∷ 1 ∷ 1 ∷ 0x0E ∷ 0 ∷ 2 ∷ 0 ∷ 0 ∷ 0 ∷ 5 ∷ 0 ∷ 0 ∷ 0 ∷ 0x15 ∷ 0 ∷ 0 ∷ 0 ∷ 0 ∷ []

value_on_header : List ℕ
value_on_header = 0x4D ∷ 0x4D ∷ 0 ∷ 0x2A ∷ 0 ∷ 0 ∷ 0 ∷ 8 ∷ 0 ∷ 1 ∷ 1 ∷ 0x0E ∷ 0 ∷ 2 ∷ 0 ∷ 0 ∷ 0 ∷ 5 ∷ 0 ∷ 0 ∷ 0 ∷ 0 ∷ 0 ∷ 0 ∷ 0 ∷ 0 ∷ []

value_too_large : List ℕ
value_too_large =
    0x4D ∷ 0x4D ∷ 0 ∷ 0x2A ∷ 0 ∷ 0 ∷ 0 ∷ 8 ∷ 0 ∷ 1 ∷ 1 ∷ 0x0E ∷ 0 ∷ 5 ∷ 0x20 ∷ 0 ∷ 0 ∷ 0 ∷ 0 ∷ 0 ∷ 0 ∷ 0x1A ∷ 0 ∷ 0 ∷ 0 ∷ 0 ∷ []

-- a value of five bytes past the end, on the last byte of its table, and on the header
placed_badly : (first_fault value_past_end ≡ Some (ValueOutside, 10)) × (first_fault value_on_table ≡ Some (Overlap, 10)) ×
    (first_fault value_on_header ≡ Some (Overlap, 10)) × (first_fault value_too_large ≡ Some (ValueOutside, 10))
unfolding first_fault value_past_end value_on_table value_on_header value_too_large opened
placed_badly = (refl, refl, refl, refl)

-- ---- directories and entries

next_to_main : List ℕ
next_to_main = 0x4D ∷ 0x4D ∷ 0 ∷ 0x2A ∷ 0 ∷ 0 ∷ 0 ∷ 8 ∷ 0 ∷ 1 ∷ 1 ∷ 0x12 ∷ 0 ∷ 3 ∷ 0 ∷ 0 ∷ 0 ∷ 1 ∷ 0 ∷ 1 ∷ 0 ∷ 0 ∷ 0 ∷ 0 ∷ 0 ∷ 8 ∷ []

pointer_to_main : List ℕ
pointer_to_main = 0x4D ∷ 0x4D ∷ 0 ∷ 0x2A ∷ 0 ∷ 0 ∷ 0 ∷ 8 ∷ 0 ∷ 1 ∷ 0x87 ∷ 0x69 ∷ 0 ∷ 4 ∷ 0 ∷ 0 ∷ 0 ∷ 1 ∷ 0 ∷ 0 ∷ 0 ∷ 8 ∷ 0 ∷ 0 ∷ 0 ∷ 0 ∷ []

-- the next directory, and a pointer, lead to the main directory
loops_refused : (first_fault next_to_main ≡ Some (Loop, 22)) × (first_fault pointer_to_main ≡ Some (Loop, 10))
unfolding first_fault next_to_main pointer_to_main opened
loops_refused = (refl, refl)

tag_twice : List ℕ
tag_twice =
    0x4D ∷ 0x4D ∷ 0 ∷ 0x2A ∷ 0 ∷ 0 ∷ 0 ∷ 8 ∷ 0 ∷ 2 ∷ 1 ∷ 0x12 ∷ 0 ∷ 3 ∷ 0 ∷ 0 ∷ 0 ∷ 1 ∷ 0 ∷ 1 ∷ 0 ∷ 0 ∷ 1 ∷ 0x12 ∷ 0 ∷ 3 ∷ 0 ∷ 0 ∷ 0 ∷ 1 ∷
    0 ∷ 1 ∷ 0 ∷ 0 ∷ 0 ∷ 0 ∷ 0 ∷ 0 ∷ []

falling_tags : List ℕ
falling_tags =
    0x4D ∷ 0x4D ∷ 0 ∷ 0x2A ∷ 0 ∷ 0 ∷ 0 ∷ 8 ∷ 0 ∷ 2 ∷ 1 ∷ 0x12 ∷ 0 ∷ 3 ∷ 0 ∷ 0 ∷ 0 ∷ 1 ∷ 0 ∷ 1 ∷ 0 ∷ 0 ∷ 1 ∷ 0 ∷ 0 ∷ 3 ∷ 0 ∷ 0 ∷ 0 ∷ 1 ∷ 0 ∷
    1 ∷ 0 ∷ 0 ∷ 0 ∷ 0 ∷ 0 ∷ 0 ∷ []

falling_unknown : List ℕ
falling_unknown =
    0x4D ∷ 0x4D ∷ 0 ∷ 0x2A ∷ 0 ∷ 0 ∷ 0 ∷ 8 ∷ 0 ∷ 2 ∷ 1 ∷ 0x12 ∷ 0 ∷ 3 ∷ 0 ∷ 0 ∷ 0 ∷ 1 ∷ 0 ∷ 1 ∷ 0 ∷ 0 ∷ 1 ∷ 0 ∷ 0 ∷ 0x0D ∷ 0 ∷ 0 ∷ 0 ∷ 1 ∷
    0 ∷ 1 ∷ 0 ∷ 0 ∷ 0 ∷ 0 ∷ 0 ∷ 0 ∷ []

-- a tag twice, and tags that descend, even if the second has no known type
in_bad_order : (first_fault tag_twice ≡ Some (Doubled, 22)) × (first_fault falling_tags ≡ Some (Unsorted, 22)) ×
    (first_fault falling_unknown ≡ Some (Unsorted, 22))
unfolding first_fault tag_twice falling_tags falling_unknown opened
in_bad_order = (refl, refl, refl)

main_at_zero : List ℕ
main_at_zero = 0x4D ∷ 0x4D ∷ 0 ∷ 0x2A ∷ 0 ∷ 0 ∷ 0 ∷ 0 ∷ 0 ∷ 1 ∷ 1 ∷ 0x12 ∷ 0 ∷ 3 ∷ 0 ∷ 0 ∷ 0 ∷ 1 ∷ 0 ∷ 1 ∷ 0 ∷ 0 ∷ 0 ∷ 0 ∷ 0 ∷ 0 ∷ []

main_at_four : List ℕ
main_at_four = 0x4D ∷ 0x4D ∷ 0 ∷ 0x2A ∷ 0 ∷ 0 ∷ 0 ∷ 4 ∷ 0 ∷ 1 ∷ 1 ∷ 0x12 ∷ 0 ∷ 3 ∷ 0 ∷ 0 ∷ 0 ∷ 1 ∷ 0 ∷ 1 ∷ 0 ∷ 0 ∷ 0 ∷ 0 ∷ 0 ∷ 0 ∷ []

no_entries : List ℕ
no_entries = 0x4D ∷ 0x4D ∷ 0 ∷ 0x2A ∷ 0 ∷ 0 ∷ 0 ∷ 8 ∷ 0 ∷ 0 ∷ 0 ∷ 0 ∷ 0 ∷ 0 ∷ []

-- a main directory in the header, and directories without entries
no_directory : (first_fault main_at_zero ≡ Some (DirectoryOutside, 4)) × (first_fault main_at_four ≡ Some (EmptyDirectory, 4)) ×
    (first_fault no_entries ≡ Some (EmptyDirectory, 8))
unfolding first_fault main_at_zero main_at_four no_entries opened
no_directory = (refl, refl, refl)

unknown_type : List ℕ
unknown_type = 0x4D ∷ 0x4D ∷ 0 ∷ 0x2A ∷ 0 ∷ 0 ∷ 0 ∷ 8 ∷ 0 ∷ 1 ∷ 1 ∷ 0x12 ∷ 0 ∷ 0x0D ∷ 0 ∷ 0 ∷ 0 ∷ 1 ∷ 0 ∷ 1 ∷ 0 ∷ 0 ∷ 0 ∷ 0 ∷ 0 ∷ 0 ∷ []

short_pointer : List ℕ
short_pointer = 0x4D ∷ 0x4D ∷ 0 ∷ 0x2A ∷ 0 ∷ 0 ∷ 0 ∷ 8 ∷ 0 ∷ 1 ∷ 0x87 ∷ 0x69 ∷ 0 ∷ 3 ∷ 0 ∷ 0 ∷ 0 ∷ 1 ∷ 0 ∷ 0x1A ∷ 0 ∷ 0 ∷ 0 ∷ 0 ∷ 0 ∷ 0 ∷ []

main_strips : List ℕ
main_strips = 0x4D ∷ 0x4D ∷ 0 ∷ 0x2A ∷ 0 ∷ 0 ∷ 0 ∷ 8 ∷ 0 ∷ 1 ∷ 1 ∷ 0x11 ∷ 0 ∷ 4 ∷ 0 ∷ 0 ∷ 0 ∷ 1 ∷ 0 ∷ 0 ∷ 0 ∷ 0 ∷ 0 ∷ 0 ∷ 0 ∷ 0 ∷ []

-- an unknown type, a pointer as SHORT, and strips in the main directory
bad_entries : (first_fault unknown_type ≡ Some (UnknownType, 10)) × (first_fault short_pointer ≡ Some (PointerForm, 10)) ×
    (first_fault main_strips ≡ Some (MisplacedOffset, 10))
unfolding first_fault unknown_type short_pointer main_strips opened
bad_entries = (refl, refl, refl)

-- ---- the thumbnail

-- a JPEG of no bytes at the block's end
empty_jpeg : List ℕ
empty_jpeg =
    0x4D ∷ 0x4D ∷ 0 ∷ 0x2A ∷ 0 ∷ 0 ∷ 0 ∷ 8 ∷ 0 ∷ 1 ∷ 1 ∷ 0x12 ∷ 0 ∷ 3 ∷ 0 ∷ 0 ∷ 0 ∷ 1 ∷ 0 ∷ 1 ∷ 0 ∷ 0 ∷ 0 ∷ 0 ∷ 0 ∷ 0x1A ∷ 0 ∷ 2 ∷ 2 ∷ 1 ∷
    0 ∷ 4 ∷ 0 ∷ 0 ∷ 0 ∷ 1 ∷ 0 ∷ 0 ∷ 0 ∷ 0x38 ∷ 2 ∷ 2 ∷ 0 ∷ 4 ∷ 0 ∷ 0 ∷ 0 ∷ 1 ∷ 0 ∷ 0 ∷ 0 ∷ 0 ∷ 0 ∷ 0 ∷ 0 ∷ 0 ∷ []

empty_jpeg_means : (first_fault empty_jpeg ≡ None) ×
    (meaning empty_jpeg Most ≡ record {
      main = (0x0112, record { kind = Of Short; elements = element.Short 1 ∷ [] }) ∷ [];
      iptc = None;
      exif = None;
      gps = None;
      thumb = Some (record { fields = []; jpeg = Some []; strips = None });
    })
unfolding first_fault main_only empty_jpeg opened
empty_jpeg_means = (refl, refl)

-- a JPEG of three bytes
small_jpeg : List ℕ
small_jpeg =
    0x4D ∷ 0x4D ∷ 0 ∷ 0x2A ∷ 0 ∷ 0 ∷ 0 ∷ 8 ∷ 0 ∷ 1 ∷ 1 ∷ 0x12 ∷ 0 ∷ 3 ∷ 0 ∷ 0 ∷ 0 ∷ 1 ∷ 0 ∷ 1 ∷ 0 ∷ 0 ∷ 0 ∷ 0 ∷ 0 ∷ 0x1A ∷ 0 ∷ 2 ∷ 2 ∷ 1 ∷
    0 ∷ 4 ∷ 0 ∷ 0 ∷ 0 ∷ 1 ∷ 0 ∷ 0 ∷ 0 ∷ 0x38 ∷ 2 ∷ 2 ∷ 0 ∷ 4 ∷ 0 ∷ 0 ∷ 0 ∷ 1 ∷ 0 ∷ 0 ∷ 0 ∷ 3 ∷ 0 ∷ 0 ∷ 0 ∷ 0 ∷ 0xFF ∷ 0xD8 ∷ 0xFF ∷ []

small_jpeg_means : (first_fault small_jpeg ≡ None) ×
    (meaning small_jpeg Most ≡ record {
      main = (0x0112, record { kind = Of Short; elements = element.Short 1 ∷ [] }) ∷ [];
      iptc = None;
      exif = None;
      gps = None;
      thumb = Some (record { fields = []; jpeg = Some (0xFF ∷ 0xD8 ∷ 0xFF ∷ []); strips = None });
    })
unfolding first_fault main_only small_jpeg opened
small_jpeg_means = (refl, refl)

jpeg_too_long : List ℕ
jpeg_too_long =
    0x4D ∷ 0x4D ∷ 0 ∷ 0x2A ∷ 0 ∷ 0 ∷ 0 ∷ 8 ∷ 0 ∷ 1 ∷ 1 ∷ 0x12 ∷ 0 ∷ 3 ∷ 0 ∷ 0 ∷ 0 ∷ 1 ∷ 0 ∷ 1 ∷ 0 ∷ 0 ∷ 0 ∷ 0 ∷ 0 ∷ 0x1A ∷ 0 ∷ 2 ∷ 2 ∷ 1 ∷
    0 ∷ 4 ∷ 0 ∷ 0 ∷ 0 ∷ 1 ∷ 0 ∷ 0 ∷ 0 ∷ 0x38 ∷ 2 ∷ 2 ∷ 0 ∷ 4 ∷ 0 ∷ 0 ∷ 0 ∷ 1 ∷ 0 ∷ 0 ∷ 0 ∷ 1 ∷ 0 ∷ 0 ∷ 0 ∷ 0 ∷ []

jpeg_nowhere : List ℕ
jpeg_nowhere =
    0x4D ∷ 0x4D ∷ 0 ∷ 0x2A ∷ 0 ∷ 0 ∷ 0 ∷ 8 ∷ 0 ∷ 1 ∷ 1 ∷ 0x12 ∷ 0 ∷ 3 ∷ 0 ∷ 0 ∷ 0 ∷ 1 ∷ 0 ∷ 1 ∷ 0 ∷ 0 ∷ 0 ∷ 0 ∷ 0 ∷ 0x1A ∷ 0 ∷ 2 ∷ 2 ∷ 1 ∷
    0 ∷ 4 ∷ 0 ∷ 0 ∷ 0 ∷ 1 ∷ 0xFF ∷ 0xFF ∷ 0xFF ∷ 0xFF ∷ 2 ∷ 2 ∷ 0 ∷ 4 ∷ 0 ∷ 0 ∷ 0 ∷ 1 ∷ 0 ∷ 0 ∷ 0 ∷ 1 ∷ 0 ∷ 0 ∷ 0 ∷ 0 ∷ []

empty_past_end : List ℕ
empty_past_end =
    0x4D ∷ 0x4D ∷ 0 ∷ 0x2A ∷ 0 ∷ 0 ∷ 0 ∷ 8 ∷ 0 ∷ 1 ∷ 1 ∷ 0x12 ∷ 0 ∷ 3 ∷ 0 ∷ 0 ∷ 0 ∷ 1 ∷ 0 ∷ 1 ∷ 0 ∷ 0 ∷ 0 ∷ 0 ∷ 0 ∷ 0x1A ∷ 0 ∷ 2 ∷ 2 ∷ 1 ∷
    0 ∷ 4 ∷ 0 ∷ 0 ∷ 0 ∷ 1 ∷ 0 ∷ 0 ∷ 0 ∷ 0x39 ∷ 2 ∷ 2 ∷ 0 ∷ 4 ∷ 0 ∷ 0 ∷ 0 ∷ 1 ∷ 0 ∷ 0 ∷ 0 ∷ 0 ∷ 0 ∷ 0 ∷ 0 ∷ 0 ∷ []

one_more_directory : List ℕ
one_more_directory =
    0x4D ∷ 0x4D ∷ 0 ∷ 0x2A ∷ 0 ∷ 0 ∷ 0 ∷ 8 ∷ 0 ∷ 1 ∷ 1 ∷ 0x12 ∷ 0 ∷ 3 ∷ 0 ∷ 0 ∷ 0 ∷ 1 ∷ 0 ∷ 1 ∷ 0 ∷ 0 ∷ 0 ∷ 0 ∷ 0 ∷ 0x1A ∷ 0 ∷ 2 ∷ 2 ∷ 1 ∷
    0 ∷ 4 ∷ 0 ∷ 0 ∷ 0 ∷ 1 ∷ 0 ∷ 0 ∷ 0 ∷ 0x38 ∷ 2 ∷ 2 ∷ 0 ∷ 4 ∷ 0 ∷ 0 ∷ 0 ∷ 1 ∷ 0 ∷ 0 ∷ 0 ∷ 0 ∷ 0 ∷ 0 ∷ 0 ∷ 8 ∷ []

offset_alone : List ℕ
offset_alone =
    0x4D ∷ 0x4D ∷ 0 ∷ 0x2A ∷ 0 ∷ 0 ∷ 0 ∷ 8 ∷ 0 ∷ 1 ∷ 1 ∷ 0x12 ∷ 0 ∷ 3 ∷ 0 ∷ 0 ∷ 0 ∷ 1 ∷ 0 ∷ 1 ∷ 0 ∷ 0 ∷ 0 ∷ 0 ∷ 0 ∷ 0x1A ∷ 0 ∷ 1 ∷ 2 ∷ 1 ∷
    0 ∷ 4 ∷ 0 ∷ 0 ∷ 0 ∷ 1 ∷ 0 ∷ 0 ∷ 0 ∷ 0x38 ∷ 0 ∷ 0 ∷ 0 ∷ 0 ∷ []

-- a JPEG past the end, by its length or its offset; a next directory; an offset without a length
bad_thumbnails : (first_fault jpeg_too_long ≡ Some (ThumbnailOutside, 28)) × (first_fault jpeg_nowhere ≡ Some (ThumbnailOutside, 28)) ×
    (first_fault empty_past_end ≡ Some (ThumbnailOutside, 28)) × (first_fault one_more_directory ≡ Some
    (ExtraDirectory, 52)) × (first_fault offset_alone ≡ Some (ThumbnailPair, 28))
unfolding first_fault jpeg_too_long jpeg_nowhere empty_past_end one_more_directory offset_alone opened
bad_thumbnails = (refl, refl, refl, refl, refl)

-- three strips in any order, the empty one inside another
three_strips : List ℕ
three_strips =
    0x4D ∷ 0x4D ∷ 0 ∷ 0x2A ∷ 0 ∷ 0 ∷ 0 ∷ 8 ∷ 0 ∷ 1 ∷ 1 ∷ 0x12 ∷ 0 ∷ 3 ∷ 0 ∷ 0 ∷ 0 ∷ 1 ∷ 0 ∷ 1 ∷ 0 ∷ 0 ∷ 0 ∷ 0 ∷ 0 ∷ 0x1A ∷ 0 ∷ 2 ∷ 1 ∷ 0x11
    ∷ 0 ∷ 3 ∷ 0 ∷ 0 ∷ 0 ∷ 3 ∷ 0 ∷ 0 ∷ 0 ∷ 0x38 ∷ 1 ∷ 0x17 ∷ 0 ∷ 3 ∷ 0 ∷ 0 ∷ 0 ∷ 3 ∷ 0 ∷ 0 ∷ 0 ∷ 0x3E ∷ 0 ∷ 0 ∷ 0 ∷ 0 ∷ 0 ∷ 0x47 ∷ 0 ∷ 0x46
    ∷ 0 ∷ 0x44 ∷ 0 ∷ 2 ∷ 0 ∷ 0 ∷ 0 ∷ 3 ∷ 0x58 ∷ 0x59 ∷ 0x5A ∷ 0x41 ∷ 0x42 ∷ []

three_strips_mean : (first_fault three_strips ≡ None) ×
    (meaning three_strips Most ≡ record {
      main = (0x0112, record { kind = Of Short; elements = element.Short 1 ∷ [] }) ∷ [];
      iptc = None;
      exif = None;
      gps =
          None;
      thumb = Some (record { fields = []; jpeg = None; strips = Some ((0x41 ∷ 0x42 ∷ []) ∷ [] ∷ (0x58 ∷ 0x59 ∷ 0x5A ∷ []) ∷ []) });
    })
unfolding first_fault main_only three_strips opened
three_strips_mean = (refl, refl)

strip_in_strip : List ℕ
strip_in_strip =
    0x4D ∷ 0x4D ∷ 0 ∷ 0x2A ∷ 0 ∷ 0 ∷ 0 ∷ 8 ∷ 0 ∷ 1 ∷ 1 ∷ 0x12 ∷ 0 ∷ 3 ∷ 0 ∷ 0 ∷ 0 ∷ 1 ∷ 0 ∷ 1 ∷ 0 ∷ 0 ∷ 0 ∷ 0 ∷ 0 ∷ 0x1A ∷ 0 ∷ 2 ∷ 1 ∷ 0x11
    ∷ 0 ∷ 3 ∷ 0 ∷ 0 ∷ 0 ∷ 3 ∷ 0 ∷ 0 ∷ 0 ∷ 0x38 ∷ 1 ∷ 0x17 ∷ 0 ∷ 3 ∷ 0 ∷ 0 ∷ 0 ∷ 3 ∷ 0 ∷ 0 ∷ 0 ∷ 0x3E ∷ 0 ∷ 0 ∷ 0 ∷ 0 ∷ 0 ∷ 0x45 ∷ 0 ∷ 0x46
    ∷ 0 ∷ 0x44 ∷ 0 ∷ 2 ∷ 0 ∷ 0 ∷ 0 ∷ 3 ∷ 0x58 ∷ 0x59 ∷ 0x5A ∷ 0x41 ∷ 0x42 ∷ []

-- a strip inside another
strips_on_strips : (first_fault strip_in_strip ≡ Some (Overlap, 28))
unfolding first_fault strip_in_strip opened
strips_on_strips = refl

-- ---- a tree

-- four directories, in another order than that in which they are read
four_directories : List ℕ
four_directories =
    0x4D ∷ 0x4D ∷ 0 ∷ 0x2A ∷ 0 ∷ 0 ∷ 0 ∷ 8 ∷ 0 ∷ 2 ∷ 0x87 ∷ 0x69 ∷ 0 ∷ 4 ∷ 0 ∷ 0 ∷ 0 ∷ 1 ∷ 0 ∷ 0 ∷ 0 ∷ 0x4A ∷ 0x88 ∷ 0x25 ∷ 0 ∷ 4 ∷ 0 ∷ 0 ∷
    0 ∷ 1 ∷ 0 ∷ 0 ∷ 0 ∷ 0x26 ∷ 0 ∷ 0 ∷ 0 ∷ 0 ∷ 0 ∷ 1 ∷ 0 ∷ 0 ∷ 0 ∷ 1 ∷ 0 ∷ 0 ∷ 0 ∷ 4 ∷ 2 ∷ 2 ∷ 0 ∷ 0 ∷ 0 ∷ 0 ∷ 0 ∷ 0 ∷ 0 ∷ 1 ∷ 0 ∷ 1 ∷ 0 ∷
    2 ∷ 0 ∷ 0 ∷ 0 ∷ 4 ∷ 0x52 ∷ 0x39 ∷ 0x38 ∷ 0 ∷ 0 ∷ 0 ∷ 0 ∷ 0 ∷ 0 ∷ 1 ∷ 0xA0 ∷ 5 ∷ 0 ∷ 4 ∷ 0 ∷ 0 ∷ 0 ∷ 1 ∷ 0 ∷ 0 ∷ 0 ∷ 0x38 ∷ 0 ∷ 0 ∷ 0 ∷
    0 ∷ []

four_directories_mean : (first_fault four_directories ≡ None) ×
    (meaning four_directories Most ≡ record {
      main = [];
      iptc = None;
      exif = Some
          (record {
            fields =
                [];
            interop =
                Some
                ((
                  1,
                  record {
                    kind = Of Ascii;
                    elements = element.Byte 0x52 ∷ element.Byte 0x39 ∷ element.Byte 0x38 ∷ element.Byte 0 ∷ [];
                  },
                ) ∷ []);
          });
      gps =
          Some ((0, record { kind = Of Byte; elements = element.Byte 2 ∷ element.Byte 2 ∷ element.Byte 0 ∷ element.Byte 0 ∷ [] }) ∷ []);
      thumb =
          None;
    })
unfolding first_fault main_only four_directories opened
four_directories_mean = (refl, refl)

-- the next offset of the GPS directory is not read
unread_next : List ℕ
unread_next =
    0x4D ∷ 0x4D ∷ 0 ∷ 0x2A ∷ 0 ∷ 0 ∷ 0 ∷ 8 ∷ 0 ∷ 2 ∷ 0x87 ∷ 0x69 ∷ 0 ∷ 4 ∷ 0 ∷ 0 ∷ 0 ∷ 1 ∷ 0 ∷ 0 ∷ 0 ∷ 0x26 ∷ 0x88 ∷ 0x25 ∷ 0 ∷ 4 ∷ 0 ∷ 0 ∷
    0 ∷ 1 ∷ 0 ∷ 0 ∷ 0 ∷ 0x4A ∷ 0 ∷ 0 ∷ 0 ∷ 0 ∷ 0 ∷ 1 ∷ 0xA0 ∷ 5 ∷ 0 ∷ 4 ∷ 0 ∷ 0 ∷ 0 ∷ 1 ∷ 0 ∷ 0 ∷ 0 ∷ 0x38 ∷ 0 ∷ 0 ∷ 0 ∷ 0 ∷ 0 ∷ 1 ∷ 0 ∷ 1
    ∷ 0 ∷ 2 ∷ 0 ∷ 0 ∷ 0 ∷ 4 ∷ 0x52 ∷ 0x39 ∷ 0x38 ∷ 0 ∷ 0 ∷ 0 ∷ 0 ∷ 0 ∷ 0 ∷ 1 ∷ 0 ∷ 0 ∷ 0 ∷ 1 ∷ 0 ∷ 0 ∷ 0 ∷ 4 ∷ 2 ∷ 2 ∷ 0 ∷ 0 ∷ 0xFF ∷ 0xFF
    ∷ 0xFF ∷ 0xFF ∷ []

unread_next_means_the_same : (first_fault unread_next ≡ None) × (meaning unread_next Most ≡ meaning four_directories Most)
unfolding first_fault main_only unread_next four_directories opened
unread_next_means_the_same = (refl, refl)

-- a MakerNote, whose bytes no order turns
maker_note : List ℕ
maker_note =
    0x49 ∷ 0x49 ∷ 0x2A ∷ 0 ∷ 8 ∷ 0 ∷ 0 ∷ 0 ∷ 1 ∷ 0 ∷ 0x69 ∷ 0x87 ∷ 4 ∷ 0 ∷ 1 ∷ 0 ∷ 0 ∷ 0 ∷ 0x1A ∷ 0 ∷ 0 ∷ 0 ∷ 0 ∷ 0 ∷ 0 ∷ 0 ∷ 1 ∷ 0 ∷ 0x7C
    ∷ 0x92 ∷ 7 ∷ 0 ∷ 5 ∷ 0 ∷ 0 ∷ 0 ∷ 0x30 ∷ 0 ∷ 0 ∷ 0 ∷ 0 ∷ 0 ∷ 0 ∷ 0 ∷ 0xFF ∷ 0xFF ∷ 0xFF ∷ 0xFF ∷ 1 ∷ 2 ∷ 3 ∷ 4 ∷ 5 ∷ []

maker_note_means : (first_fault maker_note ≡ None) ×
    (meaning maker_note Least ≡ record {
      main = [];
      iptc = None;
      exif = Some
          (record {
            fields = (
              0x927C,
              record {
                kind = Of Undefined;
                elements = element.Byte 1 ∷ element.Byte 2 ∷ element.Byte 3 ∷ element.Byte 4 ∷ element.Byte
                    5 ∷ [];
              },
            ) ∷ [];
            interop = None;
          });
      gps = None;
      thumb = None;
    })
unfolding first_fault main_only maker_note opened
maker_note_means = (refl, refl)

-- ---- a record inside the block

-- a caption as an extended DataSet of IIM, UNDEFINED
recorded : List ℕ
recorded =
    0x4D ∷ 0x4D ∷ 0 ∷ 0x2A ∷ 0 ∷ 0 ∷ 0 ∷ 8 ∷ 0 ∷ 1 ∷ 0x83 ∷ 0xBB ∷ 0 ∷ 7 ∷ 0 ∷ 0 ∷ 0 ∷ 0x0C ∷ 0 ∷ 0 ∷ 0 ∷ 0x1A ∷ 0 ∷ 0 ∷ 0 ∷ 0 ∷ 0x1C ∷ 2 ∷
    0x78 ∷ 0x80 ∷ 4 ∷ 0 ∷ 0 ∷ 0 ∷ 3 ∷ 0x61 ∷ 0x62 ∷ 0x63 ∷ []

recorded_means : (first_fault recorded ≡ None) ×
    (meaning recorded Most ≡ record {
      main = [];
      iptc = Some (record {
        rec = 2;
        number = 120;
        items = (120, 0x61 ∷ 0x62 ∷ 0x63 ∷ []) ∷ [];
      } ∷ []);
      exif = None;
      gps = None;
      thumb = None;
    })
unfolding first_fault main_only recorded opened
recorded_means = (refl, refl)

-- the same of type BYTE, as a standard DataSet with zeros after it
recorded_bytes : List ℕ
recorded_bytes =
    0x4D ∷ 0x4D ∷ 0 ∷ 0x2A ∷ 0 ∷ 0 ∷ 0 ∷ 8 ∷ 0 ∷ 1 ∷ 0x83 ∷ 0xBB ∷ 0 ∷ 1 ∷ 0 ∷ 0 ∷ 0 ∷ 0x0B ∷ 0 ∷ 0 ∷ 0 ∷ 0x1A ∷ 0 ∷ 0 ∷ 0 ∷ 0 ∷ 0x1C ∷ 2 ∷
    0x78 ∷ 0 ∷ 3 ∷ 0x61 ∷ 0x62 ∷ 0x63 ∷ 0 ∷ 0 ∷ 0 ∷ []

recorded_bytes_mean_the_same : (first_fault recorded_bytes ≡ None) × (meaning recorded_bytes Most ≡ meaning recorded Most)
unfolding first_fault main_only recorded_bytes recorded opened
recorded_bytes_mean_the_same = (refl, refl)

-- bytes that are no record are a field
no_record : List ℕ
no_record =
    0x4D ∷ 0x4D ∷ 0 ∷ 0x2A ∷ 0 ∷ 0 ∷ 0 ∷ 8 ∷ 0 ∷ 1 ∷ 0x83 ∷ 0xBB ∷ 0 ∷ 7 ∷ 0 ∷ 0 ∷ 0 ∷ 5 ∷ 0 ∷ 0 ∷ 0 ∷ 0x1A ∷ 0 ∷ 0 ∷ 0 ∷ 0 ∷ 0x1C ∷ 2 ∷
    0x78 ∷ 0x80 ∷ 0 ∷ 0 ∷ []

no_record_means : (first_fault no_record ≡ None) ×
    (meaning no_record Most ≡ main_only ((
      0x83BB,
      record {
        kind = Of Undefined;
        elements = element.Byte 0x1C ∷ element.Byte
            2 ∷ element.Byte 0x78 ∷ element.Byte 0x80 ∷ element.Byte 0 ∷ [];
      },
    ) ∷ []))
unfolding first_fault main_only no_record opened
no_record_means = (refl, refl)

-- and so are LONGs
record_as_longs : List ℕ
record_as_longs =
    0x4D ∷ 0x4D ∷ 0 ∷ 0x2A ∷ 0 ∷ 0 ∷ 0 ∷ 8 ∷ 0 ∷ 1 ∷ 0x83 ∷ 0xBB ∷ 0 ∷ 4 ∷ 0 ∷ 0 ∷ 0 ∷ 2 ∷ 0 ∷ 0 ∷ 0 ∷ 0x1A ∷ 0 ∷ 0 ∷ 0 ∷ 0 ∷ 0x1C ∷ 2 ∷
    0x78 ∷ 0 ∷ 3 ∷ 0x61 ∷ 0x62 ∷ 0x63 ∷ []

record_as_longs_means : (first_fault record_as_longs ≡ None) ×
    (meaning record_as_longs Most ≡ main_only ((
      0x83BB,
      record {
        kind = Of Long;
        elements = element.Long 469923840 ∷ element.Long
            56713827 ∷ [];
      },
    ) ∷ []))
unfolding first_fault main_only record_as_longs opened
record_as_longs_means = (refl, refl)

-- ---- standing faults

-- the main directory's next offset is its own
loop_is_fault : ExifFault next_to_main Loop 22
unfolding next_to_main opened
loop_is_fault = (Most, Thumb, Main, 8, ((lit≤ tt, refl), refl), ((lit≤ tt, refl), refl), lit≤ tt, refl)

-- the second resolution shares its first byte with the first
overlap_is_fault : ExifFault one_for_both Overlap 22
unfolding one_for_both opened
overlap_is_fault = (
  Most,
  2,
  3,
  10,
  range 38 8,
  range 38 8,
  38,
  (lit≤ tt, refl),
  lit≤ tt,
  refl,
  refl,
  lit≤ tt,
  lit≤ tt,
  (lit≤ tt, lit≤ tt),
  (lit≤ tt, lit≤ tt),
)

-- a later fault is a fault too: here the tags descend, which is the first, and the type of the second entry is unknown
unknown_is_fault : ExifFault falling_unknown UnknownType 22
unfolding falling_unknown opened
unknown_is_fault = (
  Most,
  Main,
  1,
  record { tag = 0x0100; code = 13; count = 1; last = 0 ∷ 1 ∷ 0 ∷ 0 ∷ [] },
  (8, ((lit≤ tt, refl), refl), refl, refl),
  refl,
)
