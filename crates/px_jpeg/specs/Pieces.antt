-- The parts of a head that contain Exif or Photoshop's image resources, and the blocks that they make up.
-- Example: an APP1 segment with the data 45 78 69 66 00 00 and a block has a piece of Exif, which is the block.
use Rattle.std.specs.Prelude.{◌≤◌, ◌+◌, ◌-◌, ◌==◌, ◌&&◌, ◌||◌, ℕ, Bool, true, false, if◌then◌else◌, nat_eq}
use Rattle.std.specs.Prelude.{Option, Some, None, List, [], ◌∷◌}
use Rattle.std.specs.Prelude.{◌++◌, codes, length, take, drop}
use Rattle.std.specs.List.{AllByRecursion, starts_with}
use Rattle.px_jpeg.specs.declared.parts.Part.{Part}
use Rattle.px_jpeg.specs.declared.pieces.SegmentKind.{SegmentKind}
use Rattle.px_jpeg.specs.declared.pieces.SegmentKind.TheVariants.{Exif, Photoshop, Xmp, ExtendedXmp}
use Rattle.px_jpeg.specs.declared.pieces.Piece.{Piece}
use Rattle.px_jpeg.specs.declared.contents.HeadPart.{HeadPart}

-- each part is in the bytes b
abbrev pub AllInside : List ℕ → List Part → Type 0
AllInside b qs = AllByRecursion (λ q. q.start + q.size ≤ length b) qs

-- CIPA DC-008, 4.7.2: the Exif of APP1 begins with 'Exif' and two zeros
abbrev pub exif_mark : List ℕ
exif_mark = codes "Exif" ++ 0 ∷ 0 ∷ []

-- Photoshop's image resources begin with this text and a zero
abbrev pub photoshop_mark : List ℕ
photoshop_mark = codes "Photoshop 3.0" ++ 0 ∷ []

-- XMP part 3, 1.1.3: a packet of XMP begins with this text and a zero
abbrev pub xmp_mark : List ℕ
xmp_mark = codes "http://ns.adobe.com/xap/1.0/" ++ 0 ∷ []

-- XMP part 3, 1.1.3.1: a piece of extended XMP begins with this text and a zero
abbrev pub extended_mark : List ℕ
extended_mark = codes "http://ns.adobe.com/xmp/extension/" ++ 0 ∷ []

-- a segment with this marker and these data begins with a mark
abbrev pub is_marked : ℕ → List ℕ → ℕ → List ℕ → Bool
is_marked marker mark code octets = (code == marker) && starts_with nat_eq octets mark

-- APP1, E1, whose data begin with Exif's mark
unfoldable pub is_exif : ℕ → List ℕ → Bool
is_exif = is_marked 225 exif_mark

-- APP13, ED, whose data begin with Photoshop's mark
unfoldable pub is_photoshop : ℕ → List ℕ → Bool
is_photoshop = is_marked 237 photoshop_mark

-- APP1, E1, whose data begin with the mark of a packet of XMP
unfoldable pub is_xmp : ℕ → List ℕ → Bool
is_xmp = is_marked 225 xmp_mark

-- APP1, E1, whose data begin with the mark of a piece of extended XMP
unfoldable pub is_extended : ℕ → List ℕ → Bool
is_extended = is_marked 225 extended_mark

-- what a segment with this marker and these data contains
unfoldable pub segment_kind : ℕ → List ℕ → Option SegmentKind
segment_kind code octets =
    if is_exif code octets then Some Exif
    else if is_photoshop code octets then Some Photoshop
    else if is_xmp code octets then Some Xmp
    else if is_extended code octets then Some ExtendedXmp
    else None

-- how many bytes each mark has, its zeros included: a piece begins after them
abbrev pub mark_len : SegmentKind → ℕ
mark_len Exif = 6
mark_len Photoshop = 14
mark_len Xmp = 29
mark_len ExtendedXmp = 35

-- 'II*' and a zero, or 'MM', a zero and '*'
unfoldable pub is_header : List ℕ → Bool
is_header octets = starts_with nat_eq octets (73 ∷ 73 ∷ 42 ∷ 0 ∷ []) || starts_with nat_eq octets (77 ∷ 77 ∷ 0 ∷ 42 ∷ [])

-- Exif without a header continues the Exif of the part before, and Photoshop's resources those of the part before; all else begins a block
abbrev pub begins : SegmentKind → Option SegmentKind → List ℕ → Bool
begins Exif (Some Exif) octets = is_header octets
begins Photoshop (Some Photoshop) octets = false
begins kind last octets = true

-- `size` bytes of b from the offset `start` on
abbrev pub range : List ℕ → ℕ → ℕ → List ℕ
range b start size = take size (drop start b)

-- the piece in part q, which has the kind k, after a part of the kind `last`: all data of the part
-- after its mark
abbrev pub piece_of : List ℕ → Part → SegmentKind → Option SegmentKind → Piece
piece_of b q k last = record {
  kind = k;
  begins = begins k last (range b (q.start + mark_len k) (q.size - mark_len k));
  start = q.start + mark_len k;
  size = q.size - mark_len k;
}

-- a part's piece, if it has a kind, after a part of the kind `last`
abbrev pub piece_in : List ℕ → Part → Option SegmentKind → Option SegmentKind → List Piece
piece_in b q last None = []
piece_in b q last (Some k) = piece_of b q k last ∷ []

-- the pieces of some parts, in order
abbrev pub pieces : List ℕ → Option SegmentKind → List Part → List Piece
pieces b last [] = []
pieces b last (q ∷ qs) =
    piece_in b q last (segment_kind q.code (range b q.start q.size)) ++ pieces b (segment_kind q.code (range b q.start q.size)) qs

-- a part with its piece, if it has a kind
abbrev pub head_part : List ℕ → Part → Option SegmentKind → Option SegmentKind → HeadPart
head_part b q last None = record { part = q; piece = None }
head_part b q last (Some k) = record { part = q; piece = Some (piece_of b q k last) }

-- some parts, in order, each with its piece
abbrev pub with_pieces : List ℕ → Option SegmentKind → List Part → List HeadPart
with_pieces b last [] = []
with_pieces b last (q ∷ qs) =
    head_part b q last (segment_kind q.code (range b q.start q.size)) ∷ with_pieces b (segment_kind q.code (range b q.start q.size)) qs
