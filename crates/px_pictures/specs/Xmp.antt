-- What a picture contains beside its packets of XMP that ExifTool reads as XMP too. XMP part 3, 1.1.3: a packet is in a segment APP1 with
-- its own mark; and Adobe Photoshop File Formats Specification, "Image Resource IDs": resource 0x0424 has XMP.
use Rattle.std.specs.Prelude.{◌≡◌, ◌==◌, ◌&&◌, ◌||◌, ℕ, nat_lt, nat_eq, Bool, false, if◌then◌else◌, Option, Some, None, List, [], ◌∷◌}
use Rattle.std.specs.List.{starts_with}
use Rattle.px_jpeg.specs.declared.HeadPart.{HeadPart}
use Rattle.px_jpeg.specs.declared.SegmentKind.{SegmentKind}
use Rattle.px_jpeg.specs.declared.SegmentKind.TheVariants.{Photoshop}
use Rattle.px_jpeg.specs.declared.Part.{Part}
use Rattle.px_jpeg.specs.declared.Piece.{Piece}
use Rattle.px_jpeg.specs.declared.Resource.{Resource}
use Rattle.px_jpeg.specs.Head.{HasHead}
use Rattle.px_jpeg.specs.Pieces.{range, with_pieces}
use Rattle.px_jpeg.specs.ResourceReading.{resources_of}
use Rattle.px_pictures.specs.declared.places.BlockPlace.{BlockPlace}
use Rattle.px_pictures.specs.declared.unread.Unread.{Unread}
use Rattle.px_pictures.specs.Places.{joined_bytes, ArePlaces}
use Rattle.px_pictures.specs.Unread.{octets_at, or_else, unread_at}

-- ---- segments

-- a list begins at some place in the bytes x
abbrev pub has_part : List ℕ → List ℕ → Bool
has_part w [] = false
has_part w (o ∷ x) = starts_with nat_eq (o ∷ x) w || has_part w x

-- the data begin with 'http', or with 'XMP' and a zero
unfoldable pub begins_as_xmp : List ℕ → Bool
begins_as_xmp x = starts_with nat_eq x (104 ∷ 116 ∷ 116 ∷ 112 ∷ []) || starts_with nat_eq x (88 ∷ 77 ∷ 80 ∷ 0 ∷ [])

-- they have '<?xpacket' or '<exif:'
unfoldable pub has_mark_of_xmp : List ℕ → Bool
has_mark_of_xmp x =
    has_part (60 ∷ 63 ∷ 120 ∷ 112 ∷ 97 ∷ 99 ∷ 107 ∷ 101 ∷ 116 ∷ []) x || has_part (60 ∷ 101 ∷ 120 ∷ 105 ∷ 102 ∷ 58 ∷ []) x

-- APP1, E1, that ExifTool reads as XMP by another mark
abbrev pub may_have_xmp : ℕ → List ℕ → Bool
may_have_xmp code x = (code == 225) && (begins_as_xmp x || has_mark_of_xmp x)

-- a segment in which there is no piece of a block
abbrev pub is_unread_xmp : Option Piece → ℕ → List ℕ → Bool
is_unread_xmp (Some p) code x = false
is_unread_xmp None code x = may_have_xmp code x

-- the offset of the data of the first segment without a piece of a block that may have XMP
abbrev pub xmp_segment : List ℕ → List HeadPart → Option ℕ
xmp_segment b [] = None
xmp_segment b (h ∷ hs) =
    if is_unread_xmp h.piece h.part.code (range b h.part.start h.part.size) then Some h.part.start else xmp_segment b hs

-- ---- resources

-- resource 0x0424 with any data
abbrev pub has_xmp : Resource → Bool
has_xmp r = (r.number == 1060) && nat_lt 0 r.size

-- the offset of the data of the first resource 0x0424 with any data
abbrev pub xmp_resource : List Resource → Option ℕ
xmp_resource [] = None
xmp_resource (r ∷ rs) = if has_xmp r then Some r.start else xmp_resource rs

-- the place in a block p with the bytes x at which a resource 0x0424 has its data; None: the block
-- has none
abbrev pub xmp_in_block : SegmentKind → List ℕ → BlockPlace → Option Unread
xmp_in_block Photoshop x p = unread_at p.joined p.start (xmp_resource (resources_of 0 x))
xmp_in_block other x p = None

-- the first place in these blocks of the picture b at which a resource 0x0424 has its data; `all`
-- are the joined bytes
abbrev pub xmp_in_blocks : List ℕ → List ℕ → List BlockPlace → Option Unread
xmp_in_blocks b all [] = None
xmp_in_blocks b all (p ∷ ps) = or_else (xmp_in_block p.kind (octets_at b all p) p) (xmp_in_blocks b all ps)

-- ---- pictures

-- The picture b has a head, and this is the first such place: of segments, or else of Photoshop's resources. None: there is none.
abbrev pub IsOtherXmp : List ℕ → Option Unread → Type 0
IsOtherXmp b u = (parts : List Part) × (places : List BlockPlace) × HasHead b parts × ArePlaces b parts places
    × (u ≡ or_else (unread_at false 0 (xmp_segment b (with_pieces b None parts))) (xmp_in_blocks b (joined_bytes b parts) places))
