-- What a picture contains beside its blocks that other programs read as metadata, or may: a comparison of blocks doesn't see it.
use Rattle.std.specs.Prelude.{◌≡◌, ◌+◌, ◌%◌, ◌==◌, ◌&&◌, ◌||◌, ℕ, nat_le, nat_lt, Bool, true, false, if◌then◌else◌}
use Rattle.std.specs.Prelude.{Option, Some, None, List, [], ◌∷◌, length, drop, nat_eq, slice_index}
use Rattle.std.specs.List.{starts_with}
use Rattle.px_jpeg.specs.declared.HeadPart.{HeadPart}
use Rattle.px_jpeg.specs.declared.SegmentKind.{SegmentKind}
use Rattle.px_jpeg.specs.declared.SegmentKind.TheVariants.{Photoshop}
use Rattle.px_jpeg.specs.declared.Part.{Part}
use Rattle.px_jpeg.specs.declared.Piece.{Piece}
use Rattle.px_jpeg.specs.declared.Resource.{Resource}
use Rattle.px_jpeg.specs.Head.{HasHead}
use Rattle.px_jpeg.specs.Pieces.{range, with_pieces}
use Rattle.px_jpeg.specs.ResourceReading.{resources_of}
use Rattle.px_pictures.specs.declared.places.BlockPlace.{BlockPlace}
use Rattle.px_pictures.specs.declared.unread.Unread.{Unread}
use Rattle.px_pictures.specs.Places.{joined_bytes, ArePlaces}

-- ---- segments

-- the byte is this letter, in either case
abbrev pub is_letter : ℕ → ℕ → ℕ → Bool
is_letter upper lower o = (o == upper) || (o == lower)

-- 'Exif' in any case and a zero are at index k, and one more byte follows
unfoldable pub names_exif : ℕ → List ℕ → Bool
names_exif k x =
    nat_le (k + 6) (length x) && is_letter 69 101 (slice_index x k) && is_letter 88 120 (slice_index x (k + 1))
    && is_letter 73 105 (slice_index x (k + 2)) && is_letter 70 102 (slice_index x (k + 3)) && (slice_index x (k + 4) == 0)

-- so begin the data of APP1 that other programs read as Exif: at most four bytes come before that name
unfoldable pub seems_exif : List ℕ → Bool
seems_exif x = names_exif 0 x || names_exif 1 x || names_exif 2 x || names_exif 3 x || names_exif 4 x

-- 'Adobe_CM': so begin the data of APP13 that are Adobe's colour model, which no program reads as Exif or IPTC
unfoldable pub is_colour_model : List ℕ → Bool
is_colour_model x = starts_with nat_eq x (65 ∷ 100 ∷ 111 ∷ 98 ∷ 101 ∷ 95 ∷ 67 ∷ 77 ∷ [])

-- APP1, E1, that seems to be Exif, or APP13, ED, with any data but the colour model
unfoldable pub may_have_metadata : ℕ → List ℕ → Bool
may_have_metadata code x =
    ((code == 225) && seems_exif x) || ((code == 237) && nat_lt 0 (length x) && (if is_colour_model x then false else true))

-- a segment in which there is no piece of a block
abbrev pub is_unread : Option Piece → ℕ → List ℕ → Bool
is_unread (Some p) code x = false
is_unread None code x = may_have_metadata code x

-- the offset of the data of the first segment without a piece of a block that may have metadata
abbrev pub unread_segment : List ℕ → List HeadPart → Option ℕ
unread_segment b [] = None
unread_segment b (h ∷ hs) =
    if is_unread h.piece h.part.code (range b h.part.start h.part.size) then Some h.part.start else unread_segment b hs

-- ---- resources

-- the signature '8BIM', which is Adobe's
unfoldable pub is_adobe : List ℕ → Bool
is_adobe s = starts_with nat_eq s (56 ∷ 66 ∷ 73 ∷ 77 ∷ [])

-- Photoshop's resource 0x0422 has Exif, which isn't read; and IPTC by another signature than Adobe's is read by this comparison, and by
-- some other programs alone. The resource begins with the four bytes s.
unfoldable pub is_doubtful : List ℕ → Resource → Bool
is_doubtful s r = ((r.number == 1058) || ((r.number == 1028) && (if is_adobe s then false else true))) && nat_lt 0 r.size

-- each byte is zero
abbrev pub are_zeros : List ℕ → Bool
are_zeros [] = true
are_zeros (o ∷ x) = (o == 0) && are_zeros x

-- what follows the last resource, unless all of it is zeros
abbrev pub unread_rest : List ℕ → ℕ → Option ℕ
unread_rest x at = if are_zeros (drop at x) then None else Some at

-- the offset of the data of the first doubtful resource, or else of that rest; the resources rs begin at an offset in the bytes x
abbrev pub unread_from : List ℕ → ℕ → List Resource → Option ℕ
unread_from x at [] = unread_rest x at
unread_from x at (r ∷ rs) =
    if is_doubtful (range x at 4) r then Some r.start else unread_from x (r.start + r.size + r.size % 2) rs

-- the offset in the bytes x of Photoshop's resources at which something is that isn't read
abbrev pub unread_resources : List ℕ → Option ℕ
unread_resources x = unread_from x 0 (resources_of 0 x)

-- ---- pictures

-- the bytes of a block
abbrev pub octets_at : List ℕ → List ℕ → BlockPlace → List ℕ
octets_at b all p = range (if p.joined then all else b) p.start p.size

-- the place at an offset from `start` on, in the joined bytes or in the picture;
-- None: there is no offset
abbrev pub unread_at : Bool → ℕ → Option ℕ → Option Unread
unread_at joined start None = None
unread_at joined start (Some at) = Some (record { joined = joined; start = start + at })

-- the place in a block p with the bytes x from which on something isn't read: only in Photoshop's
-- resources
abbrev pub unread_in_block : SegmentKind → List ℕ → BlockPlace → Option Unread
unread_in_block Photoshop x p = unread_at p.joined p.start (unread_resources x)
unread_in_block other x p = None

-- the first place, or the other if there is none
abbrev pub or_else : Option Unread → Option Unread → Option Unread
or_else (Some u) other = Some u
or_else None other = other

-- the first place in these blocks of the picture b that isn't read; `all` are the joined bytes
abbrev pub unread_in_blocks : List ℕ → List ℕ → List BlockPlace → Option Unread
unread_in_blocks b all [] = None
unread_in_blocks b all (p ∷ ps) = or_else (unread_in_block p.kind (octets_at b all p) p) (unread_in_blocks b all ps)

-- The picture b has a head, and this is the first place that isn't read: of segments, or else of Photoshop's resources. None: there is no
-- such place.
abbrev pub IsUnread : List ℕ → Option Unread → Type 0
IsUnread b u = (parts : List Part) × (places : List BlockPlace) × HasHead b parts × ArePlaces b parts places
    × (u ≡ or_else (unread_at false 0 (unread_segment b (with_pieces b None parts))) (unread_in_blocks b (joined_bytes b parts) places))
