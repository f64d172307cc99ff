-- What the calls for JPEG pictures return, and what they store for their caller.
use Rattle.std.specs.Prelude.{◌≡◌, ◌⊎◌, ◌≤◌, ◌<◌, ◌++◌, ℕ, if◌then◌else◌, Option, Some, None, List, length, map, drop}
use Rattle.px_jpeg.specs.declared.contents.HeadPart.{HeadPart}
use Rattle.px_jpeg.specs.declared.faults.HeadCause.{HeadCause}
use Rattle.px_jpeg.specs.declared.faults.HeadCause.TheVariants.{NoStart, NoMarker, LengthForm, HeadCut}
use Rattle.px_jpeg.specs.declared.parts.Part.{Part}
use Rattle.px_jpeg.specs.declared.pieces.SegmentKind.{SegmentKind}
use Rattle.px_jpeg.specs.declared.pieces.SegmentKind.TheVariants.{Exif, Photoshop, Xmp, ExtendedXmp}
use Rattle.px_jpeg.specs.declared.pieces.Piece.{Piece}
use Rattle.px_jpeg.specs.declared.resources.Resource.{Resource}
use Rattle.px_jpeg.specs.Fault.{FaultAfter}
use Rattle.px_jpeg.specs.Head.{HasHead}
use Rattle.px_jpeg.specs.Pieces.{with_pieces}
use Rattle.px_jpeg.specs.Resources.{HasResources}
use Rattle.px_c.specs.declared.jpeg.ExifnormJpegFault.{ExifnormJpegFault}
use Rattle.px_c.specs.declared.jpeg.ExifnormJpegPart.{ExifnormJpegPart}
use Rattle.px_c.specs.declared.jpeg.ExifnormPhotoshopResource.{ExifnormPhotoshopResource}

-- the numbers of the causes; no cause of a block has one of them
abbrev pub head_cause : HeadCause → ℕ
head_cause NoStart = 101
head_cause NoMarker = 102
head_cause LengthForm = 103
head_cause HeadCut = 104

-- the numbers of the kinds; 0 is the kind of a part with no piece
abbrev pub piece_kind : SegmentKind → ℕ
piece_kind Exif = 1
piece_kind Photoshop = 2
piece_kind Xmp = 3
piece_kind ExtendedXmp = 4

-- a part as the caller of C sees it: the range is that of its piece, or of all its data
abbrev pub part_of : Part → Option Piece → ExifnormJpegPart
part_of q None = record { marker = q.code; kind = 0; begins = 0; start = q.start; size = q.size }
part_of q (Some p) = record {
  marker = q.code;
  kind = piece_kind p.kind;
  begins = if p.begins then 1 else 0;
  start = p.start;
  size = p.size;
}

-- a part of a head and its piece as the caller of C sees them
abbrev pub seen_part : HeadPart → ExifnormJpegPart
seen_part h = part_of h.part h.piece

-- these parts of the picture b as the caller of C sees them
abbrev pub seen_parts : List ℕ → List Part → List ExifnormJpegPart
seen_parts b parts = map seen_part (with_pieces b None parts)

-- one of Photoshop's image resources as the caller of C sees it
abbrev pub seen_resource : Resource → ExifnormPhotoshopResource
seen_resource r = record { number = r.number; start = r.start; size = r.size }

-- the caller's array begins with the items and is unchanged after them; n is their number
abbrev pub IsStored : {A : Type 0} → List A → ℕ → List A → List A → Type 0
IsStored items n old new = (n ≡ length items) × (length items ≤ length old) × (new ≡ items ++ drop (length items) old)

-- the caller's array is too short for the items, and unchanged; n is their number
abbrev pub IsShort : {A : Type 0} → List A → ℕ → List A → List A → Type 0
IsShort items n old new = (n ≡ length items) × (length old < length items) × (new ≡ old)

-- the parts of the picture's head are stored
abbrev pub StoresHead : List ℕ → ℕ → List ExifnormJpegPart → List ExifnormJpegPart → Type 0
StoresHead b n old new = (parts : List Part) × HasHead b parts × IsStored (seen_parts b parts) n old new

-- the head has this first fault, and the parts before it are stored
abbrev pub StoresFront : List ℕ → ExifnormJpegFault → ℕ → List ExifnormJpegPart → List ExifnormJpegPart → Type 0
StoresFront b fault n old new = (parts : List Part) × (cause : HeadCause) × (fault.cause ≡ head_cause cause)
    × FaultAfter b parts cause fault.place × IsStored (seen_parts b parts) n old new

-- the array is too short for the parts of the head, or for those before its first fault
abbrev pub IsTooShort : List ℕ → ℕ → List ExifnormJpegPart → List ExifnormJpegPart → Type 0
IsTooShort b n old new = (parts : List Part) × (HasHead b parts ⊎ ((cause : HeadCause) × (p : ℕ) × FaultAfter b parts cause p))
    × IsShort (seen_parts b parts) n old new

-- the resources at the start of the bytes are stored
abbrev pub StoresResources : List ℕ → ℕ → List ExifnormPhotoshopResource → List ExifnormPhotoshopResource → Type 0
StoresResources b n old new = (rs : List Resource) × (rest : List ℕ) × HasResources b rs rest × IsStored (map seen_resource rs) n old new

-- the array is too short for the resources
abbrev pub IsTooShortForResources : List ℕ → ℕ → List ExifnormPhotoshopResource → List ExifnormPhotoshopResource → Type 0
IsTooShortForResources b n old new =
    (rs : List Resource) × (rest : List ℕ) × HasResources b rs rest × IsShort (map seen_resource rs) n old new
