-- The blocks of Exif and of IPTC in a picture with this head.
use Rattle.std.specs.Prelude.{◌==◌, ℕ, if◌then◌else◌, Option, Some, None, List, [], ◌∷◌, ◌++◌, filter_map, flat_map}
use Rattle.px_jpeg.specs.declared.parts.Part.{Part}
use Rattle.px_jpeg.specs.declared.pieces.SegmentKind.{SegmentKind}
use Rattle.px_jpeg.specs.declared.pieces.SegmentKind.TheVariants.{Exif, Photoshop}
use Rattle.px_jpeg.specs.declared.pieces.Piece.{Piece}
use Rattle.px_jpeg.specs.Pieces.{range, pieces}
use Rattle.px_jpeg.specs.ResourceReading.{resources_of}

-- one or more pieces, joined
pub record JoinedBlock : Type 0 where
  pub kind : SegmentKind
  pub octets : List ℕ

-- the bytes of a piece p of the picture b
abbrev pub piece_octets : List ℕ → Piece → List ℕ
piece_octets b p = range b p.start p.size

-- the bytes of the pieces that continue a block before them, and the blocks that begin in them
unfoldable pub joined : List ℕ → List Piece → List ℕ × List JoinedBlock
joined b [] = ([], [])
joined b (p ∷ ps) =
    if p.begins
    then ([], record { kind = p.kind; octets = piece_octets b p ++ (joined b ps).0 } ∷ (joined b ps).1)
    else (piece_octets b p ++ (joined b ps).0, (joined b ps).1)

-- all blocks of the picture b with these parts, in order: the pieces of each are joined
abbrev pub blocks : List ℕ → List Part → List JoinedBlock
blocks b parts = (joined b (pieces b None parts)).1

-- the bytes of a block that is Exif; None: it is of another kind
abbrev pub exif_in : JoinedBlock → Option (List ℕ)
exif_in k = exif_of k.kind
  where
    exif_of : SegmentKind → Option (List ℕ)
    exif_of Exif = Some k.octets
    exif_of other = None

-- the Exif blocks, in order
abbrev pub exif_blocks : List ℕ → List Part → List (List ℕ)
exif_blocks b parts = filter_map exif_in (blocks b parts)

-- the data of the resources of number 0x0404
abbrev pub iptc_in : JoinedBlock → List (List ℕ)
iptc_in k = iptc_of k.kind
  where
    iptc_of : SegmentKind → List (List ℕ)
    iptc_of Photoshop = filter_map (λ r. if r.number == 1028 then Some (range k.octets r.start r.size) else None) (resources_of 0 k.octets)
    iptc_of other = []

-- the IPTC blocks, in order
abbrev pub iptc_blocks : List ℕ → List Part → List (List ℕ)
iptc_blocks b parts = flat_map iptc_in (blocks b parts)
