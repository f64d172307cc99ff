-- The XMP of a picture with this head. XMP part 3, 1.1.3: a packet is in one segment. 1.1.3.1: what doesn't fit is extended XMP.
use Rattle.std.specs.Prelude.{ℕ, Bool, true, false, if◌then◌else◌, None, List, [], ◌∷◌, filter}
use Rattle.px_jpeg.specs.declared.packets.FoundXmp.{FoundXmp}
use Rattle.px_jpeg.specs.declared.packets.FoundXmp.TheVariants.{Absent, Packet, NotRead}
use Rattle.px_jpeg.specs.declared.parts.Part.{Part}
use Rattle.px_jpeg.specs.declared.pieces.SegmentKind.{SegmentKind}
use Rattle.px_jpeg.specs.declared.pieces.SegmentKind.TheVariants.{Xmp, ExtendedXmp}
use Rattle.px_jpeg.specs.declared.pieces.Piece.{Piece}
use Rattle.px_jpeg.specs.Pieces.{pieces}

-- a packet, and no piece of extended XMP
abbrev pub is_packet : SegmentKind → Bool
is_packet Xmp = true
is_packet other = false

-- a packet, or a piece of extended XMP
abbrev pub is_of_xmp : SegmentKind → Bool
is_of_xmp Xmp = true
is_of_xmp ExtendedXmp = true
is_of_xmp other = false

-- the packets and the pieces of extended XMP, in order
abbrev pub xmp_pieces : List Piece → List Piece
xmp_pieces ps = filter (λ (p : Piece). is_of_xmp p.kind) ps

-- one packet with no other and with no extended XMP is read; otherwise the second of them isn't, or the first if it is extended XMP
abbrev pub found_in : List Piece → FoundXmp
found_in [] = Absent
found_in (p ∷ []) = if is_packet p.kind then Packet p.start p.size else NotRead p.start
found_in (p ∷ q ∷ ps) = if is_packet p.kind then NotRead q.start else NotRead p.start

-- the XMP of the picture b with these parts
abbrev pub xmp_of : List ℕ → List Part → FoundXmp
xmp_of b parts = found_in (xmp_pieces (pieces b None parts))
