-- The laws of the definitions.
use Rattle.std.specs.Prelude.{◌≡◌, ◌⊎◌, ◌↔◌, ◌≢◌, ◌<◌, ◌+◌, ◌++◌, ℕ, ⊤, false, List, [], ◌∷◌, Some, None, filter_map, flat_map, take}
use Rattle.std.specs.List.{AllByRecursion}
use Rattle.px_jpeg.specs.declared.parts.Part.{Part}
use Rattle.px_jpeg.specs.declared.contents.HeadPart.{HeadPart}
use Rattle.px_jpeg.specs.declared.faults.HeadCause.{HeadCause}
use Rattle.px_jpeg.specs.declared.faults.HeadCause.TheVariants.{NoStart, NoMarker, LengthForm}
use Rattle.px_jpeg.specs.Head.{HasHead}
use Rattle.px_jpeg.specs.Fault.{SplitAt, HasHeadFault, FaultAfter}
use Rattle.px_jpeg.specs.Front.{EndedBefore}
use Rattle.px_jpeg.specs.Reading.{head_of}
use Rattle.px_jpeg.specs.declared.resources.Resource.{Resource}
use Rattle.px_jpeg.specs.Resources.{HasResources}
use Rattle.px_jpeg.specs.declared.packets.FoundXmp.TheVariants.{Absent, Packet}
use Rattle.px_jpeg.specs.Pieces.{xmp_mark, is_xmp, is_extended, range, pieces, with_pieces}
use Rattle.px_jpeg.specs.Xmp.{xmp_of}
use Rattle.px_jpeg.specs.declared.pieces.SegmentKind.TheVariants.{Photoshop}
use Rattle.px_jpeg.specs.Blocks.{JoinedBlock, piece_octets, blocks}

-- The parts of a head can be computed.
abbrev pub Computes : Type 0
Computes = (b : List ℕ) (parts : List Part) → HasHead b parts ↔ (head_of b ≡ Some parts)

-- Bytes have at most one head.
abbrev pub OneHead : Type 0
OneHead = (b : List ℕ) (parts others : List Part) → HasHead b parts → HasHead b others → parts ≡ others

-- Bytes with a fault have no head, and there is at most one first fault.
abbrev pub FaultsDecide : Type 0
FaultsDecide = ((b : List ℕ) (c : HeadCause) (p : ℕ) (parts : List Part) → HasHeadFault b c p → HasHead b parts → ⊥)
    × ((b : List ℕ) (c d : HeadCause) (p r : ℕ) → HasHeadFault b c p → HasHeadFault b d r → (c ≡ d) × (p ≡ r))

-- Bytes have a head or a first fault.
abbrev pub IsHeadOrFault : List ℕ → Type 0
IsHeadOrFault b = ((parts : List Part) × HasHead b parts) ⊎ ((c : HeadCause) × (p : ℕ) × HasHeadFault b c p)

-- Bytes can be cut into resources and a rest in only one way.
abbrev pub OneCut : Type 0
OneCut = (x : List ℕ) (rs qs : List Resource) (rest more : List ℕ) → HasResources x rs rest → HasResources x qs more
    → (rs ≡ qs) × (rest ≡ more)

-- A file's first bytes are enough: their head is the file's, and so is a first fault that is
-- NoMarker or LengthForm.
abbrev pub FrontServes : Type 0
FrontServes = ((b more : List ℕ) (parts : List Part) → HasHead b parts → HasHead (b ++ more) parts)
    × ((b more : List ℕ) (p : ℕ) → HasHeadFault b NoMarker p → HasHeadFault (b ++ more) NoMarker p)
    × ((b more : List ℕ) (p : ℕ) → HasHeadFault b LengthForm p → HasHeadFault (b ++ more) LengthForm p)

-- The blocks have exactly the bytes of the pieces, in order.
abbrev pub BlocksJoin : Type 0
BlocksJoin = (b : List ℕ) (parts : List Part) → flat_map (λ k. k.octets) (blocks b parts) ≡ flat_map (piece_octets b) (pieces b None parts)

-- The pieces of some parts are those that the parts have one by one.
abbrev pub PiecesFound : Type 0
PiecesFound = (b : List ℕ) (parts : List Part) → filter_map (λ (h : HeadPart). h.piece) (with_pieces b None parts) ≡ pieces b None parts

-- the end mark, FF D9, at offset p
abbrev pub end_mark : ℕ → Part
end_mark p = record { code = 217; start = p + 2; size = 0 }

-- What stands before a fault can be read: with an end mark in place of the rest, the bytes are a head of the parts before the fault.
abbrev pub FaultServes : Type 0
FaultServes = (b : List ℕ) (c : HeadCause) (p : ℕ) → c ≢ NoStart → HasHeadFault b c p
    → (parts : List Part) × (rest : List ℕ) × SplitAt b parts rest p
    × HasHead (take p b ++ 255 ∷ 217 ∷ []) (parts ++ end_mark p ∷ [])

-- the block k is l or, if both are Photoshop's resources, l has more bytes behind those of k
abbrev pub MayGrow : JoinedBlock → JoinedBlock → Type 0
MayGrow k l = (k ≡ l) ⊎ ((k.kind ≡ Photoshop) × (l.kind ≡ Photoshop) × ((more : List ℕ) × (l.octets ≡ k.octets ++ more)))

-- the blocks ks are the first of ls; only the last of ks may have more bytes there
abbrev pub AreFirst : List JoinedBlock → List JoinedBlock → Type 0
AreFirst [] ls = ⊤
AreFirst (k ∷ ks) [] = ⊥
AreFirst (k ∷ []) (l ∷ ls) = MayGrow k l
AreFirst (k ∷ j ∷ ks) (l ∷ ls) = (k ≡ l) × AreFirst (j ∷ ks) ls

-- the part q of the picture b is no segment with a packet of XMP or a piece of extended XMP
abbrev pub HasNoXmp : List ℕ → Part → Type 0
HasNoXmp b q = (is_xmp q.code (range b q.start q.size) ≡ false) × (is_extended q.code (range b q.start q.size) ≡ false)

-- XMP part 3, 1.1.3: the segment q of the picture b is APP1, E1, and its data are the mark of XMP and these bytes
abbrev pub IsPacket : List ℕ → Part → ℕ → ℕ → Type 0
IsPacket b q start size = (q.code ≡ 225) × (range b q.start q.size ≡ xmp_mark ++ range b start size)

-- If XMP is found, one segment has it, and no other has any. If it is absent, no segment has any.
abbrev pub XmpStands : Type 0
XmpStands = ((b : List ℕ) (parts : List Part) (start size : ℕ) → xmp_of b parts ≡ Packet start size
    → (before : List Part) × (q : Part) × (after : List Part) × (parts ≡ before ++ q ∷ after) × IsPacket b q start size
    × AllByRecursion (HasNoXmp b) before × AllByRecursion (HasNoXmp b) after)
    × ((b : List ℕ) (parts : List Part) → xmp_of b parts ≡ Absent → AllByRecursion (HasNoXmp b) parts)

-- these are the parts of the head or, if it has a fault, those before the first fault
abbrev pub AreParts : List ℕ → List Part → Type 0
AreParts b parts = HasHead b parts ⊎ ((c : HeadCause) × (p : ℕ) × FaultAfter b parts c p)

-- The blocks that end before a fault are the first of each picture that begins with these bytes.
abbrev pub EndedServe : Type 0
EndedServe = (b more : List ℕ) (c : HeadCause) (p : ℕ) (parts whole : List Part) → c ≢ NoStart → AllByRecursion (λ o. o < 256) more
    → EndedBefore b parts c p → AreParts (b ++ more) whole → AreFirst (blocks b parts) (blocks (b ++ more) whole)
