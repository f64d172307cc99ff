-- What judging and comparing the blocks of pictures returns.
use Rattle.std.specs.Prelude.{◌≡◌, ◌≤◌, ◌<◌, ◌+◌, ◌^◌, ◌↔◌, ◌⊎◌, ℕ, Bool, true, false, IsTrue, Some, None, List, [], ◌∷◌, length, ⊤}
use Rattle.px_bytes.specs.Allocations.{MemoryCounts, AsksAtMost}
use Rattle.px_iim.specs.Record.{SaysIim}
use Rattle.px_jpeg.specs.Head.{Picture}
use Rattle.px_meaning.specs.Says.{SaysExif}
use Rattle.px_bytes.specs.declared.Refusal.{Refusal}
use Rattle.px_bytes.specs.declared.Refusal.TheVariants as refusal
use Rattle.px_tree.specs.Refused.{IsFaultyExif}
use Rattle.px_pictures.specs.declared.faults.MetadataKind.{MetadataKind}
use Rattle.px_pictures.specs.declared.faults.MetadataKind.TheVariants as kind
use Rattle.px_pictures.specs.declared.faults.Comparison.{Comparison}
use Rattle.px_pictures.specs.declared.faults.Comparison.TheVariants.{Same, Different, NotRead}
use Rattle.px_pictures.specs.declared.faults.MetadataFault.{MetadataFault}
use Rattle.px_pictures.specs.declared.faults.MetadataFault.TheVariants.{Head, TooLong, Block, OutOfMemory}
use Rattle.px_pictures.specs.declared.faults.PictureSide.{PictureSide}
use Rattle.px_pictures.specs.declared.faults.PictureSide.TheVariants.{First, Second}
use Rattle.px_pictures.specs.Asking.{join_request, blocks_request}
use Rattle.px_pictures.specs.Metadata.{Blocks, blocks_of, HasBlocks, MeanAll}
use Rattle.px_pictures.specs.Faults.{AllExif, AllIptc, AllRead, FaultAt, IsFaultyIptc, IsHeadFault, IsBlockFault}
use Rattle.px_pictures.specs.Unread.{IsUnread}

-- a refusal of the block of kind k with n of its kind before it, as a fault of the picture; an
-- allocation that failed is no block's
abbrev pub fault_of : MetadataKind → ℕ → Refusal → MetadataFault
fault_of k n (refusal.Content cause place) = Block k n cause place
fault_of k n refusal.OutOfMemory = OutOfMemory

-- one of the Exif blocks is faulty, or an allocation failed
abbrev pub ExifFails : List (List ℕ) → ℕ → MetadataFault → Type 0
ExifFails bs refused (Block kind.Exif n c p) = FaultAt AllExif IsFaultyExif bs n c p
ExifFails bs refused (Block kind.Iptc n c p) = ⊥
ExifFails bs refused OutOfMemory = 0 < refused
ExifFails bs refused (Head e) = ⊥
ExifFails bs refused TooLong = ⊥

-- one of the IPTC blocks is faulty
abbrev pub IptcFails : List (List ℕ) → MetadataFault → Type 0
IptcFails bs (Block kind.Iptc n c p) = FaultAt AllIptc IsFaultyIptc bs n c p
IptcFails bs (Block kind.Exif n c p) = ⊥
IptcFails bs OutOfMemory = ⊥
IptcFails bs (Head e) = ⊥
IptcFails bs TooLong = ⊥

-- there are so few blocks that their number fits
abbrev pub AreFew : List (List ℕ) → Type 0
AreFew bs = length bs < 2 ^ 63

-- both kinds of blocks are so few
abbrev pub IsFew : Blocks → Type 0
IsFew x = AreFew x.exif × AreFew x.iptc

-- two lists of blocks have the same meanings
abbrev pub MeanSame : {M : Type 0} → (List ℕ → M → Type 0) → List (List ℕ) → List (List ℕ) → Type 0
MeanSame {M} Says xs ys = (ms : List M) × MeanAll Says xs ms × MeanAll Says ys ms

-- as many blocks as both lists have mean the same, pair by pair
abbrev pub PairsMeanSame : {M : Type 0} → (List ℕ → M → Type 0) → List (List ℕ) → List (List ℕ) → Type 0
PairsMeanSame Says [] ys = ⊤
PairsMeanSame Says (x ∷ xs) [] = ⊤
PairsMeanSame {M} Says (x ∷ xs) (y ∷ ys) = ((m : M) × Says x m × Says y m) × PairsMeanSame Says xs ys

-- the blocks have meanings, and these are the same or not
abbrev pub AreSameBlocks : Blocks → Blocks → Bool → Type 0
AreSameBlocks x y same =
    AllRead x × AllRead y × (IsTrue same ↔ (MeanSame SaysExif x.exif y.exif × MeanSame SaysIim x.iptc y.iptc))

-- the blocks have meanings, and those of as many blocks as both have are the same or not
abbrev pub AreAlikeBlocks : Blocks → Blocks → Bool → Type 0
AreAlikeBlocks x y alike =
    AllRead x × AllRead y × (IsTrue alike ↔ (PairsMeanSame SaysExif x.exif y.exif × PairsMeanSame SaysIim x.iptc y.iptc))

-- the picture g has blocks, and `same` says whether they mean what the blocks x of the first
-- picture do
abbrev pub AreSameAsFirst : Blocks → List ℕ → Bool → Type 0
AreSameAsFirst x g same = (y : Blocks) × HasBlocks g y × AreSameBlocks x y same

-- the answer for two pictures, of which all blocks have meanings
abbrev pub AreCompared : Picture → Picture → Comparison → Type 0
AreCompared p q Different = AreAlikeBlocks (blocks_of p) (blocks_of q) false
    ⊎ (AreSameBlocks (blocks_of p) (blocks_of q) false × IsUnread p.octets None × IsUnread q.octets None)
AreCompared p q Same = AreSameBlocks (blocks_of p) (blocks_of q) true × IsUnread p.octets None × IsUnread q.octets None
AreCompared p q (NotRead First u) = AreAlikeBlocks (blocks_of p) (blocks_of q) true × IsUnread p.octets (Some u)
AreCompared p q (NotRead Second u) =
    AreAlikeBlocks (blocks_of p) (blocks_of q) true × IsUnread p.octets None × IsUnread q.octets (Some u)

-- the picture g has a head, and c is the answer for the picture p and g
abbrev pub IsComparedWith : Picture → List ℕ → Comparison → Type 0
IsComparedWith p g c = (q : Picture) × (q.octets ≡ g) × HasBlocks g (blocks_of q) × AreCompared p q c

-- a block of the first or of the second is faulty
abbrev pub BlocksFail : PictureSide → Blocks → Blocks → ℕ → MetadataFault → Type 0
BlocksFail First x y refused e = IsBlockFault x refused e
BlocksFail Second x y refused e = AllRead x × IsBlockFault y refused e

-- a block of the first picture or of the second, g, is faulty, or g has no head
abbrev pub SecondFails : PictureSide → Blocks → List ℕ → ℕ → MetadataFault → Type 0
SecondFails First x g refused e = (y : Blocks) × HasBlocks g y × IsBlockFault x refused e
SecondFails Second x g refused e = IsHeadFault g refused e ⊎ ((y : Blocks) × HasBlocks g y × AllRead x × IsBlockFault y refused e)

-- what the comparison requests after the first picture's head: `first` bytes for its blocks, and
-- for the second picture g what joining its pieces and reading its blocks need
abbrev pub AsksForSecond : ℕ → List ℕ → MemoryCounts → MemoryCounts → Type 0
AsksForSecond first g old new = (other : ℕ) → ((y : Blocks) → HasBlocks g y → blocks_request y ≤ other)
    → AsksAtMost (join_request (length g) + first + other) old new
