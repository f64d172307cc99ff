-- Why the blocks of a picture, or their meanings, are not read.
use Rattle.std.specs.Prelude.{◌≡◌, ◌⊎◌, ◌<◌, ◌≤◌, ◌+◌, ℕ, List, ◌∷◌, ◌++◌, length, Result, Ok, Err}
use Rattle.px_bytes.specs.declared.Cause.{Cause}
use Rattle.px_bytes.specs.Allocations.{MemoryCounts}
use Rattle.px_bytes.specs.Parts.{limit}
use Rattle.px_iim.specs.Check.{FirstIimFault, IimFault}
use Rattle.px_iim.specs.Group.{Record}
use Rattle.px_iim.specs.Record.{SaysIim}
use Rattle.px_jpeg.specs.declared.Part.{Part}
use Rattle.px_jpeg.specs.Fault.{HasHeadFault}
use Rattle.px_jpeg.specs.Head.{HasHead}
use Rattle.px_meaning.specs.Tree.{Meaning}
use Rattle.px_meaning.specs.Says.{SaysExif}
use Rattle.px_tree.specs.Refused.{IsFaultyExif}
use Rattle.px_pictures.specs.declared.faults.MetadataKind.TheVariants as kind
use Rattle.px_pictures.specs.declared.faults.MetadataFault.{MetadataFault}
use Rattle.px_pictures.specs.declared.faults.MetadataFault.TheVariants.{Head, TooLong, Block, OutOfMemory}
use Rattle.px_pictures.specs.declared.faults.PictureFault.{PictureFault}
use Rattle.px_pictures.specs.declared.faults.PictureSide.{PictureSide}
use Rattle.px_pictures.specs.declared.faults.PictureSide.TheVariants.{First, Second}
use Rattle.px_pictures.specs.Metadata.{Blocks, HasBlocks, MeanAll, joined_size, most_joined}

-- the IPTC block x has this first fault, at an offset of at most the limit, and no meaning
pub record IsFaultyIptc (x : List ℕ) (cause : Cause) (place : ℕ) : Type 0 where
  pub first : FirstIimFault x cause place
  pub is_fault : IimFault x cause place
  pub bounded : place ≤ limit
  pub no_meaning : (i : Record) → SaysIim x i → ⊥

-- each of the Exif blocks has a meaning
abbrev pub AllExif : List (List ℕ) → Type 0
AllExif bs = (ms : List Meaning) × MeanAll SaysExif bs ms

-- each of the IPTC blocks has a meaning, a record of DataSets
abbrev pub AllIptc : List (List ℕ) → Type 0
AllIptc bs = (is : List Record) × MeanAll SaysIim bs is

-- each block of a picture, of both kinds, has a meaning
abbrev pub AllRead : Blocks → Type 0
AllRead x = AllExif x.exif × AllIptc x.iptc

-- the block with n others before it is faulty, and those have meanings
pub record FaultAt (AllHaveMeaning : List (List ℕ) → Type 0) (IsFaulty : List ℕ → Cause → ℕ → Type 0) (bs : List (List ℕ)) (n : ℕ)
    (cause : Cause) (place : ℕ) : Type 0 where
  pub before : List (List ℕ)
  pub block : List ℕ
  pub after : List (List ℕ)
  pub whole : bs ≡ before ++ block ∷ after
  pub number : n ≡ length before
  pub meaning : AllHaveMeaning before
  pub faulty : IsFaulty block cause place

-- ---- the first fault

-- there is no head, and this is its first fault; or too many bytes are joined; or an allocation failed
abbrev pub IsHeadFault : List ℕ → ℕ → MetadataFault → Type 0
IsHeadFault b refused (Head e) = HasHeadFault b e.cause e.place
IsHeadFault b refused TooLong = (parts : List Part) × HasHead b parts × (most_joined < joined_size b parts)
IsHeadFault b refused OutOfMemory = 0 < refused
IsHeadFault b refused (Block k n c p) = ⊥

-- a block is faulty: the Exif blocks are read before the IPTC blocks; or an allocation failed
abbrev pub IsBlockFault : Blocks → ℕ → MetadataFault → Type 0
IsBlockFault x refused (Block kind.Exif n c p) = FaultAt AllExif IsFaultyExif x.exif n c p
IsBlockFault x refused (Block kind.Iptc n c p) = AllExif x.exif × FaultAt AllIptc IsFaultyIptc x.iptc n c p
IsBlockFault x refused OutOfMemory = 0 < refused
IsBlockFault x refused (Head e) = ⊥
IsBlockFault x refused TooLong = ⊥

-- of two pictures first both heads are read, then the blocks of the first and those of the second
abbrev pub IsFaultOf : PictureSide → List ℕ → List ℕ → ℕ → MetadataFault → Type 0
IsFaultOf First f g refused e =
    IsHeadFault f refused e ⊎ ((x y : Blocks) × HasBlocks f x × HasBlocks g y × IsBlockFault x refused e)
IsFaultOf Second f g refused e =
    ((x : Blocks) × HasBlocks f x × IsHeadFault g refused e)
    ⊎ ((x y : Blocks) × HasBlocks f x × HasBlocks g y × AllRead x × IsBlockFault y refused e)

-- the first fault of two pictures
abbrev pub IsPictureFault : List ℕ → List ℕ → ℕ → PictureFault → Type 0
IsPictureFault f g refused e = IsFaultOf e.side f g refused e.fault

-- ---- counts of failed allocations, before a call and after it

-- the number of failed allocations rose by one exactly if that is the fault
abbrev pub CountsAllocFailureOfFault : MetadataFault → ℕ → ℕ → Type 0
CountsAllocFailureOfFault OutOfMemory old new = new ≡ old + 1
CountsAllocFailureOfFault fault old new = new ≡ old

-- the same of a call's result: one that is no fault leaves the number as it was
abbrev pub CountsAllocFailureInMetadataBy : {A : Type 0} → Result A MetadataFault → ℕ → ℕ → Type 0
CountsAllocFailureInMetadataBy (Ok x) old new = new ≡ old
CountsAllocFailureInMetadataBy (Err e) old new = CountsAllocFailureOfFault e old new

-- the same of a fault of one of two pictures
abbrev pub CountsAllocFailureInPictureBy : {A : Type 0} → Result A PictureFault → ℕ → ℕ → Type 0
CountsAllocFailureInPictureBy (Ok x) old new = new ≡ old
CountsAllocFailureInPictureBy (Err e) old new = CountsAllocFailureOfFault e.fault old new

-- the same, with the counts of a memory
abbrev pub CountsAllocFailureInMetadata : {A : Type 0} → Result A MetadataFault → MemoryCounts → MemoryCounts → Type 0
CountsAllocFailureInMetadata r old new = CountsAllocFailureInMetadataBy r old.failed_allocations new.failed_allocations

-- the same for two pictures, with the counts of a memory
abbrev pub CountsAllocFailureInPicture : {A : Type 0} → Result A PictureFault → MemoryCounts → MemoryCounts → Type 0
CountsAllocFailureInPicture r old new = CountsAllocFailureInPictureBy r old.failed_allocations new.failed_allocations
