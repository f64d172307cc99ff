-- The meaning of a file. A file is an Exif block, perhaps after the six bytes that precede one in the APP1 segment of a JPEG
-- file (CIPA DC-008, "Exif Identifier Code"), or a block of DataSets (IIM 4.2, chapter 1). How the two are distinguished is
-- this project's profile.
-- Example: 1C 02 78 00 03 61 62 63 is a block of DataSets. 45 78 69 66 00 00 and the block of the example in `Says` mean what that block
-- means alone.
use Rattle.std.specs.Prelude.{ℕ, nat_eq, Bool, if◌then◌else◌, List, [], ◌∷◌, drop}
use Rattle.std.specs.List.{starts_with}
use Rattle.px_bytes.specs.declared.Cause.{Cause}
use Rattle.px_iim.specs.Group.{Record, IsRecord}
use Rattle.px_iim.specs.Record.{SaysIim, normal_iim}
use Rattle.px_iim.specs.Check.{FirstIimFault, IimFault}
use Rattle.px_meaning.specs.Tree.{Meaning}
use Rattle.px_meaning.specs.Says.{SaysExif}
use Rattle.px_meaning.specs.Writable.{IsWritable}
use Rattle.px_tree.specs.Checks.{FirstExifFault}
use Rattle.px_tree.specs.Faults.{ExifFault}
use Rattle.px_layout.specs.Normal.{normal_exif}
use Rattle.px_engine.specs.declared.kind.BlockKind.{BlockKind}
use Rattle.px_engine.specs.declared.kind.BlockKind.TheVariants as kind

-- a meaning: a tree of directories, or a record
pub data Said : Type 0 where
  Exif : Meaning → Said
  Iim : Record → Said

-- ---- the block in a file

-- "Exif" and two zeros
abbrev pub prefix : List ℕ
prefix = 0x45 ∷ 0x78 ∷ 0x69 ∷ 0x66 ∷ 0 ∷ 0 ∷ []

-- the file begins with these six bytes
abbrev pub is_prefixed : List ℕ → Bool
is_prefixed f = starts_with nat_eq f prefix

-- the first byte is the tag marker of a DataSet
abbrev pub is_marked : List ℕ → Bool
is_marked f = starts_with nat_eq f (0x1C ∷ [])

-- the kind of block that a file is read as
unfoldable pub kind_of : List ℕ → BlockKind
kind_of f = if is_prefixed f then kind.Exif else if is_marked f then kind.Iim else kind.Exif

-- the block in a file: what follows the six bytes, or all
unfoldable pub block_of : List ℕ → List ℕ
block_of f = if is_prefixed f then drop 6 f else f

-- ---- its meaning

-- a block, read as this kind, has this meaning
abbrev pub MeansAs : BlockKind → List ℕ → Said → Type 0
MeansAs kind.Exif b (Exif m) = SaysExif b m
MeansAs kind.Iim b (Iim i) = SaysIim b i
MeansAs _ b s = ⊥

-- the block in the file, read as its kind, has this meaning
abbrev pub Says : List ℕ → Said → Type 0
Says f s = MeansAs (kind_of f) (block_of f) s

-- the kind of block that has this meaning
abbrev pub kind_of_meaning : Said → BlockKind
kind_of_meaning (Exif m) = kind.Exif
kind_of_meaning (Iim i) = kind.Iim

-- the tree fits, or the record is whole
abbrev pub CanBeWritten : Said → Type 0
CanBeWritten (Exif m) = IsWritable m
CanBeWritten (Iim i) = IsRecord i

-- the normal form
abbrev pub normal : Said → List ℕ
normal (Exif m) = normal_exif m
normal (Iim i) = normal_iim i

-- ---- its faults; byte offsets count from the block's first byte

-- the first fault of a block, by the checks of this kind
abbrev pub FirstIn : BlockKind → List ℕ → Cause → ℕ → Type 0
FirstIn kind.Exif b c p = FirstExifFault b c p
FirstIn kind.Iim b c p = FirstIimFault b c p

-- the first fault of the block in the file, by the checks of its kind
abbrev pub FirstFaultOf : List ℕ → Cause → ℕ → Type 0
FirstFaultOf f c p = FirstIn (kind_of f) (block_of f) c p

-- a fault of a block, read as this kind
abbrev pub IsFaultIn : BlockKind → List ℕ → Cause → ℕ → Type 0
IsFaultIn kind.Exif b c p = ExifFault b c p
IsFaultIn kind.Iim b c p = IimFault b c p

-- a fault of the block in the file
abbrev pub FaultOf : List ℕ → Cause → ℕ → Type 0
FaultOf f c p = IsFaultIn (kind_of f) (block_of f) c p
