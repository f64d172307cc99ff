-- The Exif and IPTC blocks of a JPEG picture, and what they mean. CIPA DC-008, 4.7.2; Adobe Photoshop File Formats Specification,
-- "Image Resource IDs".
-- Example: a picture with an APP1 segment of Exif, and an APP13 segment with the resource 0404, has one block of each kind.
use Rattle.std.specs.Prelude.{◌≡◌, ◌≤◌, ◌+◌, ◌*◌, ℕ, nat_lt, Bool, true, ◌&&◌, if◌then◌else◌, List, [], ◌∷◌}
use Rattle.std.specs.Prelude.{length, filter, None, ⊤}
use Rattle.px_bytes.specs.Parts.{limit}
use Rattle.px_iim.specs.Group.{Record}
use Rattle.px_iim.specs.Record.{SaysIim}
use Rattle.px_jpeg.specs.declared.Part.{Part}
use Rattle.px_jpeg.specs.declared.Piece.{Piece}
use Rattle.px_jpeg.specs.Head.{HasHead, Picture}
use Rattle.px_jpeg.specs.Pieces.{pieces}
use Rattle.px_jpeg.specs.Blocks.{exif_blocks, iptc_blocks}
use Rattle.px_meaning.specs.Tree.{Meaning}
use Rattle.px_meaning.specs.Says.{SaysExif}

-- the blocks of a picture, each kind in order
pub record Blocks : Type 0 where
  pub exif : List (List ℕ)
  pub iptc : List (List ℕ)

-- a resource without a byte has no DataSet, and is no block
abbrev pub has_octets : List ℕ → Bool
has_octets x = nat_lt 0 (length x)

-- the Exif of APP1, and the IPTC of Photoshop's resource 0x0404. Resource 0x0422, in which Photoshop may repeat the Exif, is not read.
abbrev pub blocks_in : List ℕ → List Part → Blocks
blocks_in b parts = record { exif = exif_blocks b parts; iptc = filter has_octets (iptc_blocks b parts) }

-- the blocks of a picture of which the bytes and the parts are known
abbrev pub blocks_of : Picture → Blocks
blocks_of p = blocks_in p.octets p.parts

-- how many bytes some pieces have
abbrev pub sizes : List Piece → ℕ
sizes [] = 0
sizes (p ∷ ps) = p.size + sizes ps

-- the first of these pieces begins a block, or there is none
abbrev pub next_begins : List Piece → Bool
next_begins [] = true
next_begins (p ∷ ps) = p.begins

-- the pieces of the blocks that have more than one
unfoldable pub joined_pieces : List Piece → List Piece
joined_pieces [] = []
joined_pieces (p ∷ ps) = if p.begins && next_begins ps then joined_pieces ps else p ∷ joined_pieces ps

-- how many bytes these have in a picture: they are joined in memory
abbrev pub joined_size : List ℕ → List Part → ℕ
joined_size b parts = sizes (joined_pieces (pieces b None parts))

-- more bytes than one allocation may have are refused
abbrev pub most_joined : ℕ
most_joined = 16 * limit

-- the picture b has a head, and these are the blocks in it
pub record HasBlocks (b : List ℕ) (x : Blocks) : Type 0 where
  pub parts : List Part
  pub head : HasHead b parts
  pub fits : joined_size b parts ≤ most_joined
  pub blocks : x ≡ blocks_in b parts

-- the blocks have these meanings, one each, in order
abbrev pub MeanAll : {M : Type 0} → (List ℕ → M → Type 0) → List (List ℕ) → List M → Type 0
MeanAll Says [] [] = ⊤
MeanAll Says (b ∷ bs) (m ∷ ms) = Says b m × MeanAll Says bs ms
MeanAll Says bs ms = ⊥

-- the picture b has Exif blocks with these meanings, and IPTC blocks with these records
pub record HasMetadata (b : List ℕ) (exif : List Meaning) (iptc : List Record) : Type 0 where
  pub blocks : Blocks
  pub has : HasBlocks b blocks
  pub exif_means : MeanAll SaysExif blocks.exif exif
  pub iptc_means : MeanAll SaysIim blocks.iptc iptc
