-- How many bytes a comparison of two pictures requests at most, if they have no XMP.
use Rattle.std.specs.Prelude.{◌≡◌, ◌≤◌, ◌+◌, ◌*◌, ℕ, List, length}
use Rattle.px_bytes.specs.Allocations.{MemoryCounts, AsksAtMost}
use Rattle.px_jpeg.specs.declared.packets.FoundXmp.TheVariants.{Absent}
use Rattle.px_jpeg.specs.Head.{HasHead, Picture}
use Rattle.px_jpeg.specs.Xmp.{xmp_of}
use Rattle.px_pictures.specs.Asking.{join_request, blocks_request}
use Rattle.px_pictures.specs.Metadata.{Blocks, HasBlocks}

-- the head of the picture b, if it has one, has neither a packet of XMP nor a piece of extended XMP
abbrev pub HasNoXmp : List ℕ → Type 0
HasNoXmp b = (p : Picture) → p.octets ≡ b → HasHead p.octets p.parts → xmp_of p.octets p.parts ≡ Absent

-- to look for the XMP of two such pictures: the pieces of their blocks are joined once more
abbrev pub AsksForNoXmp : List ℕ → List ℕ → MemoryCounts → MemoryCounts → Type 0
AsksForNoXmp f g old new = HasNoXmp f → HasNoXmp g → AsksAtMost (join_request (length f) + join_request (length g)) old new

-- to compare them
abbrev pub AsksWithoutXmp : List ℕ → List ℕ → MemoryCounts → MemoryCounts → Type 0
AsksWithoutXmp f g old new = HasNoXmp f → HasNoXmp g → (most other : ℕ) → ((x : Blocks) → HasBlocks f x → blocks_request x ≤ most)
    → ((y : Blocks) → HasBlocks g y → blocks_request y ≤ other)
    → AsksAtMost (2 * (join_request (length f) + join_request (length g)) + most + other) old new
