-- How many bytes the calls request at most.
use Rattle.std.specs.Prelude.{◌≤◌, ◌+◌, ◌*◌, ℕ, List, [], ◌∷◌, length}
use Rattle.px_bytes.specs.Allocations.{MemoryCounts, AsksAtMost}
use Rattle.px_iim.specs.Asking.{iim_request}
use Rattle.px_jpeg.specs.declared.Part.{Part}
use Rattle.px_jpeg.specs.Head.{HasHead}
use Rattle.px_tree.specs.Asking.{exif_request}
use Rattle.px_pictures.specs.Metadata.{Blocks, HasBlocks, joined_size}

-- to join pieces of a picture of n bytes: each of these bytes is in one piece at most
abbrev pub join_request : ℕ → ℕ
join_request n = n

-- to join the pieces of this picture: nothing if each block has one piece
abbrev pub AsksToJoin : List ℕ → MemoryCounts → MemoryCounts → Type 0
AsksToJoin b old new = (parts : List Part) → HasHead b parts → AsksAtMost (joined_size b parts) old new

-- to read each of these blocks once
abbrev pub exif_requests : List (List ℕ) → ℕ
exif_requests [] = 0
exif_requests (b ∷ bs) = exif_request (length b) + exif_requests bs

-- to read each of these IPTC blocks once
abbrev pub iptc_requests : List (List ℕ) → ℕ
iptc_requests [] = 0
iptc_requests (b ∷ bs) = iim_request (length b) + iptc_requests bs

-- to judge the blocks of a picture, and then to read them
abbrev pub blocks_request : Blocks → ℕ
blocks_request x = 2 * exif_requests x.exif + iptc_requests x.iptc

-- to compare two pictures
abbrev pub AsksForBoth : List ℕ → List ℕ → MemoryCounts → MemoryCounts → Type 0
AsksForBoth f g old new = (most other : ℕ) → ((x : Blocks) → HasBlocks f x → blocks_request x ≤ most)
    → ((y : Blocks) → HasBlocks g y → blocks_request y ≤ other)
    → AsksAtMost (join_request (length f) + join_request (length g) + most + other) old new
