-- Where the blocks of a picture are: in the picture, or in the joined bytes of those that have more than one piece.
use Rattle.std.specs.Prelude.{◌≡◌, ℕ, if◌then◌else◌, None, List, map, flat_map}
use Rattle.px_jpeg.specs.declared.Part.{Part}
use Rattle.px_jpeg.specs.Blocks.{JoinedBlock, blocks, piece_octets}
use Rattle.px_jpeg.specs.Pieces.{range, pieces}
use Rattle.px_pictures.specs.declared.places.BlockPlace.{BlockPlace}
use Rattle.px_pictures.specs.Metadata.{joined_pieces}

-- the bytes of the blocks that have more than one piece, one after another
abbrev pub joined_bytes : List ℕ → List Part → List ℕ
joined_bytes b parts = flat_map (piece_octets b) (joined_pieces (pieces b None parts))

-- the block at a place: in the picture b, or in the joined bytes
abbrev pub block_at : List ℕ → List ℕ → BlockPlace → JoinedBlock
block_at b all p = record { kind = p.kind; octets = range (if p.joined then all else b) p.start p.size }

-- these are the places of all blocks of the picture b with these parts, in order
abbrev pub ArePlaces : List ℕ → List Part → List BlockPlace → Type 0
ArePlaces b parts places = map (block_at b (joined_bytes b parts)) places ≡ blocks b parts
