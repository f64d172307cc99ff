-- The blocks of a head, cut from the picture and from the joined bytes of those that have more than one piece.
use Rattle.std.specs.Prelude.{◌≡◌, ◌+◌, ◌==◌, ℕ, true, if◌then◌else◌, Option, Some, None, List, [], ◌∷◌, length, filter}
use Rattle.std.specs.Prelude.{filter_map, flat_map}
use Rattle.std.specs.List.{AllByRecursion}
use Rattle.px_jpeg.specs.declared.Piece.{Piece}
use Rattle.px_jpeg.specs.declared.Resource.{Resource}
use Rattle.px_jpeg.specs.Blocks.{JoinedBlock, piece_octets, iptc_in}
use Rattle.px_jpeg.specs.Pieces.{range}
use Rattle.px_pictures.specs.declared.runs.Run.{Run}
use Rattle.px_pictures.specs.Metadata.{has_octets, next_begins, joined_pieces}

-- the pieces that are left, of which the first may be read already
abbrev pub with_next : Option Piece → List Piece → List Piece
with_next None ps = []
with_next (Some p) ps = p ∷ ps

-- how many bytes continue a block before these pieces
unfoldable pub run_size : List Piece → ℕ
run_size [] = 0
run_size (p ∷ ps) = if p.begins then 0 else p.size + run_size ps

-- the pieces from the first with which a block begins
unfoldable pub run_rest : List Piece → List Piece
run_rest [] = []
run_rest (p ∷ ps) = if p.begins then p ∷ ps else run_rest ps

-- the bytes of the blocks that have more than one piece
abbrev pub joined_octets : List ℕ → List Piece → List ℕ
joined_octets b ps = flat_map (piece_octets b) (joined_pieces ps)

-- the pieces are in the picture b
abbrev pub AreSized : List ℕ → List Piece → Type 0
AreSized b ps = AllByRecursion (λ p. length (piece_octets b p) ≡ p.size) ps

-- the first of the pieces begins a block, and x are the joined bytes
abbrev pub CanCut : List ℕ → List ℕ → List Piece → Type 0
CanCut b x ps = (next_begins ps ≡ true) × AreSized b ps × (x ≡ joined_octets b ps)

-- a block that was cut, as px_jpeg defines blocks: its kind, and its bytes
abbrev pub block_of : Run → JoinedBlock
block_of r = record { kind = r.kind; octets = r.octets.now }

-- the IPTC in resources of the bytes x
abbrev pub iptc_at : List ℕ → Resource → Option (List ℕ)
iptc_at x r = if r.number == 1028 then Some (range x r.start r.size) else None

-- the IPTC in these resources of the bytes x, without what is empty
abbrev pub records : List ℕ → List Resource → List (List ℕ)
records x rs = filter has_octets (filter_map (iptc_at x) rs)

-- the IPTC in a block, without what is empty
abbrev pub records_in : JoinedBlock → List (List ℕ)
records_in k = filter has_octets (iptc_in k)
