-- The places of blocks, computed from their pieces.
use Rattle.std.specs.Prelude.{◌+◌, ℕ, true, false, if◌then◌else◌, List, [], ◌∷◌}
use Rattle.px_jpeg.specs.declared.Piece.{Piece}
use Rattle.px_pictures.specs.declared.places.BlockPlace.{BlockPlace}
use Rattle.px_pictures.specs.Metadata.{next_begins}
use Rattle.px_pictures.specs.calls.Runs.{run_size}

-- a block of one piece is where that piece is
abbrev pub whole_place : Piece → BlockPlace
whole_place p = record { kind = p.kind; joined = false; start = p.start; size = p.size }

-- a block whose first piece is p, and that n bytes continue
abbrev pub joined_place : ℕ → Piece → ℕ → BlockPlace
joined_place at p n = record { kind = p.kind; joined = true; start = at; size = p.size + n }

-- the places of the blocks that begin in some pieces. Joined bytes from offset `at` on are theirs.
unfoldable pub places_from : ℕ → List Piece → List BlockPlace
places_from at [] = []
places_from at (p ∷ ps) =
    if p.begins
    then (if next_begins ps then whole_place p ∷ places_from at ps else joined_place at p (run_size ps) ∷ places_from (at + p.size) ps)
    else places_from (at + p.size) ps
