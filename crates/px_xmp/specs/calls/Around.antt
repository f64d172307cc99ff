-- What is around the document of a packet, piece by piece.
use Rattle.std.specs.Prelude.{◌≡◌, ◌≤◌, ◌⊎◌, ℕ, List, take}
use Rattle.px_xmp.specs.Packet.{IsAround, BeginsBare}

-- the first n octets are a piece of what is around the document, or n is 0 and no such piece is at the start
abbrev pub BeginsAround : List ℕ → ℕ → Type 0
BeginsAround x n = ((n ≡ 0) × BeginsBare x) ⊎ ((1 ≤ n) × IsAround (take n x))
