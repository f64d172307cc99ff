-- What is wrong with the prefixes of marks in a row, and where.
use Rattle.std.specs.Prelude.{◌≡◌, ◌≢◌, ◌<◌, ◌⊎◌, ℕ, List, [], ◌∷◌, ◌++◌, length, drop, Ok, Err}
use Rattle.px_xmp_document.specs.declared.faults.SpaceCause.{SpaceCause}
use Rattle.px_xmp_document.specs.declared.faults.SpaceCause.TheVariants.{NoMark}
use Rattle.px_xmp_document.specs.Pieces.{Piece, IsPiece, ArePieces}
use Rattle.px_xmp_document.specs.Scopes.{Item}
use Rattle.px_xmp_document.specs.Tags.{passed}

-- these marks lead from one scope to another, and nothing is wrong with one of them
abbrev pub Lead : List Item → List Piece → List Item → Type 0
Lead scope [] last = scope ≡ last
Lead scope (p ∷ more) last = (next : List Item) × (passed p scope ≡ Ok next) × Lead next more last

-- x is marks in a row, whose prefixes are declared
abbrev pub HasSpaces : List ℕ → Type 0
HasSpaces x = (ps : List Piece) × (last : List Item) × ArePieces ps x [] × Lead [] ps last

-- what is wrong with octets in this scope: no mark is at the start, or one with a fault
abbrev pub IsFaulty : List Item → SpaceCause → List ℕ → Type 0
IsFaulty scope c y =
    ((c ≡ NoMark) × ((p : Piece) (m rest : List ℕ) → IsPiece p m rest → y ≢ m ++ rest))
    ⊎ ((p : Piece) × (m rest : List ℕ) × IsPiece p m rest × (y ≡ m ++ rest) × (passed p scope ≡ Err c))

-- the first fault: the octets before it are marks in a row with nothing wrong
pub record IsSpaceFault (x : List ℕ) (c : SpaceCause) (n : ℕ) : Type 0 where
  pub within : n < length x
  pub before : List Piece
  pub scope : List Item
  pub marked : ArePieces before x (drop n x)
  pub leads : Lead [] before scope
  pub wrong : IsFaulty scope c (drop n x)
