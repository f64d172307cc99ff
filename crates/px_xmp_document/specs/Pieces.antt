-- Marks in a row, of which the tags are told apart. XML 1.0, productions 40, 42 and 44.
use Rattle.std.specs.Prelude.{◌≡◌, ℕ, Bool, true, false, List, [], ◌∷◌, ◌++◌}
use Rattle.px_xmp_marks.specs.Reading.{Named, Attr}
use Rattle.px_xmp_marks.specs.Grammar.{IsStartTag, IsEndTag}
use Rattle.px_xmp_marks.specs.Marks.{IsMark}

-- the start tag of an element, the tag of an empty element, an end tag, or another mark
pub data Piece : Type 0 where
  Opening : (name : Named) → (attributes : List Attr) → Piece
  Alone : (name : Named) → (attributes : List Attr) → Piece
  Closing : Piece
  Other : Piece

-- a tag of an element
abbrev pub IsTag : List ℕ → Type 0
IsTag x = (n : Named) × (attributes : List Attr) × (empty : Bool) × IsStartTag x n attributes empty

-- the octets x before y are such a mark
abbrev pub IsPiece : Piece → List ℕ → List ℕ → Type 0
IsPiece (Opening n attributes) x y = IsStartTag x n attributes false
IsPiece (Alone n attributes) x y = IsStartTag x n attributes true
IsPiece Closing x y = (n : Named) × IsEndTag x n
IsPiece Other x y = IsMark x y × (IsTag x → ⊥) × ((n : Named) → IsEndTag x n → ⊥)

-- x is these marks, and then y
abbrev pub ArePieces : List Piece → List ℕ → List ℕ → Type 0
ArePieces [] x y = x ≡ y
ArePieces (p ∷ more) x y = (m rest : List ℕ) × IsPiece p m rest × (x ≡ m ++ rest) × ArePieces more rest y
