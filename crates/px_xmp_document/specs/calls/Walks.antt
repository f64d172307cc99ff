-- What a walk over elements passes, if nothing is wrong.
use Rattle.std.specs.Prelude.{◌≡◌, ◌≤◌, ℕ, List, ◌++◌, length, Ok}
use Rattle.px_xmp_marks.specs.Reading.{Attr, Start}
use Rattle.px_xmp_markup.specs.Kinds.{Kind, IsKind, start_kind}
use Rattle.px_xmp_markup.specs.Nesting.{Place}
use Rattle.px_xmp_markup.specs.calls.Steps.{Step}
use Rattle.px_xmp_markup.specs.Distinct.{AreDistinct, HasDistinct}
use Rattle.px_xmp_document.specs.Pieces.{Piece, IsPiece}
use Rattle.px_xmp_document.specs.Scopes.{Item}
use Rattle.px_xmp_document.specs.Tags.{passed}
use Rattle.px_xmp_document.specs.calls.Passing.{start_piece}

-- a start tag with these attributes leads from a place and a scope to the next ones, and has each attribute once
abbrev pub PassesTag : Start → List Attr → Place → Place → List Item → List Item → Type 0
PassesTag t attributes p q s u =
    Step (start_kind t.is_empty t.name) p q × AreDistinct attributes × (passed (start_piece t.is_empty t.name attributes) s ≡ Ok u)

-- the first n octets of y are a mark that leads so, and has each attribute once
pub record Goes (y : List ℕ) (n : ℕ) (p q : Place) (s u : List Item) : Type 0 where
  pub mark : List ℕ
  pub rest : List ℕ
  pub whole : y ≡ mark ++ rest
  pub size : n ≡ length mark
  pub kind : Kind
  pub is_kind : IsKind kind mark rest
  pub step : Step kind p q
  pub distinct : HasDistinct mark
  pub piece : Piece
  pub is_piece : IsPiece piece mark rest
  pub leads : passed piece s ≡ Ok u

-- the mark that is passed has an octet at least, and no more than there are
abbrev pub GoesOn : List ℕ → ℕ → Place → Place → List Item → List Item → Type 0
GoesOn y n p q s u = (1 ≤ n) × (n ≤ length y) × Goes y n p q s u
