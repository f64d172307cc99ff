-- What a call that changes the scope returns, and the attributes that it reads.
use Rattle.std.specs.Prelude.{◌≡◌, ℕ, Bool, if◌then◌else◌, Option, Some, None, option_map, List, Result, Ok, Err}
use Rattle.px_xmp_marks.specs.Reading.{Named, Attr, attributes_of, End}
use Rattle.px_xmp_document.specs.declared.faults.SpaceCause.{SpaceCause}
use Rattle.px_xmp_document.specs.Pieces.{Piece, Opening, Alone}
use Rattle.px_xmp_document.specs.Scopes.{Item, ended}

-- the scope after the call, or what is wrong
abbrev pub Gives : Option SpaceCause → List Item → Result (List Item) SpaceCause → Type 0
Gives None scope r = r ≡ Ok scope
Gives (Some c) scope r = r ≡ Err c

-- these attributes are at the start of x, up to the end of a tag
abbrev pub AreListed : List ℕ → List Attr → Type 0
AreListed x attributes = option_map (λ r. r.0) (attributes_of x) ≡ Some attributes

-- the piece that a start tag is
abbrev pub start_piece : Bool → Named → List Attr → Piece
start_piece empty n attributes = if empty then Alone n attributes else Opening n attributes

-- the scope after a mark that is no start tag
abbrev pub passed_other : Option End → List Item → List Item
passed_other None scope = scope
passed_other (Some e) scope = ended scope
