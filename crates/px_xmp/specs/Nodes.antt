-- The elements of a document with their namespaces, and the texts between them. XML 1.0, 3.1; RDF/XML, 6.
-- Example: `<a>b<c/></a>` is an element in which the text `b` is, and then an element in which nothing is.
use Rattle.std.specs.Prelude.{◌≡◌, ◌⊎◌, ◌+◌, ◌-◌, ℕ, true, false, Some, List, [], ◌++◌, length}
use Rattle.px_xmp_text.specs.Texts.{text_of}
use Rattle.px_xmp_text.specs.declared.pieces.TextKind.{TextKind}
use Rattle.px_xmp_marks.specs.Reading.{Named, Attr}
use Rattle.px_xmp_document.specs.Scopes.{Item}
use Rattle.px_xmp.specs.Marks.{Start, End, Text, Other, IsKind}
use Rattle.px_xmp.specs.Tags.{Tag, tag_of, inside}

-- content: nothing; or a text, or an element with the byte offset of its tag and its content; and what follows. A comment and a
-- processing instruction are empty texts
pub data Nodes : Type 0 where
  Nothing : Nodes
  Words : (text : List ℕ) → Nodes → Nodes
  Element : (tag : Tag) → (place : ℕ) → (inner : Nodes) → Nodes → Nodes

-- the octets x before y are a text, which is t
abbrev pub AreWords : List ℕ → List ℕ → List ℕ → Type 0
AreWords t x y =
    ((kind : TextKind) × (octets : List ℕ) × IsKind (Text kind octets) x y × (text_of kind octets ≡ Some t)) ⊎ (IsKind Other x y × (t ≡ []))

-- the octets x at an offset are these nodes, and then y, where this is in scope
abbrev pub AreNodes : Nodes → List Item → ℕ → List ℕ → List ℕ → Type 0
AreNodes Nothing scope at x y = x ≡ y
AreNodes (Words t more) scope at x y =
    (m rest : List ℕ) × AreWords t m rest × (x ≡ m ++ rest) × AreNodes more scope (at + length m) rest y
AreNodes (Element tag place inner more) scope at x y =
    (n : Named) × (attributes : List Attr) × (m rest : List ℕ) × (tag ≡ tag_of scope n attributes) × (place ≡ at) × (x ≡ m ++ rest)
    × ((IsKind (Start n attributes true) m rest × (inner ≡ Nothing) × AreNodes more scope (at + length m) rest y)
    ⊎ ((e tail : List ℕ) × IsKind (Start n attributes false) m rest
    × AreNodes inner (inside scope attributes) (at + length m) rest (e ++ tail) × IsKind End e tail
    × AreNodes more scope (at + (length x - length tail)) tail y))
