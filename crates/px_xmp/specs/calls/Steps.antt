-- What a call has read of the octets that are left.
use Rattle.std.specs.Prelude.{◌≡◌, ◌≤◌, ◌+◌, ◌++◌, ◌==◌, ◌||◌, ℕ, Bool, true, false, Option, Some, None, List, [], length}
use Rattle.px_bytes.specs.Parts.{limit}
use Rattle.px_xmp_text.specs.Texts.{text_of}
use Rattle.px_xmp_marks.specs.Reading.{Named, Attr}
use Rattle.px_xmp_document.specs.Scopes.{Item}
use Rattle.px_xmp.specs.Marks.{Mark, Start, End, IsKind, AreRow}
use Rattle.px_xmp.specs.Tags.{Tag, tag_of, inside}
use Rattle.px_xmp.specs.Nodes.{Nodes, Nothing, AreNodes}
use Rattle.px_xmp.specs.Meaning.{AreWhite}
use Rattle.px_xmp.specs.Reading as reading
use Rattle.px_xmp.specs.Reading.{What, IsReadAs}
use Rattle.px_xmp.specs.declared.elements.Opened.{Opened}
use Rattle.px_xmp.specs.declared.source.Source.{Source}
use Rattle.px_xmp.specs.calls.Opening.{IsOpened}

-- octets at an offset of a packet are marks in a row
pub record IsLeft (at : ℕ) (x : List ℕ) : Type 0 where
  pub marks : List Mark
  pub row : AreRow marks x
  pub few : at + length x ≤ limit

-- the octets y are marks in a row too, at a later offset of the packet
pub record Moves (at : ℕ) (x : List ℕ) (to : ℕ) (y : List ℕ) : Type 0 where
  pub left : IsLeft to y
  pub same : at + length x ≡ to + length y

-- x is a mark and then y
abbrev pub IsFirst : Mark → List ℕ → List ℕ → Type 0
IsFirst k x y = (m : List ℕ) × IsKind k m y × (x ≡ m ++ y)

-- the mark at the start was read
pub record Next (w : What) (at : ℕ) (x : List ℕ) (to : ℕ) (y : List ℕ) : Type 0 where
  pub mark : Mark
  pub read : IsReadAs w mark
  pub first : IsFirst mark x y
  pub moves : Moves at x to y

-- what is read is no tag, and means the text u: a comment or an instruction means none
abbrev pub Says : What → List ℕ → Type 0
Says (reading.Tag t) u = ⊥
Says reading.End u = ⊥
Says (reading.Words kind octets) u = text_of kind octets ≡ Some u
Says reading.Other u = u ≡ []

-- white space that means itself in a text: a space, a tab or a line feed; CR means LF (XML 1.0,
-- 2.11)
abbrev pub is_plain_space : ℕ → Bool
is_plain_space o = (o == 32) || (o == 9) || (o == 10)

-- x is this tag, whose element is entered, and then y
pub record IsStart (o : Opened) (tag : Tag) (scope inner : List Item) (at : ℕ) (x y : List ℕ) : Type 0 where
  pub name : Named
  pub attributes : List Attr
  pub first : IsFirst (Start name attributes o.is_empty) x y
  pub tag_is : tag ≡ tag_of scope name attributes
  pub inner_is : inner ≡ inside scope attributes
  pub opened : IsOpened inner o tag
  pub place : o.place ≡ at

-- a start tag, or an end tag
abbrev pub IsTag : Option Opened → List Item → List Item → ℕ → List ℕ → List ℕ → Type 0
IsTag None scope inner at x y = IsFirst End x y × (inner ≡ scope)
IsTag (Some o) scope inner at x y = (tag : Tag) × IsStart o tag scope inner at x y

-- these nodes were read, and then a tag
pub record TagAfter (o : Option Opened) (nodes : Nodes) (old new : Source) : Type 0 where
  pub at : ℕ
  pub octets : List ℕ
  pub row : AreNodes nodes old.scope old.at old.rest.now octets
  pub place : old.at + length old.rest.now ≡ at + length octets
  pub is : IsTag o old.scope new.scope at octets new.rest.now
  pub moves : Moves old.at old.rest.now new.at new.rest.now

-- the nodes in an element, and its end tag if it is not empty
abbrev pub HasInside : Bool → Nodes → List Item → ℕ → List ℕ → List ℕ → Type 0
HasInside true nodes scope at x y = (nodes ≡ Nothing) × (x ≡ y)
HasInside false nodes scope at x y = (e : List ℕ) × AreNodes nodes scope at x (e ++ y) × IsKind End e y

-- the nodes in an element were read, and its end tag if it is not empty
pub record InsideRead (empty : Bool) (nodes : Nodes) (old new : Source) : Type 0 where
  pub row : HasInside empty nodes old.scope old.at old.rest.now new.rest.now
  pub moves : Moves old.at old.rest.now new.at new.rest.now

-- nothing but white space was read, and the end tag
abbrev pub EndRead : Bool → Source → Source → Type 0
EndRead empty old new = (nodes : Nodes) × AreWhite nodes × InsideRead empty nodes old new × (new.scope ≡ old.scope)

-- all that is left is white space
abbrev pub AfterRead : Source → Type 0
AfterRead old = (nodes : Nodes) × AreWhite nodes × AreNodes nodes old.scope old.at old.rest.now []
