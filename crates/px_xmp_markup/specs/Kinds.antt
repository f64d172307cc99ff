-- The kinds of marks: how they are read, and the grammar. XML 1.0, 2.8, 3 and 3.1.
use Rattle.std.specs.Prelude.{◌≡◌, ◌⊎◌, ℕ, Bool, true, false, nat_eq, if◌then◌else◌, codes}
use Rattle.std.specs.Prelude.{Option, Some, None, option_map, List, [], ◌∷◌, ◌++◌, length, take}
use Rattle.std.specs.List.{starts_with}
use Rattle.px_xmp_marks.specs.Reading.{is_space, Named, name_view, Attr, Start, start_tag, End, end_tag}
use Rattle.px_xmp_marks.specs.Grammar.{AreSpaces, IsStartTag, IsEndTag}
use Rattle.px_xmp_marks.specs.Declarations.{every}
use Rattle.px_xmp_marks.specs.Sections.{IsSection}
use Rattle.px_xmp_marks.specs.Comments.{IsComment}
use Rattle.px_xmp_marks.specs.Instructions.{IsInstruction}
use Rattle.px_xmp_marks.specs.Marks.{mark_len, IsText, EndsText}
use Rattle.px_xmp_markup.specs.declared.kinds.MarkKind.{MarkKind}
use Rattle.px_xmp_markup.specs.declared.kinds.MarkKind.TheVariants as kinds
use Rattle.px_xmp_markup.specs.declared.kinds.Mark.{Mark}

-- the start tag or the end tag of an element, or the tag of an empty one; what may also be outside of the root; other data
pub data Kind : Type 0 where
  Opening : (name : Named) → Kind
  Closing : (name : Named) → Kind
  Alone : (name : Named) → Kind
  Misc : Kind
  Data : Kind

-- a stored kind of a mark
abbrev pub kind_view : MarkKind → Kind
kind_view (kinds.Opening n) = Opening (name_view n)
kind_view (kinds.Closing n) = Closing (name_view n)
kind_view (kinds.Alone n) = Alone (name_view n)
kind_view kinds.Misc = Misc
kind_view kinds.Data = Data

-- ---- how they are read

-- a mark as it is written: its kind, and its length
pub record Marked : Type 0 where
  pub kind : Kind
  pub size : ℕ

-- a stored mark as it is read: its kind, and its length
abbrev pub mark_view : Mark → Marked
mark_view m = record { kind = kind_view m.kind; size = m.size }

-- the kind of a start tag with the name n, or of an empty element's tag
abbrev pub start_kind : Bool → Named → Kind
start_kind empty n = if empty then Alone n else Opening n

-- a start tag, or an empty element's tag, as a mark
abbrev pub from_start : Start → Marked
from_start t = record { kind = start_kind t.is_empty t.name; size = t.size }

-- an end tag as a mark
abbrev pub from_end : End → Marked
from_end t = record { kind = Closing t.name; size = t.size }

-- the kind of a mark of n octets that is no tag
abbrev pub other_kind : List ℕ → ℕ → Kind
other_kind x n =
    if starts_with nat_eq x (codes "<![") then Data
    else if starts_with nat_eq x (codes "<") then Misc
    else if every is_space (take n x) then Misc
    else Data

-- the first n octets, which are no tag, as a mark
abbrev pub from_other : List ℕ → ℕ → Marked
from_other x n = record { kind = other_kind x n; size = n }

-- the first mark, or the second if there is none
abbrev pub or_mark : Option Marked → Option Marked → Option Marked
or_mark None m = m
or_mark (Some k) m = Some k

-- the mark at the start
unfoldable pub mark : List ℕ → Option Marked
mark x =
    or_mark (option_map from_start (start_tag x)) (or_mark (option_map from_end (end_tag x)) (option_map (from_other x) (mark_len x)))

-- ---- the grammar

-- the octets x before y are a mark of this kind: comments, instructions and white space are Misc (27)
abbrev pub IsKind : Kind → List ℕ → List ℕ → Type 0
IsKind (Opening n) x y = (attributes : List Attr) × IsStartTag x n attributes false
IsKind (Closing n) x y = IsEndTag x n
IsKind (Alone n) x y = (attributes : List Attr) × IsStartTag x n attributes true
IsKind Misc x y =
    ((content : List ℕ) × IsComment x content) ⊎ IsInstruction x ⊎ (IsText x × AreSpaces x × EndsText y)
IsKind Data x y = ((content : List ℕ) × IsSection x content) ⊎ (IsText x × (AreSpaces x → ⊥) × EndsText y)

-- x is marks of these kinds, and then y
abbrev pub AreKinds : List Kind → List ℕ → List ℕ → Type 0
AreKinds [] x y = x ≡ y
AreKinds (k ∷ more) x y = (m rest : List ℕ) × IsKind k m rest × (x ≡ m ++ rest) × AreKinds more rest y

-- x begins with a mark of this kind
abbrev pub Begins : Kind → List ℕ → Type 0
Begins k x = (m rest : List ℕ) × IsKind k m rest × (x ≡ m ++ rest)

-- Each mark is read.
abbrev pub KindsAreRead : Type 0
KindsAreRead = (k : Kind) (x rest : List ℕ) → IsKind k x rest → mark (x ++ rest) ≡ Some (record { kind = k; size = length x })

-- What is read as a mark is one.
abbrev pub OnlyKindsAreRead : Type 0
OnlyKindsAreRead = (x : List ℕ) (m : Marked) → mark x ≡ Some m
    → (y rest : List ℕ) × (x ≡ y ++ rest) × (m.size ≡ length y) × IsKind m.kind y rest
