-- Marks in a row: how they are read, and the grammar. XML 1.0, 2.4 and 3.1.
use Rattle.std.specs.Prelude.{◌≡◌, ◌≢◌, ◌≤◌, ◌<◌, ◌+◌, ◌==◌, ◌&&◌, ◌⊎◌, ℕ, Bool, true, not, if◌then◌else◌, codes}
use Rattle.std.specs.Prelude.{Option, Some, None, option_map, is_none, List, [], ◌∷◌, ◌++◌, length, drop, take}
use Rattle.std.specs.List.{AllByRecursion}
use Rattle.px_xmp_text.specs.Texts.{first_fault}
use Rattle.px_xmp_text.specs.declared.pieces.TextKind.TheVariants.{CharacterData}
use Rattle.px_xmp_marks.specs.Reading.{Named, Attr, run, begins_with, start_tag, end_tag}
use Rattle.px_xmp_marks.specs.Grammar.{IsStartTag, IsEndTag}
use Rattle.px_xmp_marks.specs.Sections.{find, section, HasNo, IsSection}
use Rattle.px_xmp_marks.specs.Comments.{comment, IsComment}
use Rattle.px_xmp_marks.specs.Instructions.{instruction, IsInstruction}

-- ---- how they are read

-- how many octets precede the first `<`
abbrev pub data_len : List ℕ → ℕ
data_len x = run (λ o. not (o == 60)) x

-- the length of the character data at the start, with its references; None if there is none, or it is faulty
unfoldable pub text_len : List ℕ → Option ℕ
text_len x =
    if data_len x == 0 then None
    else if is_none (find (codes "]]>") 0 (take (data_len x) x)) && is_none (first_fault CharacterData (take (data_len x) x))
    then Some (data_len x)
    else None

-- the first length, or the second if there is none
abbrev pub or_else : Option ℕ → Option ℕ → Option ℕ
or_else None y = y
or_else (Some n) y = Some n

-- the length of the tag at the start
unfoldable pub tag_len : List ℕ → Option ℕ
tag_len x = or_else (option_map (λ t. t.size) (start_tag x)) (option_map (λ t. t.size) (end_tag x))

-- the length of the comment (with 7 octets around its text), the CDATA section (with 12) or the
-- instruction at the start
unfoldable pub other_len : List ℕ → Option ℕ
other_len x =
    or_else (option_map (λ y. length y + 7) (comment x)) (or_else (option_map (λ y. length y + 12) (section x)) (instruction x))

-- the length of the mark at the start
unfoldable pub mark_len : List ℕ → Option ℕ
mark_len x = if begins_with 60 x then or_else (tag_len x) (other_len x) else text_len x

-- ---- the grammar

-- character data (production 14) and references: no `<`, no `]]>`, and each `&` begins a reference
pub record IsText (x : List ℕ) : Type 0 where
  pub some : 1 ≤ length x
  pub inside : AllByRecursion (λ o. not (o == 60) ≡ true) x
  pub no_section_end : HasNo (codes "]]>") x
  pub references : first_fault CharacterData x ≡ None

-- what ends character data: a `<`, or nothing
abbrev pub EndsText : List ℕ → Type 0
EndsText x = (x ≡ []) ⊎ (begins_with 60 x ≡ true)

-- the octets x before y are a mark: a tag, a section, a comment or an instruction, or all character data up to the next one
abbrev pub IsMark : List ℕ → List ℕ → Type 0
IsMark x y =
    ((n : Named) × (attributes : List Attr) × (empty : Bool) × IsStartTag x n attributes empty) ⊎ ((n : Named) × IsEndTag x n)
    ⊎ ((content : List ℕ) × IsComment x content) ⊎ ((content : List ℕ) × IsSection x content) ⊎ IsInstruction x
    ⊎ (IsText x × EndsText y)

-- x is these marks, and then y
abbrev pub AreMarks : List (List ℕ) → List ℕ → List ℕ → Type 0
AreMarks [] x y = x ≡ y
AreMarks (m ∷ more) x y = (rest : List ℕ) × IsMark m rest × (x ≡ m ++ rest) × AreMarks more rest y

-- x is marks in a row
abbrev pub IsRow : List ℕ → Type 0
IsRow x = (marks : List (List ℕ)) × AreMarks marks x []

-- the first n octets are marks in a row, and none is at the start of the others
pub record IsFirstBadMark (x : List ℕ) (n : ℕ) : Type 0 where
  pub within : n < length x
  pub marks : List (List ℕ)
  pub before : AreMarks marks x (drop n x)
  pub none : (m rest : List ℕ) → IsMark m rest → drop n x ≢ m ++ rest

-- Each mark is read.
abbrev pub MarksAreRead : Type 0
MarksAreRead = (x rest : List ℕ) → IsMark x rest → mark_len (x ++ rest) ≡ Some (length x)

-- What is read as a mark is one.
abbrev pub OnlyMarksAreRead : Type 0
OnlyMarksAreRead = (x : List ℕ) (n : ℕ) → mark_len x ≡ Some n → (y rest : List ℕ) × (x ≡ y ++ rest) × (n ≡ length y) × IsMark y rest

-- Octets are marks in a row, or there is one first place where none is, and not both.
abbrev pub RowOrFault : Type 0
RowOrFault = (x : List ℕ) (m : ℕ) → IsFirstBadMark x m → (IsRow x → ⊥) × ((n : ℕ) → IsFirstBadMark x n → m ≡ n)
