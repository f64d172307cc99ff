-- Limits of this reader on the tags of a document, beside those of the crates below.
use Rattle.std.specs.Prelude.{◌≡◌, ◌≤◌, ◌<◌, ◌++◌, ℕ, Bool, Option, Some, None, List, ⊤, length, drop}
use Rattle.px_xmp_marks.specs.Reading.{Named, Attr}
use Rattle.px_xmp_marks.specs.Grammar.{IsStartTag}
use Rattle.px_xmp_marks.specs.Marks.{AreMarks}
use Rattle.px_xmp_document.specs.Tags.{attribute_limit}
use Rattle.px_xmp_forms.specs.Languages.{language_limit}
use Rattle.px_xmp.specs.Nodes.{Nodes, Nothing, Words, Element}

-- ---- languages

-- a tag declares no language, or one with few octets
abbrev pub IsShortLanguage : Option (List ℕ) → Type 0
IsShortLanguage None = ⊤
IsShortLanguage (Some l) = length l ≤ language_limit

-- each language that a tag declares is short
abbrev pub DeclareShortLanguages : Nodes → Type 0
DeclareShortLanguages Nothing = ⊤
DeclareShortLanguages (Words t more) = DeclareShortLanguages more
DeclareShortLanguages (Element tag place inner more) =
    IsShortLanguage tag.language × DeclareShortLanguages inner × DeclareShortLanguages more

-- ---- attributes

-- the octets before the offset n are marks in a row, and a tag with more attributes follows them
pub record IsCrowded (x : List ℕ) (n : ℕ) : Type 0 where
  pub marks : List (List ℕ)
  pub before : AreMarks marks x (drop n x)
  pub name : Named
  pub attributes : List Attr
  pub empty : Bool
  pub tag : List ℕ
  pub rest : List ℕ
  pub is_tag : IsStartTag tag name attributes empty
  pub whole : drop n x ≡ tag ++ rest
  pub many : attribute_limit < length attributes

-- no tag has more
abbrev pub NoneCrowded : List ℕ → Type 0
NoneCrowded x = (n : ℕ) → IsCrowded x n → ⊥

-- at the offset n is the first tag that has
pub record IsFirstCrowded (x : List ℕ) (n : ℕ) : Type 0 where
  pub crowded : IsCrowded x n
  pub first : (m : ℕ) → IsCrowded x m → n ≤ m
