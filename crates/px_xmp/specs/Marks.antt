-- Marks, as RDF needs them: which texts are there is said, and no comment or processing instruction. RDF/XML, 6 and 7.
use Rattle.std.specs.Prelude.{◌≡◌, ◌⊎◌, ℕ, Bool, List, [], ◌∷◌, ◌++◌}
use Rattle.px_xmp_text.specs.declared.pieces.TextKind.{TextKind}
use Rattle.px_xmp_text.specs.declared.pieces.TextKind.TheVariants.{CharacterData, CdataSection, AttributeValue}
use Rattle.px_xmp_marks.specs.Reading.{Named, Attr}
use Rattle.px_xmp_marks.specs.Grammar.{IsStartTag, IsEndTag}
use Rattle.px_xmp_marks.specs.Sections.{IsSection}
use Rattle.px_xmp_marks.specs.Comments.{IsComment}
use Rattle.px_xmp_marks.specs.Instructions.{IsInstruction}
use Rattle.px_xmp_marks.specs.Marks.{IsText, EndsText}

-- a start tag, of an empty element or not; an end tag; a text as it is written; or another mark
pub data Mark : Type 0 where
  Start : (name : Named) → (attributes : List Attr) → (empty : Bool) → Mark
  End : Mark
  Text : (kind : TextKind) → (octets : List ℕ) → Mark
  Other : Mark

-- the octets x before y are this mark
abbrev pub IsKind : Mark → List ℕ → List ℕ → Type 0
IsKind (Start n attributes empty) x y = IsStartTag x n attributes empty
IsKind End x y = (n : Named) × IsEndTag x n
IsKind (Text CharacterData octets) x y = IsText x × EndsText y × (octets ≡ x)
IsKind (Text CdataSection octets) x y = IsSection x octets
IsKind (Text AttributeValue octets) x y = ⊥
IsKind Other x y = ((content : List ℕ) × IsComment x content) ⊎ IsInstruction x

-- x is these marks in a row
abbrev pub AreRow : List Mark → List ℕ → Type 0
AreRow [] x = x ≡ []
AreRow (k ∷ more) x = (m rest : List ℕ) × IsKind k m rest × (x ≡ m ++ rest) × AreRow more rest
