-- Attributes that are there once. XML 1.0, 3.1, Unique Att Spec.
use Rattle.std.specs.Prelude.{◌≡◌, ◌⊎◌, ℕ, Bool, ⊤, List, [], ◌∷◌}
use Rattle.std.specs.List.{AllByRecursion}
use Rattle.px_xmp_marks.specs.Reading.{Named, Attr}
use Rattle.px_xmp_marks.specs.Grammar.{IsStartTag}
use Rattle.px_xmp_marks.specs.Marks.{AreMarks}

-- one of these attributes has the name n
abbrev pub IsAmong : Named → List Attr → Type 0
IsAmong n [] = ⊥
IsAmong n (a ∷ more) = (a.name ≡ n) ⊎ IsAmong n more

-- no two of these attributes have one name
abbrev pub AreDistinct : List Attr → Type 0
AreDistinct [] = ⊤
AreDistinct (a ∷ more) = (IsAmong a.name more → ⊥) × AreDistinct more

-- two of these attributes have one name
abbrev pub AreRepeated : List Attr → Type 0
AreRepeated [] = ⊥
AreRepeated (a ∷ more) = IsAmong a.name more ⊎ AreRepeated more

-- the mark m has each attribute once, if it is a start tag or the tag of an empty element (productions 40 and 44)
abbrev pub HasDistinct : List ℕ → Type 0
HasDistinct m = (n : Named) (attributes : List Attr) (empty : Bool) → IsStartTag m n attributes empty → AreDistinct attributes

-- the mark m has an attribute twice
abbrev pub HasRepeated : List ℕ → Type 0
HasRepeated m = (n : Named) × (attributes : List Attr) × (empty : Bool) × IsStartTag m n attributes empty × AreRepeated attributes

-- x is marks in a row, each with each attribute once
abbrev pub IsDistinctRow : List ℕ → Type 0
IsDistinctRow x = (ms : List (List ℕ)) × AreMarks ms x [] × AllByRecursion HasDistinct ms
