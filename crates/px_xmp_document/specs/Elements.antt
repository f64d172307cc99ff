-- The elements that follow the declaration, and what is wrong with them: with their nesting, else with their attributes, else
-- with their prefixes.
use Rattle.std.specs.Prelude.{ℕ, List}
use Rattle.px_xmp_markup.specs.Nesting.{IsTree}
use Rattle.px_xmp_markup.specs.TreeFaults.{IsTreeFault}
use Rattle.px_xmp_markup.specs.Distinct.{IsDistinctRow}
use Rattle.px_xmp_markup.specs.AttributeFaults.{IsAttributeFault}
use Rattle.px_xmp_document.specs.SpaceFaults.{HasSpaces, IsSpaceFault}
use Rattle.px_xmp_document.specs.declared.faults.Cause.{Cause}
use Rattle.px_xmp_document.specs.declared.faults.Cause.TheVariants.{NoCharacter, OtherEncoding, Nesting, Attributes, Spaces}

-- elements are nested; each has each attribute once; and each prefix is declared
abbrev pub AreElements : List ℕ → Type 0
AreElements x = IsTree x × IsDistinctRow x × HasSpaces x

-- what is wrong with elements
abbrev pub IsElementFault : List ℕ → Cause → ℕ → Type 0
IsElementFault x NoCharacter n = ⊥
IsElementFault x OtherEncoding n = ⊥
IsElementFault x (Nesting c) n = IsTreeFault x c n
IsElementFault x (Attributes c) n = IsTree x × IsAttributeFault x c n
IsElementFault x (Spaces c) n = IsTree x × IsDistinctRow x × IsSpaceFault x c n
