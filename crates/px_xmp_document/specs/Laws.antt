-- The laws of the first fault, and of namespaces.
use Rattle.std.specs.Prelude.{◌≡◌, ℕ, true, Some, List}
use Rattle.px_xmp_text.specs.Texts.{text_of}
use Rattle.px_xmp_text.specs.declared.pieces.TextKind.TheVariants.{AttributeValue}
use Rattle.px_xmp_marks.specs.Declarations.{every}
use Rattle.px_xmp_markup.specs.Nesting.{IsTree}
use Rattle.px_xmp_markup.specs.declared.faults.AttributeCause.{AttributeCause}
use Rattle.px_xmp_markup.specs.declared.faults.AttributeCause.TheVariants.{AttributeTwice}
use Rattle.px_xmp_markup.specs.AttributeFaults.{IsAttributeFault}
use Rattle.px_xmp_document.specs.declared.faults.Cause.{Cause}
use Rattle.px_xmp_document.specs.declared.faults.SpaceCause.{SpaceCause}
use Rattle.px_xmp_document.specs.Bindings.{is_plain}
use Rattle.px_xmp_document.specs.SpaceFaults.{HasSpaces, IsSpaceFault}
use Rattle.px_xmp_document.specs.Elements.{AreElements, IsElementFault}
use Rattle.px_xmp_document.specs.Document.{IsFile}
use Rattle.px_xmp_document.specs.Faults.{IsFileFault}

-- Octets with a fault are no document, with a byte order mark or without, and have one first fault.
abbrev pub OneFault : Type 0
OneFault = (x : List ℕ) (c : Cause) (n : ℕ) → IsFileFault x c n
    → (IsFile x → ⊥) × ((d : Cause) (m : ℕ) → IsFileFault x d m → (c ≡ d) × (n ≡ m))

-- Octets with a fault of elements are no elements without one, and have one first fault.
abbrev pub OneElementFault : Type 0
OneElementFault = (x : List ℕ) (c : Cause) (n : ℕ) → IsElementFault x c n
    → (AreElements x → ⊥) × ((d : Cause) (m : ℕ) → IsElementFault x d m → (c ≡ d) × (n ≡ m))

-- Of elements that are nested, none begins with no mark: the attributes of one are wrong because one is there twice.
abbrev pub AttributesAreTwice : Type 0
AttributesAreTwice = (x : List ℕ) (c : AttributeCause) (n : ℕ) → IsTree x → IsAttributeFault x c n → c ≡ AttributeTwice

-- Octets with a fault are no row in which each prefix is declared, and have one first fault.
abbrev pub OneSpaceFault : Type 0
OneSpaceFault = (x : List ℕ) (c : SpaceCause) (n : ℕ) → IsSpaceFault x c n
    → (HasSpaces x → ⊥) × ((d : SpaceCause) (m : ℕ) → IsSpaceFault x d m → (c ≡ d) × (n ≡ m))

-- The name of a namespace that is accepted is its own text, as the value of an attribute.
abbrev pub PlainSpacesAreTexts : Type 0
PlainSpacesAreTexts = (u : List ℕ) → every is_plain u ≡ true → text_of AttributeValue u ≡ Some u
