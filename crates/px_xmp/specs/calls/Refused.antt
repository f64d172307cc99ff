-- Why a packet is refused as one that is wrong.
use Rattle.std.specs.Prelude.{◌≡◌, ◌⊎◌, ℕ, true, false, Some, List, ⊤, Result, Ok, Err}
use Rattle.px_xmp_text.specs.Texts.{text_of}
use Rattle.px_xmp_document.specs.Scopes.{Item}
use Rattle.px_xmp_forms.specs.Causes.{is_rare_in_rdf}
use Rattle.px_xmp_forms.specs.Forms.{is_white}
use Rattle.px_xmp_forms.specs.declared.faults.Refusal.{Refusal}
use Rattle.px_xmp_forms.specs.declared.faults.Refusal.TheVariants.{Content, OutOfMemory}
use Rattle.px_xmp_forms.specs.declared.faults.Cause.{Cause}
use Rattle.px_xmp_forms.specs.declared.faults.Cause.TheVariants.{NoRdf}
use Rattle.px_xmp.specs.Nodes.{Nodes, Nothing, Words, Element, AreNodes}
use Rattle.px_xmp.specs.Reading as reading
use Rattle.px_xmp.specs.Reading.{What}

-- nodes are not rdf:RDF, or the root around it; or the packet is left to another reader
abbrev pub IsCauseOfReader : Cause → Type 0
IsCauseOfReader cause = (cause ≡ NoRdf) ⊎ (is_rare_in_rdf cause ≡ true)

-- a call refuses a packet only by one of these causes
abbrev pub IsOfReader : {X : Type 0} → Result X Refusal → Type 0
IsOfReader (Ok x) = ⊤
IsOfReader (Err (Content cause place)) = IsCauseOfReader cause
IsOfReader (Err OutOfMemory) = ⊤

-- what is read is a tag, or a text that is more than white space
abbrev pub IsOther : What → Type 0
IsOther (reading.Tag t) = ⊤
IsOther reading.End = ⊤
IsOther (reading.Words kind octets) = (t : List ℕ) × (text_of kind octets ≡ Some t) × (is_white t ≡ false)
IsOther reading.Other = ⊥

-- a text that is more than white space is before any element
abbrev pub HasText : Nodes → Type 0
HasText Nothing = ⊥
HasText (Words t more) = (is_white t ≡ false) ⊎ HasText more
HasText (Element tag place inner more) = ⊥

-- octets at an offset begin with nodes of which this is so
abbrev pub BeginsWithText : List Item → ℕ → List ℕ → Type 0
BeginsWithText scope at x = (nodes : Nodes) × (y : List ℕ) × HasText nodes × AreNodes nodes scope at x y
