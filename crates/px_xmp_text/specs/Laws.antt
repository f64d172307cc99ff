-- The laws of texts.
use Rattle.std.specs.Prelude.{◌≡◌, ◌≤◌, ◌*◌, ◌↔◌, ◌==◌, ℕ, false, List, Some, None, length}
use Rattle.std.specs.List.{list_any}
use Rattle.px_xmp_text.specs.Texts.{text_of, normal_text, first_fault}
use Rattle.px_xmp_text.specs.declared.pieces.TextKind.{TextKind}
use Rattle.px_xmp_text.specs.declared.pieces.TextKind.TheVariants.{CharacterData}

-- Octets have a text exactly if there is no fault.
abbrev pub FaultOrText : Type 0
FaultOrText = (k : TextKind) (x : List ℕ) → (first_fault k x ≡ None) ↔ ((t : List ℕ) × (text_of k x ≡ Some t))

-- Octets without an `&` have no fault.
abbrev pub NoFaultUnlessReference : Type 0
NoFaultUnlessReference = (k : TextKind) (x : List ℕ) → list_any (λ o. o == 38) x ≡ false → first_fault k x ≡ None

-- A normal form, as character data, has its text.
abbrev pub NormalReadsBack : Type 0
NormalReadsBack = (t : List ℕ) → text_of CharacterData (normal_text t) ≡ Some t

-- Texts have one normal form exactly if they are one.
abbrev pub NormalIsInjective : Type 0
NormalIsInjective = (s t : List ℕ) → (normal_text s ≡ normal_text t) ↔ (s ≡ t)

-- A normal form is no shorter than its text and at most five times as long.
abbrev pub NormalBound : Type 0
NormalBound = (t : List ℕ) → (length t ≤ length (normal_text t)) × (length (normal_text t) ≤ 5 * length t)
