-- The laws of the first faults.
use Rattle.std.specs.Prelude.{◌≡◌, ℕ, List}
use Rattle.px_xmp_markup.specs.declared.faults.TreeCause.{TreeCause}
use Rattle.px_xmp_markup.specs.declared.faults.AttributeCause.{AttributeCause}
use Rattle.px_xmp_markup.specs.Nesting.{IsTree}
use Rattle.px_xmp_markup.specs.TreeFaults.{IsTreeFault}
use Rattle.px_xmp_markup.specs.Distinct.{IsDistinctRow}
use Rattle.px_xmp_markup.specs.AttributeFaults.{IsAttributeFault}

-- Octets with a fault are no tree, and have one first fault.
abbrev pub OneTreeFault : Type 0
OneTreeFault = (x : List ℕ) (c : TreeCause) (n : ℕ) → IsTreeFault x c n
    → (IsTree x → ⊥) × ((d : TreeCause) (m : ℕ) → IsTreeFault x d m → (c ≡ d) × (n ≡ m))

-- Octets with a fault are no row in which each attribute is there once, and have one first fault.
abbrev pub OneAttributeFault : Type 0
OneAttributeFault = (x : List ℕ) (c : AttributeCause) (n : ℕ) → IsAttributeFault x c n
    → (IsDistinctRow x → ⊥) × ((d : AttributeCause) (m : ℕ) → IsAttributeFault x d m → (c ≡ d) × (n ≡ m))
