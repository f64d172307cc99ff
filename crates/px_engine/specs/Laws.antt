-- The laws that follow from the definitions.
use Rattle.std.specs.Prelude.{◌≡◌, ◌≤◌, ◌*◌, ◌⊎◌, ◌↔◌, ℕ, List, length, take}
use Rattle.px_bytes.specs.declared.Cause.{Cause}
use Rattle.px_bytes.specs.Numbers.{AreBytes}
use Rattle.px_bytes.specs.Parts.{limit}
use Rattle.px_engine.specs.Files.{Said, Says, CanBeWritten, normal, block_of, FirstFaultOf, FaultOf}
use Rattle.px_engine.specs.Input.{most_read}

-- A file has at most one meaning.
abbrev pub OneMeaningOfFile : Type 0
OneMeaningOfFile = (f : List ℕ) (s t : Said) → Says f s → Says f t → s ≡ t

-- The meaning of a file of bytes can be written.
abbrev pub MeaningCanBeWritten : Type 0
MeaningCanBeWritten = (f : List ℕ) (s : Said) → AreBytes f → Says f s → CanBeWritten s

-- A normal form that is no longer than the limit has the meaning that it was written from.
abbrev pub FormHasMeaning : Type 0
FormHasMeaning = (s : Said) → CanBeWritten s → length (normal s) ≤ limit → Says (normal s) s

-- Normal forms are equal exactly if the meanings are, of either kind.
abbrev pub FormDecides : Type 0
FormDecides = (s t : Said) → CanBeWritten s → CanBeWritten t → length (normal s) ≤ limit → length (normal t) ≤ limit
    → (normal s ≡ normal t) ↔ (s ≡ t)

-- A normal form, as a file, is the normal form of its meaning.
abbrev pub NormalIsItsOwn : Type 0
NormalIsItsOwn = (s t : Said) → CanBeWritten s → length (normal s) ≤ limit → Says (normal s) t → normal t ≡ normal s

-- A normal form is at most twice as long as the block of any file with its meaning.
abbrev pub NormalBound : Type 0
NormalBound = (f : List ℕ) (s : Said) → AreBytes f → Says f s → length (normal s) ≤ 2 * length (block_of f)

-- A first fault is a fault. A file with a fault has no meaning. Each file has a meaning or a first fault, and at most one
-- first fault.
abbrev pub FaultsDecide : Type 0
FaultsDecide = ((f : List ℕ) (c : Cause) (p : ℕ) → FirstFaultOf f c p → FaultOf f c p)
    × ((f : List ℕ) (c : Cause) (p : ℕ) (s : Said) → FaultOf f c p → Says f s → ⊥)
    × ((f : List ℕ) → ((s : Said) × Says f s) ⊎ ((c : Cause) × (p : ℕ) × FirstFaultOf f c p))
    × ((f : List ℕ) (c d : Cause) (p q : ℕ) → FirstFaultOf f c p → FirstFaultOf f d q → (c ≡ d) × (p ≡ q))

-- the bytes that are read of a file
abbrev pub taken : List ℕ → List ℕ
taken f = take most_read f

-- A file has the meaning of the bytes that are read of it, and their first fault.
abbrev pub TakenDecides : Type 0
TakenDecides = ((f : List ℕ) (s : Said) → Says (taken f) s ↔ Says f s)
    × ((f : List ℕ) (c : Cause) (p : ℕ) → FirstFaultOf (taken f) c p ↔ FirstFaultOf f c p)
