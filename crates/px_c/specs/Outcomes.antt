-- What each call returns, and what it writes for its caller.
use Rattle.std.specs.Prelude.{◌≡◌, ◌≤◌, ◌==◌, ℕ, List, [], ◌∷◌, ◌++◌, Some}
use Rattle.px_bytes.specs.declared.Cause.{Cause}
use Rattle.px_bytes.specs.Causes.{cause_of}
use Rattle.px_engine.specs.declared.normal.Given.{Given}
use Rattle.px_engine.specs.declared.kind.BlockKind.{BlockKind}
use Rattle.px_engine.specs.Files.{Said}
use Rattle.px_engine.specs.Slices.{IsKindOf, IsSameMeaning, IsPut}
use Rattle.px_engine.specs.Input.{HasMeaning, IsFaulty}
use Rattle.px_c.specs.declared.faults.ExifnormFault.{ExifnormFault}
use Rattle.px_c.specs.Numbers.{kind_number}

-- the file has no meaning, and this is its first fault: the number of its cause, and its byte offset
abbrev pub Refuses : List ℕ → ExifnormFault → Type 0
Refuses file fault = (c : Cause) × (cause_of fault.cause ≡ Some c) × IsFaulty file c fault.place

-- a text of C, which ends with a zero, is put into the caller's buffer, or the buffer is too small
abbrev pub PutsText : List ℕ → Given → List ℕ → List ℕ → Type 0
PutsText text given old new = IsPut given (text ++ 0 ∷ []) old new

-- the bytes that `of` makes of the file's meaning are put into the caller's buffer, or the buffer is too small
abbrev pub PutsTextOf : (Said → List ℕ) → List ℕ → Given → List ℕ → List ℕ → Type 0
PutsTextOf of file given old new = (s : Said) × HasMeaning file s × IsPut given (of s) old new

-- the file has a meaning of the kind with this number
abbrev pub IsOfKind : List ℕ → ℕ → Type 0
IsOfKind file n = (kind : BlockKind) × IsKindOf file kind × (n ≡ kind_number kind)

-- both files have a meaning: 1 if these are the same, otherwise 0
abbrev pub AreCompared : List ℕ → List ℕ → ℕ → Type 0
AreCompared f g n = (n ≤ 1) × IsSameMeaning f g (n == 1)
