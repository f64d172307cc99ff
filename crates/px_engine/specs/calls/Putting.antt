-- What writing a form into the caller's buffer returns, for a block that is read as its kind.
use Rattle.std.specs.Prelude.{◌<◌, ◌≤◌, ℕ, List, length, Option, Some, None, Result, Ok, Err}
use Rattle.px_bytes.specs.Parts.{limit}
use Rattle.px_engine.specs.declared.error.Fault.{Fault}
use Rattle.px_engine.specs.declared.error.Fault.TheVariants.{Refused, NormalTooLong, OutOfMemory, ReadFailed, WriteFailed}
use Rattle.px_engine.specs.declared.normal.Given.{Given}
use Rattle.px_engine.specs.declared.kind.BlockKind.{BlockKind}
use Rattle.px_engine.specs.Files.{Said, normal}
use Rattle.px_engine.specs.Input.{HasMeaningAs, IsFaultyIn}
use Rattle.px_engine.specs.Slices.{IsPut}

-- the result of a run, from whether the form is no longer than the limit
abbrev pub given_of : Option Given → Result Given Fault
given_of (Some given) = Ok given
given_of None = Err NormalTooLong

-- the form of the block's meaning is put
abbrev pub PutsBlock : BlockKind → List ℕ → Given → List ℕ → List ℕ → Type 0
PutsBlock k b given old new = (s : Said) × HasMeaningAs k b s × (length (normal s) ≤ limit) × IsPut given (normal s) old new

-- why it isn't
abbrev pub IsUnput : BlockKind → List ℕ → ℕ → Fault → Type 0
IsUnput k b refused (Refused cause place) = IsFaultyIn k b cause place
IsUnput k b refused OutOfMemory = 0 < refused
IsUnput k b refused NormalTooLong = (s : Said) × HasMeaningAs k b s × (limit < length (normal s))
IsUnput k b refused ReadFailed = ⊥
IsUnput k b refused WriteFailed = ⊥
