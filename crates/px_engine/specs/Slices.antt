-- What calls over files in memory return.
-- Example: into a buffer of 30 bytes a form of 26 is put whole, and the last four bytes stay. A buffer of 20 stays as it is, and the
-- caller is told that 26 are needed.
use Rattle.std.specs.Prelude.{◌≡◌, ◌↔◌, ◌<◌, ◌≤◌, ◌*◌, ◌++◌, ℕ, Bool, IsTrue, List, length, drop}
use Rattle.px_bytes.specs.Parts.{limit}
use Rattle.px_engine.specs.declared.error.Fault.{Fault}
use Rattle.px_engine.specs.declared.error.Fault.TheVariants.{NormalTooLong}
use Rattle.px_engine.specs.declared.error.CompareFault.{CompareFault}
use Rattle.px_engine.specs.declared.normal.Given.{Given}
use Rattle.px_engine.specs.declared.normal.Given.TheVariants.{Whole, Needs}
use Rattle.px_engine.specs.declared.kind.BlockKind.{BlockKind}
use Rattle.px_engine.specs.Files.{Said, kind_of_meaning, normal, block_of}
use Rattle.px_engine.specs.Input.{HasMeaning, IsRunFault, OnSide}

-- the kind of the file's meaning
abbrev pub IsKindOf : List ℕ → BlockKind → Type 0
IsKindOf f kind = (s : Said) × HasMeaning f s × (kind ≡ kind_of_meaning s)

-- whether the two files have the same meaning
abbrev pub IsSameMeaning : List ℕ → List ℕ → Bool → Type 0
IsSameMeaning f g same = (s t : Said) × HasMeaning f s × HasMeaning g t × (IsTrue same ↔ (s ≡ t))

-- a fault of the first file; or one of the second, if the first has a meaning
abbrev pub IsRunFaultAt : List ℕ → List ℕ → ℕ → CompareFault → Type 0
IsRunFaultAt f g refused e = OnSide e.side (IsRunFault f refused e.fault) ((s : Said) × HasMeaning f s) (IsRunFault g refused e.fault)

-- n is the normal form of s, the meaning of the file f
abbrev pub IsFormOf : List ℕ → Said → List ℕ → Type 0
IsFormOf f s n = HasMeaning f s × (n ≡ normal s) × (length n ≤ limit)

-- Why nothing was written of f: it has no meaning, and this is its first fault; or the form of its meaning is too long; or
-- an allocation failed. No device is called, so none fails.
abbrev pub IsUnwritten : List ℕ → ℕ → Fault → Type 0
IsUnwritten f refused NormalTooLong = (s : Said) × HasMeaning f s × (limit < length (normal s)) × (limit < 2 * length (block_of f))
IsUnwritten f refused fault = IsRunFault f refused fault

-- the fault of the first file; or of the second, if the first has a form
abbrev pub IsUnwrittenAt : List ℕ → List ℕ → ℕ → CompareFault → Type 0
IsUnwrittenAt f g refused e =
    OnSide e.side (IsUnwritten f refused e.fault) ((s : Said) × (n : List ℕ) × IsFormOf f s n) (IsUnwritten g refused e.fault)

-- A form and a caller's buffer: the buffer begins with the form and is unchanged after it; or the buffer is too small, and is
-- unchanged. In both cases the form's length is returned.
abbrev pub IsPut : Given → List ℕ → List ℕ → List ℕ → Type 0
IsPut (Whole len) form old new = (len ≡ length form) × (length form ≤ length old) × (new ≡ form ++ drop (length form) old)
IsPut (Needs len) form old new = (len ≡ length form) × (length old < length form) × (new ≡ old)

-- the form is that of the file's meaning
abbrev pub PutsForm : List ℕ → Given → List ℕ → List ℕ → Type 0
PutsForm f given old new = (s : Said) × (n : List ℕ) × IsFormOf f s n × IsPut given n old new
