-- What whole runs return, and what they do to their devices.
use Rattle.std.specs.Prelude.{◌≡◌, ◌<◌, ◌≤◌, ◌*◌, ◌↔◌, ℕ, Bool, IsTrue, List, length, Option, IfSome, Result, Ok, Err, ⊤}
use Rattle.std.specs.Io.KnownBytes.{Appends}
use Rattle.px_bytes.specs.Devices.{AppendsPrefix, Calls, FailsOnce, IsShort, SendsOnce, one_flush}
use Rattle.px_bytes.specs.Parts.{limit}
use Rattle.px_engine.specs.declared.error.Fault.{Fault}
use Rattle.px_engine.specs.declared.error.Fault.TheVariants.{Refused, NormalTooLong, OutOfMemory, ReadFailed, WriteFailed}
use Rattle.px_engine.specs.declared.error.CompareFault.{CompareFault}
use Rattle.px_engine.specs.declared.kind.BlockKind.{BlockKind}
use Rattle.px_engine.specs.Files.{Said, kind_of_meaning, block_of, normal}
use Rattle.px_engine.specs.Input.{HasMeaning, IsFaulty, OnSide, CountsFault}

-- ---- what is known of a file. `file` is the bytes that a reader returns, if the reader's contract states them

-- its meaning is s
abbrev pub KnownMeaning : Option (List ℕ) → Said → Type 0
KnownMeaning file s = IfSome file (λ f. HasMeaning f s)

-- a fault of reading and judging it: its first fault; or a failed read or a failed allocation. This definition doesn't state when
-- those two come; the clauses `reads` and `memory` of each run do
abbrev pub Stops : Fault → Option (List ℕ) → Type 0
Stops (Refused cause place) file = (place ≤ limit) × IfSome file (λ f. IsFaulty f cause place)
Stops OutOfMemory file = ⊤
Stops ReadFailed file = ⊤
Stops fault file = ⊥

-- ---- one file

-- the kind of the file's meaning
abbrev pub Checks : Result BlockKind Fault → Option (List ℕ) → Type 0
Checks (Ok kind) file = (s : Said) × KnownMeaning file s × (kind ≡ kind_of_meaning s)
Checks (Err fault) file = Stops fault file

-- The writer had taken `old` before the run of `file` and has taken `new` after it. Success: exactly the normal form of the file's
-- meaning, whose length is returned. Too long a form: nothing; the form of the file's meaning is longer than the limit, and the
-- block is longer than half of the limit. A failed write: a prefix of that form. Every other fault: nothing.
abbrev pub Normalises : Result ℕ Fault → Option (List ℕ) → Option (List ℕ) → Option (List ℕ) → Type 0
Normalises (Ok n) file old new = (s : Said) × KnownMeaning file s × Appends old new (normal s) × (n ≡ length (normal s)) × (n ≤ limit)
Normalises (Err NormalTooLong) file old new =
    (s : Said) × KnownMeaning file s × (limit < length (normal s)) × IfSome file (λ f. limit < 2 * length (block_of f)) × (new ≡ old)
Normalises (Err WriteFailed) file old new = (s : Said) × KnownMeaning file s × AppendsPrefix old new (normal s)
    × (length (normal s) ≤ limit)
Normalises (Err fault) file old new = Stops fault file × (new ≡ old)

-- Success: a form of at most 8,192 bytes was one write, if the writer took it whole, and one flush. `wrote` and `flushed` are the
-- relations of single calls.
abbrev pub FormOnce : {E W : Type 0} → (W → List ℕ → Result ℕ E → W → Type 0) → (W → W → Type 0) → Result ℕ Fault → Option (List ℕ)
    → W → W → Type 0
FormOnce wrote flushed (Ok n) file old new =
    (s : Said) × KnownMeaning file s × (IsShort (length (normal s)) → SendsOnce wrote flushed old new (normal s))
FormOnce wrote flushed (Err fault) file old new = ⊤

-- Success: one flush, and no call of the writer failed. A failed write: one call failed, which may be the flush. Every other fault:
-- no call failed, and none was a flush.
abbrev pub CountsWrites : {A : Type 0} → Result A Fault → Calls → Calls → Type 0
CountsWrites (Ok x) calls calls_now = calls_now ≡ one_flush calls
CountsWrites (Err WriteFailed) calls calls_now = FailsOnce calls calls_now
CountsWrites (Err fault) calls calls_now = calls_now ≡ calls

-- ---- two files

-- whether the two files have the same meaning
abbrev pub Compares : Result Bool CompareFault → Option (List ℕ) → Option (List ℕ) → Type 0
Compares (Ok same) first second = (s t : Said) × KnownMeaning first s × KnownMeaning second t × (IsTrue same ↔ (s ≡ t))
Compares (Err e) first second = OnSide e.side (Stops e.fault first) ((s : Said) × KnownMeaning first s) (Stops e.fault second)

-- if the fault is the first file's, the second reader is unchanged
abbrev pub Untouched : {R : Type 0} → Result Bool CompareFault → R → R → Type 0
Untouched (Ok same) old new = ⊤
Untouched (Err e) old new = OnSide e.side (new ≡ old) ⊤ ⊤

-- the fault is a failed read exactly if the count of that side's reader rose
abbrev pub CountsSides : Result Bool CompareFault → Calls → Calls → Calls → Calls → Type 0
CountsSides (Ok same) first first_now second second_now = (first_now ≡ first) × (second_now ≡ second)
CountsSides (Err e) first first_now second second_now =
    OnSide e.side (CountsFault e.fault first first_now × (second_now ≡ second)) (first_now ≡ first) (CountsFault e.fault second second_now)
