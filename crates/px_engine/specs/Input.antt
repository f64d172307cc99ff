-- What reading a file returns.
-- Example: 1C 02 78 00 03 61 62 is read as a block of DataSets, and refused: its only DataSet lacks a byte of its data.
use Rattle.std.specs.Prelude.{◌≡◌, ◌<◌, ◌≤◌, ◌+◌, ◌*◌, ℕ, List, length, Result, Ok, Err, ⊤}
use Rattle.px_bytes.specs.declared.Cause.{Cause}
use Rattle.px_bytes.specs.declared.Refusal.{Refusal}
use Rattle.px_bytes.specs.declared.Refusal.TheVariants as refusal
use Rattle.px_bytes.specs.Devices.{Calls, one_failed}
use Rattle.px_bytes.specs.Parts.{limit}
use Rattle.px_bytes.specs.Allocations.{MemoryCounts}
use Rattle.px_engine.specs.declared.error.Fault.{Fault}
use Rattle.px_engine.specs.declared.error.Fault.TheVariants.{Refused, OutOfMemory, ReadFailed}
use Rattle.px_engine.specs.declared.error.CompareFault.{CompareFault}
use Rattle.px_engine.specs.declared.error.Side.{Side}
use Rattle.px_engine.specs.declared.error.Side.TheVariants.{First, Second}
use Rattle.px_engine.specs.declared.kind.BlockKind.{BlockKind}
use Rattle.px_engine.specs.Files.{Said, MeansAs, CanBeWritten, normal, kind_of, block_of, FirstIn, IsFaultIn}

-- how many bytes of a file are read at most: one more than the longest block and the six bytes before it
abbrev pub most_read : ℕ
most_read = limit + 7

-- a block, read as its kind, has this meaning; it can be written, in a normal form at most twice as long as the block
pub record HasMeaningAs (k : BlockKind) (b : List ℕ) (s : Said) : Type 0 where
  pub means : MeansAs k b s
  pub fits : CanBeWritten s
  pub bounded : length (normal s) ≤ 2 * length b

-- this is the block's first fault, and one of its faults; its byte offset is at most the limit; the block has no meaning
pub record IsFaultyIn (k : BlockKind) (b : List ℕ) (cause : Cause) (place : ℕ) : Type 0 where
  pub first : FirstIn k b cause place
  pub is_fault : IsFaultIn k b cause place
  pub bounded : place ≤ limit
  pub no_meaning : (s : Said) → MeansAs k b s → ⊥

-- a refusal for content names such a fault; a refusal with OutOfMemory means that an allocation failed
abbrev pub IsRefusedIn : BlockKind → List ℕ → ℕ → Refusal → Type 0
IsRefusedIn k b refused (refusal.Content cause place) = IsFaultyIn k b cause place
IsRefusedIn k b refused refusal.OutOfMemory = 0 < refused

-- the block in a file has this meaning, as above
abbrev pub HasMeaning : List ℕ → Said → Type 0
HasMeaning f s = HasMeaningAs (kind_of f) (block_of f) s

-- the first fault of the block in a file
abbrev pub IsFaulty : List ℕ → Cause → ℕ → Type 0
IsFaulty f cause place = IsFaultyIn (kind_of f) (block_of f) cause place

-- a refusal of the block in a file; `refused` is how many allocations have failed
abbrev pub IsRefused : List ℕ → ℕ → Refusal → Type 0
IsRefused f refused r = IsRefusedIn (kind_of f) (block_of f) refused r

-- a fault of a run that refuses the block in a file, or that an allocation failed
abbrev pub IsRunFault : List ℕ → ℕ → Fault → Type 0
IsRunFault f refused (Refused cause place) = IsFaulty f cause place
IsRunFault f refused OutOfMemory = 0 < refused
IsRunFault f refused fault = ⊥

-- a fault of the first file, with `first`; or one of the second, with `second`, and `well` of the first
abbrev pub OnSide : Side → Type 0 → Type 0 → Type 0 → Type 0
OnSide First first well second = first
OnSide Second first well second = well × second

-- ---- counts of failures, before a call and after it

-- the number of failed allocations rose by one exactly if that is the fault
abbrev pub CountsAllocFailureOfFault : Fault → ℕ → ℕ → Type 0
CountsAllocFailureOfFault OutOfMemory old new = new ≡ old + 1
CountsAllocFailureOfFault fault old new = new ≡ old

-- the number of failed allocations rose by one exactly if the result is that fault; success counts
-- none
abbrev pub CountsAllocFailureInRunBy : {A : Type 0} → Result A Fault → ℕ → ℕ → Type 0
CountsAllocFailureInRunBy (Ok x) old new = new ≡ old
CountsAllocFailureInRunBy (Err fault) old new = CountsAllocFailureOfFault fault old new

-- the number of failed allocations rose by one exactly if the result of a call for two files is
-- that fault
abbrev pub CountsAllocFailureInPairBy : {A : Type 0} → Result A CompareFault → ℕ → ℕ → Type 0
CountsAllocFailureInPairBy (Ok x) old new = new ≡ old
CountsAllocFailureInPairBy (Err e) old new = CountsAllocFailureOfFault e.fault old new

-- a failed allocation is counted, as above, by what is counted before and after the call
-- (`MemoryCounts`)
abbrev pub CountsAllocFailureInRun : {A : Type 0} → Result A Fault → MemoryCounts → MemoryCounts → Type 0
CountsAllocFailureInRun r old new = CountsAllocFailureInRunBy r old.failed_allocations new.failed_allocations

-- a failed allocation in a call for two files is counted, by `MemoryCounts`
abbrev pub CountsAllocFailureInPair : {A : Type 0} → Result A CompareFault → MemoryCounts → MemoryCounts → Type 0
CountsAllocFailureInPair r old new = CountsAllocFailureInPairBy r old.failed_allocations new.failed_allocations

-- a call of the reader failed exactly if that is the fault
abbrev pub CountsFault : Fault → Calls → Calls → Type 0
CountsFault ReadFailed calls calls_now = calls_now ≡ one_failed calls
CountsFault fault calls calls_now = calls_now ≡ calls

-- a call of the reader failed exactly if the result is that fault; success counts none
abbrev pub CountsReads : {A : Type 0} → Result A Fault → Calls → Calls → Type 0
CountsReads (Ok x) calls calls_now = calls_now ≡ calls
CountsReads (Err fault) calls calls_now = CountsFault fault calls calls_now

-- the faults of a whole read
abbrev pub IsReadFault : Fault → Type 0
IsReadFault OutOfMemory = ⊤
IsReadFault ReadFailed = ⊤
IsReadFault fault = ⊥
