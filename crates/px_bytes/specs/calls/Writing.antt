-- Failed allocations of a call that writes.
use Rattle.std.specs.Prelude.{◌≡◌, ◌+◌, ℕ, Result, Ok, Err}
use Rattle.px_bytes.specs.declared.causes.WriteRefusal.{WriteRefusal}
use Rattle.px_bytes.specs.declared.causes.WriteRefusal.TheVariants.{NormalTooLong, OutOfMemory, WriteFailed}
use Rattle.px_bytes.specs.Allocations.{MemoryCounts}

-- OutOfMemory means one failed allocation; any other result means none: `old` and `new` are the counts
abbrev pub CountsAllocFailureInWriteBy : {X : Type 0} → Result X WriteRefusal → ℕ → ℕ → Type 0
CountsAllocFailureInWriteBy (Ok x) old new = new ≡ old
CountsAllocFailureInWriteBy (Err NormalTooLong) old new = new ≡ old
CountsAllocFailureInWriteBy (Err OutOfMemory) old new = new ≡ old + 1
CountsAllocFailureInWriteBy (Err WriteFailed) old new = new ≡ old

-- a failed allocation is counted, as above, by what is counted before and after the call
-- (`MemoryCounts`)
abbrev pub CountsAllocFailureInWrite : {X : Type 0} → Result X WriteRefusal → MemoryCounts → MemoryCounts → Type 0
CountsAllocFailureInWrite r old new = CountsAllocFailureInWriteBy r old.failed_allocations new.failed_allocations
