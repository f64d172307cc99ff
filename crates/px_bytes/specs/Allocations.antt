-- What the contract of a call that allocates states of its memory: the number of failed allocations and of the bytes that the
-- allocator was asked for, before the call and after it.
use Rattle.std.specs.Prelude.{◌≡◌, ◌+◌, ◌*◌, ◌≤◌, ℕ, max, Result, Ok, Err}
use Rattle.px_bytes.specs.Parts.{limit}

-- the number of failed allocations, and the bytes that the allocator was asked for, whether the allocation succeeded or not
pub record MemoryCounts : Type 0 where
  pub failed_allocations : ℕ
  pub asked : ℕ

-- a call that fails counts one failed allocation, and a call that succeeds counts none: `old` and `new` are the counts
abbrev pub CountsAllocFailureBy : {A E : Type 0} → Result A E → ℕ → ℕ → Type 0
CountsAllocFailureBy (Ok x) old new = new ≡ old
CountsAllocFailureBy (Err e) old new = new ≡ old + 1

-- a failed allocation is counted, as above, by what is counted before and after the call
-- (`MemoryCounts`)
abbrev pub CountsAllocFailure : {A E : Type 0} → Result A E → MemoryCounts → MemoryCounts → Type 0
CountsAllocFailure r old new = CountsAllocFailureBy r old.failed_allocations new.failed_allocations

-- A call may ask for so many bytes more than twice what is in memory already: sixteen for each byte of the longest block, as much as
-- strips of one byte each take. If the allocation of more fails, that doesn't mean that memory is short.
abbrev pub IsModestRequest : ℕ → Type 0
IsModestRequest bytes = bytes ≤ 16 * limit

-- the new capacity of a vector that has too little for `wanted` elements, all of which the allocator is then asked for: at least
-- twice as much, and at least four
abbrev pub enlarged : ℕ → ℕ → ℕ
enlarged capacity wanted = max wanted (2 * max 2 capacity)

-- a call has asked for no more than so many bytes, whether it succeeded or not
abbrev pub AsksAtMost : ℕ → MemoryCounts → MemoryCounts → Type 0
AsksAtMost bytes old new = new.asked ≤ old.asked + bytes
