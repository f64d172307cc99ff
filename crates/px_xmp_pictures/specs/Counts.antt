-- What a call that reads XMP states if it fails.
use Rattle.std.specs.Prelude.{◌≡◌, ◌+◌, ℕ, ⊤, Result, Ok, Err}
use Rattle.px_bytes.specs.Allocations.{MemoryCounts}
use Rattle.px_xmp_forms.specs.declared.faults.Refusal.{Refusal}
use Rattle.px_xmp_forms.specs.declared.faults.Refusal.TheVariants as refusal
use Rattle.px_xmp_pictures.specs.declared.unjoined.Unjoined.{Unjoined}
use Rattle.px_xmp_pictures.specs.declared.unjoined.Unjoined.TheVariants.{NotRead, OutOfMemory}

-- a packet that is refused isn't read
abbrev pub unjoined : Refusal → Unjoined
unjoined (refusal.Content cause place) = NotRead
unjoined refusal.OutOfMemory = OutOfMemory

-- if a call returns that XMP isn't read, P holds
abbrev pub IfLeft : {X : Type 0} → Result X Unjoined → Type 0 → Type 0
IfLeft (Ok x) P = ⊤
IfLeft (Err NotRead) P = P
IfLeft (Err OutOfMemory) P = ⊤

-- OutOfMemory means one failed allocation; any other result means none: `old` and `new` are the counts
abbrev pub CountsAllocFailureOfXmp : Unjoined → ℕ → ℕ → Type 0
CountsAllocFailureOfXmp NotRead old new = new ≡ old
CountsAllocFailureOfXmp OutOfMemory old new = new ≡ old + 1

-- the same of a call's result: success leaves the number as it was
abbrev pub CountsAllocFailureInXmpBy : {X : Type 0} → Result X Unjoined → ℕ → ℕ → Type 0
CountsAllocFailureInXmpBy (Ok x) old new = new ≡ old
CountsAllocFailureInXmpBy (Err e) old new = CountsAllocFailureOfXmp e old new

-- the same of a call's result, with the counts of a memory
abbrev pub CountsAllocFailureInXmp : {X : Type 0} → Result X Unjoined → MemoryCounts → MemoryCounts → Type 0
CountsAllocFailureInXmp r old new = CountsAllocFailureInXmpBy r old.failed_allocations new.failed_allocations
