-- A run ends with an allowed outcome, and reports it.
use Rattle.std.proofs.Common.{◌≡◌, ◌∙◌, ℕ, Bool, List, Option, Result, Ok, Err, OnOk, ap, inl, inr, refl, subst, sym}
use Rattle.std.specs.Prelude.{⊤}
use Rattle.px_engine.specs.declared.BlockKind.{BlockKind}
use Rattle.px_engine.specs.declared.CompareFault.{CompareFault}
use Rattle.px_engine.specs.declared.Fault.{Fault}
use Rattle.px_engine.specs.declared.Fault.TheVariants.{Refused, NormalTooLong, OutOfMemory, ReadFailed, WriteFailed}
use Rattle.px_engine.specs.declared.Side.{Side}
use Rattle.px_engine.specs.declared.Side.TheVariants.{First, Second}
use Rattle.px_engine.specs.Asking.{run_request}
use Rattle.px_engine.specs.Input.{CountsReads, CountsAllocFailureInRun, OnSide, most_read}
use Rattle.px_engine.specs.Runs.{Checks, CountsWrites, Normalises, Untouched}
use Rattle.px_bytes.specs.Devices.{Calls, Device, FailsOnce, device_of}
use Rattle.px_bytes.specs.Allocations.{AsksAtMost, MemoryCounts}
use Rattle.px_bytes.specs.Reading.{ConsumesAtMost}
use Rattle.px_runs.specs.Lines.{FlushesLast}
use Rattle.px_runs.specs.calls.Reporting.{ReportsPrinted}
use Rattle.px_runs.proofs.LineLaws.{device, failed_last, idle_last, last_after}
use Rattle.px_runs.specs.Endings.{EndsCheck, EndsNormalise, IsIdle, LeavesSecond, ReportsChecked, ReportsWritten}

pub ends_normalise : (r : Result ℕ Fault) (reader out lines : Device) (allocs allocs_now : MemoryCounts) (status : ℕ)
    → Normalises r reader.old out.old out.new
    → CountsReads r reader.calls reader.calls_now → CountsWrites r out.calls out.calls_now → CountsAllocFailureInRun r allocs allocs_now
    → AsksAtMost (run_request reader.old) allocs allocs_now → ConsumesAtMost reader.old reader.new most_read
    → ReportsWritten r status lines → EndsNormalise reader out lines allocs allocs_now status
ends_normalise r reader out lines allocs allocs_now status done reads writes memory asked lost reported =
    (r, done, reads, writes, (memory, asked, lost), reported)

pub ends_check : (r : Result BlockKind Fault) (reader lines : Device) (allocs allocs_now : MemoryCounts) (status : ℕ) → Checks r reader.old
    → CountsReads r reader.calls reader.calls_now → CountsAllocFailureInRun r allocs allocs_now
    → AsksAtMost (run_request reader.old) allocs allocs_now → ConsumesAtMost reader.old reader.new most_read
    → ReportsChecked r status lines → EndsCheck reader lines allocs allocs_now status
ends_check r reader lines allocs allocs_now status done reads memory asked lost reported =
    (r, done, reads, (memory, asked, lost), reported)

-- an unchanged reader is idle
idle : {R : Type 0} (calls : R → Calls) (bytes : R → Option (List ℕ)) (side : Side) (old new : R)
    → OnSide side (new ≡ old) ⊤ ⊤ → OnSide side (IsIdle (device_of calls bytes old new)) ⊤ ⊤
idle calls bytes First old new same = (ap calls same, ap bytes same)
idle calls bytes Second old new same = same

pub leaves_second : {R : Type 0} (calls : R → Calls) (bytes : R → Option (List ℕ)) (r : Result Bool CompareFault) (old new : R)
    → Untouched r old new → LeavesSecond r (device_of calls bytes old new)
leaves_second calls bytes (Ok same) old new h = tt
leaves_second calls bytes (Err e) old new h = idle calls bytes e.side old new h

-- ---- no byte after the flush

pub writes_last : {A : Type 0} (r : Result A Fault) (old new : Calls) (unflushed : ℕ) → CountsWrites r old new → OnOk r (unflushed ≡ 0)
    → FlushesLast old new unflushed
writes_last (Ok x) old new unflushed w h = λ e. h
writes_last (Err WriteFailed) old new unflushed w h = failed_last old new unflushed w
writes_last (Err (Refused cause place)) old new unflushed w h = idle_last old new unflushed w
writes_last (Err OutOfMemory) old new unflushed w h = idle_last old new unflushed w
writes_last (Err ReadFailed) old new unflushed w h = idle_last old new unflushed w
writes_last (Err NormalTooLong) old new unflushed w h = idle_last old new unflushed w

-- a text up to `mid`, and then its report
pub text_last : (r : Result ⊤ Fault) (status : ℕ) (old mid new : Calls) (shown reported : Option (List ℕ)) (after unflushed : ℕ)
    → CountsWrites r old mid → OnOk r (after ≡ 0) → (new ≡ mid → unflushed ≡ after) → FlushesLast mid new unflushed
    → ReportsPrinted r status (device mid new shown reported) → FlushesLast old new unflushed
text_last (Ok x) status old mid new shown reported after unflushed w h still last t = λ e. still t.1.0 ∙ h
text_last (Err WriteFailed) status old mid new shown reported after unflushed w h still last t = elim t [
  | inl q ↦ failed_last old new unflushed (subst (FailsOnce old) (sym q.2.0) w)
  | inr q ↦ absurd (q.0 refl)
]
text_last (Err (Refused cause place)) status old mid new shown reported after unflushed w h still last t =
    last_after old mid new unflushed w last
text_last (Err OutOfMemory) status old mid new shown reported after unflushed w h still last t = last_after old mid new unflushed w last
text_last (Err ReadFailed) status old mid new shown reported after unflushed w h still last t = last_after old mid new unflushed w last
text_last (Err NormalTooLong) status old mid new shown reported after unflushed w h still last t = last_after old mid new unflushed w last
