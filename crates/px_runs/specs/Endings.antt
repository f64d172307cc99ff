-- How the runs of the program end.
use Rattle.std.specs.Prelude.{◌≡◌, ◌⊎◌, ◌+◌, ℕ, Bool, true, false, List, Option, Some, None, IfSome, codes, Result, Ok, Err, ⊤}
use Rattle.px_engine.specs.declared.BlockKind.{BlockKind}
use Rattle.px_engine.specs.declared.BlockKind.TheVariants as kind
use Rattle.px_engine.specs.declared.CompareFault.{CompareFault}
use Rattle.px_engine.specs.declared.Fault.{Fault}
use Rattle.px_engine.specs.declared.Fault.TheVariants.{Refused, WriteFailed}
use Rattle.px_engine.specs.Files.{Said}
use Rattle.px_engine.specs.Input.{CountsAllocFailureInRun, CountsAllocFailureInPair, CountsReads, OnSide, most_read}
use Rattle.px_engine.specs.Asking.{run_request}
use Rattle.px_engine.specs.Laws.{taken}
use Rattle.px_engine.specs.Runs.{KnownMeaning, Stops, Checks, Compares, Normalises, CountsWrites, CountsSides}
use Rattle.px_engine.specs.Prints.{listing, caption_text}
use Rattle.px_runs.specs.declared.job.Job.{Job}
use Rattle.px_runs.specs.declared.job.Job.TheVariants.{Show, Check, Captions, Normalise}
use Rattle.px_bytes.specs.declared.Cause.{Cause}
use Rattle.px_bytes.specs.Devices.{Device}
use Rattle.px_bytes.specs.Allocations.{MemoryCounts, AsksAtMost}
use Rattle.px_bytes.specs.Reading.{ConsumesAtMost}
use Rattle.px_xmp_lines.specs.Lines.{is_packet}
use Rattle.px_runs.specs.Packets.{is_other, PrintsPacket}
use Rattle.px_runs.specs.Lines.{IsFailed, IsFlushed, IsWell, Took, TookNothing, TookPrefix, Reports, ReportsFault}

-- ---- the status and the line of an outcome

-- for a normal form: no line
abbrev pub ReportsWritten : Result ℕ Fault → ℕ → Device → Type 0
ReportsWritten (Ok n) status lines = (status ≡ 0) × IsWell lines × TookNothing lines
ReportsWritten (Err e) status lines = ReportsFault e None status lines

-- the line of an accepted block
abbrev pub accepted : BlockKind → List ℕ
accepted kind.Exif = codes "ok exif\n"
accepted kind.Iim = codes "ok iim\n"

abbrev pub ReportsChecked : Result BlockKind Fault → ℕ → Device → Type 0
ReportsChecked (Ok k) status lines = Reports 0 (accepted k) status lines
ReportsChecked (Err e) status lines = ReportsFault e None status lines

-- the line of two accepted blocks, and its status
abbrev pub compared : Bool → List ℕ
compared true = codes "same\n"
compared false = codes "different\n"

abbrev pub compared_status : Bool → ℕ
compared_status true = 0
compared_status false = 1

abbrev pub ReportsCompared : Result Bool CompareFault → ℕ → Device → Type 0
ReportsCompared (Ok same) status lines = Reports (compared_status same) (compared same) status lines
ReportsCompared (Err e) status lines = ReportsFault e.fault (Some e.side) status lines

-- its bytes and the counts of its calls are as before
abbrev pub IsIdle : Device → Type 0
IsIdle d = (d.calls_now ≡ d.calls) × (d.new ≡ d.old)

-- a text of the file: all of it, and one flush; or a part of it, before the lines failed; or the status and the line of a fault that comes
-- before the text
abbrev pub ReportsText : (Said → List ℕ) → Result ⊤ Fault → Option (List ℕ) → ℕ → Device → Type 0
ReportsText text (Ok x) file status lines = (s : Said) × KnownMeaning file s × (status ≡ 0) × IsFlushed lines × Took lines (text s)
ReportsText text (Err WriteFailed) file status lines =
    (s : Said) × KnownMeaning file s × (status ≡ 4) × IsFailed lines × TookPrefix lines (text s)
ReportsText text (Err fault) file status lines = Stops fault file × ReportsFault fault None status lines

-- ---- whole runs: the engine allows the outcome for the files, and it is reported. `allocs` and `allocs_now` are the numbers of the
-- memory before and after the run: out of memory means one failed allocation, any other outcome means none; and no more bytes are
-- requested than `run_request` allows for what the reader has left. A reader loses no more than its first `most_read` bytes

abbrev pub IsRun : {A : Type 0} → Result A Fault → Device → MemoryCounts → MemoryCounts → Type 0
IsRun r reader allocs allocs_now =
    CountsAllocFailureInRun r allocs allocs_now × AsksAtMost (run_request reader.old) allocs allocs_now
    × ConsumesAtMost reader.old reader.new most_read

-- for a fault of the first file, nothing is read of the second
abbrev pub LeavesSecond : {A : Type 0} → Result A CompareFault → Device → Type 0
LeavesSecond (Ok x) second = ⊤
LeavesSecond (Err e) second = OnSide e.side (IsIdle second) ⊤ ⊤

abbrev pub IsPair : {A : Type 0} → Result A CompareFault → Device → Device → MemoryCounts → MemoryCounts → Type 0
IsPair r first second allocs allocs_now =
    CountsAllocFailureInPair r allocs allocs_now × AsksAtMost (run_request first.old + run_request second.old) allocs allocs_now
    × ConsumesAtMost first.old first.new most_read × ConsumesAtMost second.old second.new most_read × LeavesSecond r second

abbrev pub EndsNormalise : Device → Device → Device → MemoryCounts → MemoryCounts → ℕ → Type 0
EndsNormalise reader out lines allocs allocs_now status = (r : Result ℕ Fault) × Normalises r reader.old out.old out.new
    × CountsReads r reader.calls reader.calls_now × CountsWrites r out.calls out.calls_now
    × IsRun r reader allocs allocs_now × ReportsWritten r status lines

abbrev pub EndsCheck : Device → Device → MemoryCounts → MemoryCounts → ℕ → Type 0
EndsCheck reader lines allocs allocs_now status = (r : Result BlockKind Fault) × Checks r reader.old
    × CountsReads r reader.calls reader.calls_now × IsRun r reader allocs allocs_now × ReportsChecked r status lines

-- the text of the file, which is a block; or the line of its first fault, if the file doesn't begin as a packet of XMP does
abbrev pub EndsText : (Said → List ℕ) → Device → Device → MemoryCounts → MemoryCounts → ℕ → Type 0
EndsText text reader lines allocs allocs_now status = (r : Result ⊤ Fault) × CountsReads r reader.calls reader.calls_now
    × IsRun r reader allocs allocs_now × ReportsText text r reader.old status lines
    × IfSome reader.old (λ f. is_other r (taken f) ≡ false)

-- The file was read, is refused as a block, and begins as a packet of XMP does: it is printed as one. `file` is what was read, and
-- `between` are the numbers of the memory when it was refused as a block.
abbrev pub EndsPacket : Device → Device → MemoryCounts → MemoryCounts → ℕ → Type 0
EndsPacket reader lines allocs allocs_now status = (file : List ℕ) × (between : MemoryCounts) × (cause : Cause) × (place : ℕ)
    × IfSome reader.old (λ f. file ≡ taken f) × Stops (Refused cause place) reader.old × (is_packet file ≡ true)
    × (reader.calls_now ≡ reader.calls) × ConsumesAtMost reader.old reader.new most_read
    × (between.failed_allocations ≡ allocs.failed_allocations) × AsksAtMost (run_request reader.old) allocs between
    × PrintsPacket file lines between allocs_now status

-- the text of a block or of a packet
abbrev pub EndsShown : (Said → List ℕ) → Device → Device → MemoryCounts → MemoryCounts → ℕ → Type 0
EndsShown text reader lines allocs allocs_now status =
    EndsText text reader lines allocs allocs_now status ⊎ EndsPacket reader lines allocs allocs_now status

-- of the reader, the writer of normal bytes and the writer of lines
abbrev pub Ends : Job → Device → Device → Device → MemoryCounts → MemoryCounts → ℕ → Type 0
Ends Normalise reader out lines allocs allocs_now status = EndsNormalise reader out lines allocs allocs_now status
Ends Check reader out lines allocs allocs_now status = IsIdle out × EndsCheck reader lines allocs allocs_now status
Ends Show reader out lines allocs allocs_now status = IsIdle out × EndsShown listing reader lines allocs allocs_now status
Ends Captions reader out lines allocs allocs_now status = IsIdle out × EndsShown caption_text reader lines allocs allocs_now status

abbrev pub EndsCompare : Device → Device → Device → MemoryCounts → MemoryCounts → ℕ → Type 0
EndsCompare first second lines allocs allocs_now status = (r : Result Bool CompareFault) × Compares r first.old second.old
    × CountsSides r first.calls first.calls_now second.calls second.calls_now
    × IsPair r first second allocs allocs_now × ReportsCompared r status lines
