-- Lines and exit statuses.
use Rattle.std.specs.Prelude.{◌≡◌, ◌⊎◌, ◌-◌, ◌==◌, ◌++◌, ℕ, Bool, false, if◌then◌else◌, List, length, slice_get, Option, Some, None}
use Rattle.std.specs.Prelude.{codes, decimal}
use Rattle.std.specs.Io.KnownBytes.{Appends, Keeps}
use Rattle.px_bytes.specs.Devices.{AppendsPrefix, Calls, Device, FailsOnce, one_flush}
use Rattle.px_bytes.specs.Causes.{name_of}
use Rattle.px_engine.specs.declared.Fault.{Fault}
use Rattle.px_engine.specs.declared.Fault.TheVariants.{Refused, NormalTooLong, OutOfMemory, ReadFailed, WriteFailed}
use Rattle.px_engine.specs.declared.Side.{Side}
use Rattle.px_engine.specs.declared.Side.TheVariants.{First, Second}

-- the end of a line: for a comparison, the file that it is about
abbrev pub end_of : Option Side → List ℕ
end_of None = codes "\n"
end_of (Some First) = codes " in file 1\n"
end_of (Some Second) = codes " in file 2\n"

-- the line of a fault, with its line feed
abbrev pub line_of : Fault → Option Side → List ℕ
line_of (Refused cause place) file = codes "refused: " ++ (name_of cause ++ (codes " at " ++ (decimal place ++ end_of file)))
line_of NormalTooLong file = codes "refused: NormalTooLong" ++ end_of file
line_of OutOfMemory file = codes "failed: OutOfMemory" ++ end_of file
line_of ReadFailed file = codes "failed: ReadFailed" ++ end_of file
line_of WriteFailed file = codes "failed: WriteFailed" ++ end_of file

-- the exit status of a fault
abbrev pub status_of : Fault → ℕ
status_of (Refused cause place) = 2
status_of NormalTooLong = 2
status_of OutOfMemory = 4
status_of ReadFailed = 4
status_of WriteFailed = 4

-- no call of the device failed, and none was a flush
abbrev pub IsWell : Device → Type 0
IsWell d = d.calls_now ≡ d.calls

-- no call failed, and one was a flush
abbrev pub IsFlushed : Device → Type 0
IsFlushed d = d.calls_now ≡ one_flush d.calls

-- one call failed, and no more was made: a write, or the flush
abbrev pub IsFailed : Device → Type 0
IsFailed d = FailsOnce d.calls d.calls_now

-- no byte came after the flush, if there was one flush and no call failed: `unflushed` is how many came
abbrev pub FlushesLast : Calls → Calls → ℕ → Type 0
FlushesLast old new unflushed = new ≡ one_flush old → unflushed ≡ 0

abbrev pub Took : Device → List ℕ → Type 0
Took d bytes = Appends d.old d.new bytes

abbrev pub TookPrefix : Device → List ℕ → Type 0
TookPrefix d bytes = AppendsPrefix d.old d.new bytes

abbrev pub TookNothing : Device → Type 0
TookNothing d = Keeps d.old d.new

-- the given status and line, which is flushed once; or, if the writer of lines fails, status 4 and a prefix of the line
abbrev pub Reports : ℕ → List ℕ → ℕ → Device → Type 0
Reports expected line status lines =
    ((status ≡ expected) × IsFlushed lines × Took lines line)
    ⊎ ((status ≡ 4) × IsFailed lines × TookPrefix lines line)

-- those of a fault
abbrev pub ReportsFault : Fault → Option Side → ℕ → Device → Type 0
ReportsFault e file status lines = Reports (status_of e) (line_of e file) status lines

-- whether a text ends in a line feed
abbrev pub is_feed : Option ℕ → Bool
is_feed None = false
is_feed (Some b) = b == 10

abbrev pub is_ended : List ℕ → Bool
is_ended text = is_feed (slice_get text (length text - 1))

-- the text, with a line feed after it unless it ends in one
abbrev pub ended : List ℕ → List ℕ
ended text = if is_ended text then text else text ++ end_of None

-- those of a text
abbrev pub ReportsWords : ℕ → List ℕ → ℕ → Device → Type 0
ReportsWords expected text status lines = Reports expected (ended text) status lines
