-- The program's behaviour for its arguments.
use Rattle.std.specs.Prelude.{◌≡◌, ◌≢◌, ◌⊎◌, ⊤, ℕ, List, Option, Some, None, Result, Ok, Err, IfErr, codes}
use Rattle.px_engine.specs.declared.Fault.{Fault}
use Rattle.px_engine.specs.declared.Fault.TheVariants.{OutOfMemory, ReadFailed, WriteFailed}
use Rattle.px_engine.specs.declared.Side.{Side}
use Rattle.px_engine.specs.declared.Side.TheVariants as side
use Rattle.px_runs.specs.declared.job.Job.{Job}
use Rattle.px_runs.specs.declared.job.Job.TheVariants as job
use Rattle.px_words.specs.declared.One.{One}
use Rattle.px_words.specs.declared.One.TheVariants as one
use Rattle.px_words.specs.declared.Words.{Words}
use Rattle.px_words.specs.declared.Words.TheVariants as words
use Rattle.px_bytes.specs.Devices.{Calls, Device, no_calls}
use Rattle.px_bytes.specs.Allocations.{MemoryCounts}
use Rattle.px_runs.specs.Lines.{ReportsFault, ReportsWords}
use Rattle.px_runs.specs.Endings.{Ends, EndsCompare, IsIdle}
use Rattle.px_words.specs.Words.{out_is_file, AskedBy, CountsAllocFailureInWords}
use Rattle.px_runs.specs.declared.run.NoWords.{NoWords}
use Rattle.px_runs.specs.declared.run.NoWords.TheVariants as no

-- the job of a command with one file
abbrev pub job_of : One → Job
job_of one.Show = job.Show
job_of one.Check = job.Check
job_of one.Captions = job.Captions

-- why a file can't be opened: out of memory, or a failed call
abbrev pub IsLacking : Fault → Fault → Type 0
IsLacking expected e = (e ≡ OutOfMemory) ⊎ (e ≡ expected)

-- A fault of opening or creating a file is reported, and nothing was requested. Here and below `allocs` and `allocs_now` are the numbers
-- of the memory before and now.
abbrev pub ReportsLacking : Fault → Fault → Option Side → MemoryCounts → MemoryCounts → ℕ → Device → Type 0
ReportsLacking expected e file allocs allocs_now status lines = IsLacking expected e × ReportsFault e file status lines
    × (allocs_now ≡ allocs)

-- A job was done with a reader of `bytes`, which had no failed call and no flush before, and with this writer of the normal form.
abbrev pub EndsJob : Job → Option (List ℕ) → MemoryCounts → MemoryCounts → ℕ → Device → Device → Type 0
EndsJob job bytes allocs allocs_now status out lines = (reader : Device) × (reader.old ≡ bytes) × (reader.calls ≡ no_calls)
    × Ends job reader out lines allocs allocs_now status

-- A comparison was done, with two such readers.
abbrev pub EndsPair : Option (List ℕ) → Option (List ℕ) → MemoryCounts → MemoryCounts → ℕ → Device → Type 0
EndsPair bytes other allocs allocs_now status lines = (first second : Device) × (first.old ≡ bytes) × (first.calls ≡ no_calls)
    × (second.old ≡ other) × (second.calls ≡ no_calls) × EndsCompare first second lines allocs allocs_now status

-- A file was closed after a job with this status: that is the status, and there is no more text. Or it can't be closed: that is
-- reported as a failed write, unless the job has failed.
abbrev pub ReportsClosed : Result ⊤ Fault → ℕ → ℕ → Device → Type 0
ReportsClosed (Ok x) ended status lines = (status ≡ ended) × IsIdle lines
ReportsClosed (Err e) ended status lines =
    (ended ≡ 0 → ReportsFault e None status lines) × (ended ≢ 0 → (status ≡ ended) × IsIdle lines)

-- A normal form was written, and then its writer was closed. `between` and `text` are the counts of the writer of lines, and the bytes
-- that it had taken, when the job had ended.
abbrev pub EndsClosed : Option (List ℕ) → Result ⊤ Fault → MemoryCounts → MemoryCounts → ℕ → Device → Device → Type 0
EndsClosed bytes closed allocs allocs_now status out lines = (ended : ℕ) × (between : Calls) × (text : Option (List ℕ))
    × EndsJob job.Normalise bytes allocs allocs_now ended out
    (record { calls = lines.calls; calls_now = between; old = lines.old; new = text })
    × IfErr closed (IsLacking WriteFailed)
    × ReportsClosed closed ended status (record { calls = between; calls_now = lines.calls_now; old = text; new = lines.new })

-- the line and the status if the system gives no arguments
abbrev pub ReportsNoWords : NoWords → ℕ → Device → Type 0
ReportsNoWords no.OutOfMemory status lines = ReportsFault OutOfMemory None status lines
ReportsNoWords no.NotText status lines = ReportsWords 3 (codes "refused words: they are not text") status lines

-- ---- what a run did to the files

-- `F` are the files, and `R` and `W` the readers and writers that they return. `remaining` gives the bytes that a reader still has, and
-- `contents` those that a writer has taken. Each of `opens`, `makes` and `closes` is a call: a relation of the files before it, its
-- arguments, its result, and the files after it. A run is a chain of calls from the files before it to the files after it. So it made
-- these calls, in this order, and no other.
module _ {F R W : Type 0} (remaining : R → Option (List ℕ)) (contents : W → Option (List ℕ))
    (opens : F → List ℕ → Result R Fault → F → Type 0) (makes : F → List ℕ → R → Result (Option W) Fault → F → Type 0)
    (closes : F → W → Result ⊤ Fault → F → Type 0) where
  -- the file can't be opened, which is reported
  abbrev pub EndsUnopened : List ℕ → Option Side → F → F → MemoryCounts → MemoryCounts → ℕ → Device → Type 0
  EndsUnopened name file files files_now allocs allocs_now status lines =
      (e : Fault) × opens files name (Err e) files_now × ReportsLacking ReadFailed e file allocs allocs_now status lines

  -- a job was done with the file; or it can't be opened
  abbrev pub EndsFile : Job → List ℕ → F → F → MemoryCounts → MemoryCounts → ℕ → Device → Device → Type 0
  EndsFile job name files files_now allocs allocs_now status out lines =
      (EndsUnopened name None files files_now allocs allocs_now status lines × IsIdle out)
      ⊎ ((reader : R) × opens files name (Ok reader) files_now × EndsJob job (remaining reader) allocs allocs_now status out lines)

  -- The normal form of an open file went to OUT, which was then closed, or that failed. The writer of OUT had no failed call and no
  -- flush before.
  abbrev pub EndsMade : List ℕ → R → F → F → MemoryCounts → MemoryCounts → ℕ → Device → Type 0
  EndsMade out_name reader files files_now allocs allocs_now status lines =
      (made : F) × (out out_now : W) × (n : Calls) × (closed : Result ⊤ Fault) × makes files out_name reader (Ok (Some out)) made
      × closes made out_now closed files_now × EndsClosed (remaining reader) closed allocs allocs_now status
      (record { calls = no_calls; calls_now = n; old = contents out; new = contents out_now }) lines

  -- OUT can't be created, or is the open file: that is reported, and nothing was requested
  abbrev pub EndsUnmade : List ℕ → R → F → F → MemoryCounts → MemoryCounts → ℕ → Device → Type 0
  EndsUnmade out_name reader files files_now allocs allocs_now status lines =
      ((e : Fault) × makes files out_name reader (Err e) files_now × ReportsLacking WriteFailed e None allocs allocs_now status lines)
      ⊎ (makes files out_name reader (Ok None) files_now × ReportsWords 3 out_is_file status lines × (allocs_now ≡ allocs))

  -- the normal form of an open file was written to OUT, or OUT can't be made
  abbrev pub EndsBeside : List ℕ → R → F → F → MemoryCounts → MemoryCounts → ℕ → Device → Type 0
  EndsBeside out_name reader files files_now allocs allocs_now status lines =
      EndsMade out_name reader files files_now allocs allocs_now status lines
      ⊎ EndsUnmade out_name reader files files_now allocs allocs_now status lines

  -- that of a file; or it can't be opened
  abbrev pub EndsForm : List ℕ → List ℕ → F → F → MemoryCounts → MemoryCounts → ℕ → Device → Type 0
  EndsForm name out_name files files_now allocs allocs_now status lines =
      EndsUnopened name None files files_now allocs allocs_now status lines
      ⊎ ((opened : F) × (reader : R) × opens files name (Ok reader) opened
      × EndsBeside out_name reader opened files_now allocs allocs_now status lines)

  -- an open file was compared with another; or that can't be opened
  abbrev pub EndsOther : R → List ℕ → F → F → MemoryCounts → MemoryCounts → ℕ → Device → Type 0
  EndsOther reader name files files_now allocs allocs_now status lines =
      EndsUnopened name (Some side.Second) files files_now allocs allocs_now status lines
      ⊎ ((other : R) × opens files name (Ok other) files_now × EndsPair (remaining reader) (remaining other) allocs allocs_now status lines)

  -- two files were compared, or the first can't be opened, or the second
  abbrev pub EndsFiles : List ℕ → List ℕ → F → F → MemoryCounts → MemoryCounts → ℕ → Device → Type 0
  EndsFiles first second files files_now allocs allocs_now status lines =
      EndsUnopened first (Some side.First) files files_now allocs allocs_now status lines
      ⊎ ((opened : F) × (reader : R) × opens files first (Ok reader) opened
      × EndsOther reader second opened files_now allocs allocs_now status lines)

  -- The request was done, and its line and status report the outcome. Only a request without arguments reads standard input, `input`,
  -- and writes a normal form to standard output, `out`.
  abbrev pub EndsWords : Words → F → F → MemoryCounts → MemoryCounts → ℕ → Device → Device → Device → Type 0
  EndsWords words.Filter files files_now allocs allocs_now status input out lines =
      (files_now ≡ files) × Ends job.Normalise input out lines allocs allocs_now status
  EndsWords (words.One what file) files files_now allocs allocs_now status input out lines =
      IsIdle input × EndsFile (job_of what) file files files_now allocs allocs_now status out lines
  EndsWords (words.Normalise file out_name) files files_now allocs allocs_now status input out lines =
      IsIdle input × IsIdle out × EndsForm file out_name files files_now allocs allocs_now status lines
  EndsWords (words.Compare first second) files files_now allocs allocs_now status input out lines =
      IsIdle input × IsIdle out × EndsFiles first second files files_now allocs allocs_now status lines
  EndsWords (words.Help text) files files_now allocs allocs_now status input out lines =
      (files_now ≡ files) × IsIdle input × IsIdle out × ReportsWords 0 text status lines × (allocs_now ≡ allocs)
  EndsWords (words.Refused text) files files_now allocs allocs_now status input out lines =
      (files_now ≡ files) × IsIdle input × IsIdle out × ReportsWords 3 text status lines × (allocs_now ≡ allocs)
  EndsWords words.NoMemory files files_now allocs allocs_now status input out lines =
      (files_now ≡ files) × IsIdle input × IsIdle out × ReportsFault OutOfMemory None status lines × (allocs_now ≡ allocs)
  EndsWords words.Unread files files_now allocs allocs_now status input out lines =
      (files_now ≡ files) × IsIdle input × IsIdle out × ReportsFault OutOfMemory None status lines × (allocs_now ≡ allocs)

  -- The request of the arguments was done. `lacks` are the arguments over which clap ran out of memory, and `between` are the numbers
  -- of the memory after the arguments were parsed.
  abbrev pub DoesRequest : (List (List ℕ) → Type 0) → List (List ℕ) → F → F → MemoryCounts → MemoryCounts → ℕ → Device → Device → Device
      → Type 0
  DoesRequest lacks ws files files_now allocs allocs_now status input out lines = (asked : Words) × (between : MemoryCounts)
      × AskedBy lacks ws asked
      × CountsAllocFailureInWords asked allocs between × EndsWords asked files files_now between allocs_now status input out lines
