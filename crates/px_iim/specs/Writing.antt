-- The effect of writing a record.
use Rattle.std.specs.Prelude.{◌≡◌, ◌<◌, ◌≤◌, ◌*◌, ℕ, nat_le, if◌then◌else◌, List, length, Option, Some, None, Result, Ok}
use Rattle.std.specs.Prelude.{Err}
use Rattle.std.specs.Io.KnownBytes.{Appends}
use Rattle.px_bytes.specs.declared.WriteRefusal.{WriteRefusal}
use Rattle.px_bytes.specs.declared.WriteRefusal.TheVariants.{NormalTooLong, OutOfMemory, WriteFailed}
use Rattle.px_bytes.specs.Devices.{AppendsPrefix, Calls, FailsOnce, one_failed, one_flush}
use Rattle.px_bytes.specs.Parts.{limit}
use Rattle.px_iim.specs.Group.{Record}
use Rattle.px_iim.specs.Record.{normal_iim}

-- a normal form is counted up to this length, twice the longest block's
abbrev pub longest_counted : ℕ
longest_counted = 2 * limit

-- the length, if it is at most that
abbrev pub within : ℕ → Option ℕ
within n = if nat_le n longest_counted then Some n else None

-- the writer has taken the record's normal form, and the result is its length; a form that is too long leaves the writer
-- unchanged; if a call failed, the writer has taken a prefix of the form; no flush was made
abbrev pub WritesPart : Result ℕ WriteRefusal → Option (List ℕ) → Option (List ℕ) → Calls → Calls → Record → Type 0
WritesPart (Ok n) old new calls calls_now i =
    Appends old new (normal_iim i) × (n ≡ length (normal_iim i)) × (n ≤ limit) × (calls_now ≡ calls)
WritesPart (Err NormalTooLong) old new calls calls_now i = (limit < length (normal_iim i)) × (new ≡ old) × (calls_now ≡ calls)
WritesPart (Err WriteFailed) old new calls calls_now i =
    (length (normal_iim i) ≤ limit) × AppendsPrefix old new (normal_iim i) × (calls_now ≡ one_failed calls)
WritesPart (Err OutOfMemory) old new calls calls_now i = ⊥

-- the same, and one flush after the form; the call that failed may be the flush
abbrev pub WritesIim : Result ℕ WriteRefusal → Option (List ℕ) → Option (List ℕ) → Calls → Calls → Record → Type 0
WritesIim (Ok n) old new calls calls_now i =
    Appends old new (normal_iim i) × (n ≡ length (normal_iim i)) × (n ≤ limit) × (calls_now ≡ one_flush calls)
WritesIim (Err NormalTooLong) old new calls calls_now i = (limit < length (normal_iim i)) × (new ≡ old) × (calls_now ≡ calls)
WritesIim (Err WriteFailed) old new calls calls_now i =
    (length (normal_iim i) ≤ limit) × AppendsPrefix old new (normal_iim i) × FailsOnce calls calls_now
WritesIim (Err OutOfMemory) old new calls calls_now i = ⊥
