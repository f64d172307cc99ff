-- How single calls end.
use Rattle.std.specs.Prelude.{◌≡◌, ◌<◌, ◌≤◌, ℕ, List, length, Option, Result, Ok, Err}
use Rattle.px_bytes.specs.Parts.{limit}
use Rattle.px_engine.specs.declared.error.Fault.{Fault}
use Rattle.px_engine.specs.declared.error.Fault.TheVariants.{Refused, NormalTooLong, OutOfMemory, ReadFailed, WriteFailed}
use Rattle.px_engine.specs.Files.{Said, normal}
use Rattle.std.specs.Io.KnownBytes.{Appends}
use Rattle.px_bytes.specs.Devices.{AppendsPrefix, Calls, FailsOnce, one_flush}

-- the normal form of the meaning was written and flushed once, or a prefix of it was written
abbrev pub WritesFormOf : Result ℕ Fault → Option (List ℕ) → Option (List ℕ) → Calls → Calls → Said → Type 0
WritesFormOf (Ok n) old new calls calls_now s =
    Appends old new (normal s) × (n ≡ length (normal s)) × (n ≤ limit) × (calls_now ≡ one_flush calls)
WritesFormOf (Err NormalTooLong) old new calls calls_now s = (limit < length (normal s)) × (new ≡ old) × (calls_now ≡ calls)
WritesFormOf (Err OutOfMemory) old new calls calls_now s = ⊥
WritesFormOf (Err WriteFailed) old new calls calls_now s =
    AppendsPrefix old new (normal s) × (length (normal s) ≤ limit) × FailsOnce calls calls_now
WritesFormOf (Err (Refused cause place)) old new calls calls_now s = ⊥
WritesFormOf (Err ReadFailed) old new calls calls_now s = ⊥

-- why there is no form of the meaning: it is too long, and nothing was allocated; or an allocation failed
abbrev pub IsUnformed : Said → ℕ → Fault → Type 0
IsUnformed s refused NormalTooLong = limit < length (normal s)
IsUnformed s refused OutOfMemory = (0 < refused) × (length (normal s) ≤ limit)
IsUnformed s refused (Refused cause place) = ⊥
IsUnformed s refused ReadFailed = ⊥
IsUnformed s refused WriteFailed = ⊥

-- the text was taken and flushed once, or a prefix of it if a call failed
abbrev pub WritesText : {A : Type 0} → Result A Fault → Option (List ℕ) → Option (List ℕ) → Calls → Calls → List ℕ → Type 0
WritesText (Ok x) old new calls calls_now out = Appends old new out × (calls_now ≡ one_flush calls)
WritesText (Err WriteFailed) old new calls calls_now out = AppendsPrefix old new out × FailsOnce calls calls_now
WritesText (Err (Refused cause place)) old new calls calls_now out = ⊥
WritesText (Err OutOfMemory) old new calls calls_now out = ⊥
WritesText (Err ReadFailed) old new calls calls_now out = ⊥
WritesText (Err NormalTooLong) old new calls calls_now out = ⊥
