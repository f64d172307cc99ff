-- The effects of calls of readers and writers.
use Rattle.std.specs.Prelude.{◌≡◌, ◌⊎◌, ◌<◌, ◌≤◌, ◌+◌, ◌^◌, ℕ, List, Option, Result, Ok, Err, length, take, IfOk, ⊤}
use Rattle.std.specs.Io.KnownBytes.{Appends}

-- the calls of a device so far: how many have failed, and how many were flushes
pub record Calls : Type 0 where
  pub failed : ℕ
  pub flushes : ℕ

-- no call has failed, and none was a flush
abbrev pub no_calls : Calls
no_calls = record { failed = 0; flushes = 0 }

-- one more has failed
abbrev pub one_failed : Calls → Calls
one_failed calls = record calls { failed = calls.failed + 1 }

-- one more was a flush
abbrev pub one_flush : Calls → Calls
one_flush calls = record calls { flushes = calls.flushes + 1 }

-- one more failed call can be counted: fewer than u64::MAX have failed
abbrev pub CanCountFailure : Calls → Type 0
CanCountFailure calls = calls.failed + 1 < 2 ^ 64

-- a failed call raised the count by one; any other call left it; and none was a flush
abbrev pub Counts : {A E : Type 0} → Result A E → Calls → Calls → Type 0
Counts (Ok x) old new = new ≡ old
Counts (Err e) old new = new ≡ one_failed old

-- one call failed: a write, and then no flush was made; or the flush
abbrev pub FailsOnce : Calls → Calls → Type 0
FailsOnce old new = (new ≡ one_failed old) ⊎ (new ≡ one_failed (one_flush old))

-- one flush was made, the only one; or one call failed, which ended the writes
abbrev pub CountsFlush : {A E : Type 0} → Result A E → Calls → Calls → Type 0
CountsFlush (Ok x) old new = new ≡ one_flush old
CountsFlush (Err e) old new = FailsOnce old new

-- at least one byte was taken, unless there was none or the call failed
abbrev pub TakesSome : {E : Type 0} → Result ℕ E → List ℕ → Type 0
TakesSome result buf = IfOk result (λ n. 0 < length buf → 0 < n)

-- a call that took all of the bytes, or failed
abbrev pub IsLast : {E : Type 0} → Result ℕ E → List ℕ → Type 0
IsLast (Ok n) bytes = n ≡ length bytes
IsLast (Err e) bytes = ⊤

-- The first write gets all of the bytes, and no other follows if it takes them or fails: `wrote` is the relation of one write.
abbrev pub WritesOnce : {E W : Type 0} → (W → List ℕ → Result ℕ E → W → Type 0) → W → W → List ℕ → Type 0
WritesOnce {E} {W} wrote old new bytes =
    (r : Result ℕ E) × (first : W) × wrote old bytes r first × (IsLast r bytes → new ≡ first)

-- the same, and then one flush and no other call, unless a write failed: `flushed` is the relation of a flush
abbrev pub SendsOnce : {E W : Type 0} → (W → List ℕ → Result ℕ E → W → Type 0) → (W → W → Type 0) → W → W → List ℕ → Type 0
SendsOnce {E} {W} wrote flushed old new bytes = (sent : W) × WritesOnce wrote old sent bytes × ((new ≡ sent) ⊎ flushed sent new)

-- so many bytes fit into the usual output buffer, and there are some
abbrev pub IsShort : ℕ → Type 0
IsShort n = (0 < n) × (n ≤ 8192)

-- the known bytes grow by a prefix of bs
abbrev pub AppendsPrefix : Option (List ℕ) → Option (List ℕ) → List ℕ → Type 0
AppendsPrefix old new bs = (n : ℕ) × (n ≤ length bs) × Appends old new (take n bs)

-- all of the bytes were taken, or a prefix of them if a call failed
abbrev pub Writes : {A E : Type 0} → Result A E → Option (List ℕ) → Option (List ℕ) → List ℕ → Type 0
Writes (Ok x) old new bytes = Appends old new bytes
Writes (Err e) old new bytes = AppendsPrefix old new bytes

-- ---- a device over a call: its calls and its bytes, before and after

-- the counts of failures and flushes before and after a call, and the bytes that were taken or are
-- still to come, before and after it; None if these are unknown
pub record Device : Type 0 where
  pub calls : Calls
  pub calls_now : Calls
  pub old : Option (List ℕ)
  pub new : Option (List ℕ)

-- the device that a call got as `old` and left as `new`: `calls` and `bytes` are the ghost values of its trait
abbrev pub device_of : {W : Type 0} → (W → Calls) → (W → Option (List ℕ)) → W → W → Device
device_of calls bytes old new = record { calls = calls old; calls_now = calls new; old = bytes old; new = bytes new }

-- as many bytes were taken as `Writes` states, and a failure is counted
abbrev pub Sends : {A E : Type 0} → Result A E → Device → List ℕ → Type 0
Sends result d bytes = Writes result d.old d.new bytes × Counts result d.calls d.calls_now

-- as many bytes were taken as `Writes` states, then one flush was called, and a failure is counted
abbrev pub SendsFlushed : {A E : Type 0} → Result A E → Device → List ℕ → Type 0
SendsFlushed result d bytes = Writes result d.old d.new bytes × CountsFlush result d.calls d.calls_now
