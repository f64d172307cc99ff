-- The output buffer in front of a writer.
use Rattle.std.specs.Prelude.{◌≡◌, ◌≤◌, ◌+◌, ℕ, List, length, ◌++◌, Option, Result, Ok, Err}
use Rattle.std.specs.Io.KnownBytes.{Appends}
use Rattle.px_bytes.specs.Devices.{AppendsPrefix, Calls, Counts, Device}

-- the buffered bytes, and how many fit
pub record Buffer : Type 0 where
  pub bytes : List ℕ
  pub capacity : ℕ

infixl 60 ◌⊕◌
-- bytes after the buffered ones
abbrev pub ◌⊕◌ : Buffer → List ℕ → Buffer
h ⊕ bytes = record h { bytes = h.bytes ++ bytes }

-- the writer has taken all of `out` except the buffered bytes
abbrev pub Owes : Option (List ℕ) → Option (List ℕ) → Buffer → Buffer → Type 0
Owes old new buffer out = (w : List ℕ) × Appends old new w × (record buffer { bytes = w ++ buffer.bytes } ≡ out)

-- the bytes follow the buffered ones, and are buffered or written; if a call failed, the writer has taken a prefix of all these
abbrev pub Puts : {A E : Type 0} → Result A E → Option (List ℕ) → Option (List ℕ) → Buffer → Buffer → List ℕ → Type 0
Puts (Ok x) old new buffer buffer_now bytes = Owes old new buffer_now (buffer ⊕ bytes)
Puts (Err e) old new buffer buffer_now bytes = AppendsPrefix old new (buffer.bytes ++ bytes)

-- the bytes are put as `Puts` states, and a failure is counted
abbrev pub Adds : {A E : Type 0} → Result A E → Device → Buffer → Buffer → List ℕ → Type 0
Adds result d buffer buffer_now bytes = Puts result d.old d.new buffer buffer_now bytes × Counts result d.calls d.calls_now

-- the bytes fit into the buffer
abbrev pub FitsBuffer : Buffer → List ℕ → Type 0
FitsBuffer buffer bytes = length buffer.bytes + length bytes ≤ buffer.capacity

-- bytes that fit are buffered, and the writer is unchanged; a call failed only if they don't fit
abbrev pub Waits : {A E W : Type 0} → Result A E → W → W → Buffer → Buffer → List ℕ → Type 0
Waits (Ok x) old new buffer buffer_now bytes = FitsBuffer buffer bytes → (buffer_now ≡ buffer ⊕ bytes) × (new ≡ old)
Waits (Err e) old new buffer buffer_now bytes = ¬ FitsBuffer buffer bytes

-- `Puts` and `Waits`, for a writer whose bytes may be known
abbrev pub PutsBuffered : {A E W : Type 0} → (W → Option (List ℕ)) → Result A E → W → W → Buffer → Buffer → List ℕ → Type 0
PutsBuffered taken result old new buffer buffer_now bytes =
    Puts result (taken old) (taken new) buffer buffer_now bytes × Waits result old new buffer buffer_now bytes

-- the bytes are put as `PutsBuffered` states, and a failed call is counted
abbrev pub AddsBuffered : {A E W : Type 0} → (W → Calls) → (W → Option (List ℕ)) → Result A E → W → W → Buffer → Buffer → List ℕ → Type 0
AddsBuffered calls taken result old new buffer buffer_now bytes =
    PutsBuffered taken result old new buffer buffer_now bytes × Counts result (calls old) (calls new)
