-- Forms that are put into the caller's buffer, and the writer that puts them there.
use Rattle.std.specs.Prelude.{◌≡◌, ◌<◌, ◌≤◌, ℕ, List, ◌∷◌, length, take, nat_lt, if◌then◌else◌, Option, Some, None}
use Rattle.px_bytes.specs.Devices.{Calls}
use Rattle.px_bytes.specs.Parts.{limit}
use Rattle.px_engine.specs.declared.normal.Filling.{Filling}
use Rattle.px_engine.specs.declared.normal.Given.{Given}
use Rattle.px_engine.specs.Slices.{IsPut}

-- Two numbers, the slice to which the writer writes and its length, then the bytes that the writer has put. A call over any writer
-- only appends to this list, so it leaves the slice and its length as they were.
abbrev pub reported_in : Filling → List ℕ
reported_in f = f.space.ghost_name ∷ length f.space.now ∷ take f.filled f.space.now

-- how many calls have found the slice full: none if it isn't full
abbrev pub refused_in : Filling → ℕ
refused_in f = if nat_lt f.filled (length f.space.now) then 0 else f.refusals

-- those, and how many calls were flushes
abbrev pub calls_in : Filling → Calls
calls_in f = record { failed = refused_in f; flushes = f.flushes.count }

-- a form that is no longer than the limit is put; a longer one isn't, and the buffer is unchanged
abbrev pub PutsShort : Option Given → List ℕ → List ℕ → List ℕ → Type 0
PutsShort (Some given) form old new = IsPut given form old new × (length form ≤ limit)
PutsShort None form old new = (new ≡ old) × (limit < length form)
