-- A device and the numbers of its calls.
use Rattle.std.specs.Prelude.{ℕ}
use Rattle.px_bytes.specs.declared.devices.Watched.{Watched}
use Rattle.px_bytes.specs.Devices.{Calls}

-- the reader or writer itself
abbrev pub inner_of : {T : Type 0} → Watched T → T
inner_of w = w.inner

-- how many calls have failed so far, and how many were flushes
abbrev pub calls_of : {T : Type 0} → Watched T → Calls
calls_of w = record { failed = w.failures; flushes = w.flushes.count }

-- how many bytes were written since the last flush
abbrev pub unflushed_of : {T : Type 0} → Watched T → ℕ
unflushed_of w = w.flushes.since
