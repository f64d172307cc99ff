-- A flush of standard output.
use Rattle.std.specs.Prelude.{◌≡◌, ◌⊎◌, ℕ}
use Rattle.px_bytes.specs.Devices.{Device, one_failed, one_flush}
use Rattle.px_runs.specs.Lines.{IsFlushed, TookNothing}

-- only a flush: the given status, or 4 if it failed
abbrev pub Flushes : ℕ → ℕ → Device → Type 0
Flushes expected status lines =
    ((status ≡ expected) × IsFlushed lines × TookNothing lines)
    ⊎ ((status ≡ 4) × (lines.calls_now ≡ one_failed (one_flush lines.calls)) × TookNothing lines)
