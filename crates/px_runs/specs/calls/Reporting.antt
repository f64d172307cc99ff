-- How a line follows other output.
use Rattle.std.specs.Prelude.{◌≡◌, ◌≢◌, ◌⊎◌, ℕ, None, Result, Ok, Err}
use Rattle.px_engine.specs.declared.Fault.{Fault}
use Rattle.px_engine.specs.declared.Fault.TheVariants.{WriteFailed}
use Rattle.px_bytes.specs.Devices.{Device}
use Rattle.px_runs.specs.Lines.{ReportsFault}
use Rattle.px_runs.specs.Endings.{IsIdle}

-- after a failed write of a text nothing is written; any other fault came before the text and has its status and line
abbrev pub ReportsAfter : Fault → ℕ → Device → Type 0
ReportsAfter e status lines = ((e ≡ WriteFailed) × (status ≡ 4) × IsIdle lines) ⊎ ((e ≢ WriteFailed) × ReportsFault e None status lines)

-- after a text
abbrev pub ReportsPrinted : {A : Type 0} → Result A Fault → ℕ → Device → Type 0
ReportsPrinted (Ok x) status lines = (status ≡ 0) × IsIdle lines
ReportsPrinted (Err e) status lines = ReportsAfter e status lines
