use Rattle.std.proofs.Common.{refl}
use Rattle.px_runs.proofs.LineLaws.{idle_last}
use Rattle.px_runs.proofs.job.report_written.Goals as goal

pub returns-in-Err-clause-reported : goal.returns-in-Err-clause-reported
returns-in-Err-clause-reported g c = rw c.in-Err.is c.report_fault.ensures.reported

pub returns-in-Ok-clause-last : goal.returns-in-Ok-clause-last
returns-in-Ok-clause-last g c = idle_last _ _ _ refl
