use Rattle.std.proofs.Common.{refl}
use Rattle.px_runs.proofs.LineLaws.{idle_last}
use Rattle.px_runs.proofs.printed.report_printed.Goals as goal

pub returns-in-Err-clause-reported : goal.returns-in-Err-clause-reported
returns-in-Err-clause-reported g c = rw c.in-Err.is c.report_text_fault.ensures.reported

pub report_text_fault-requires : goal.report_text_fault-requires
report_text_fault-requires g c = c.requires c.in-Err.fault c.in-Err.is

pub returns-in-Ok-clause-last : goal.returns-in-Ok-clause-last
returns-in-Ok-clause-last g c = idle_last _ _ _ refl
