use Rattle.std.proofs.Common.{inr}
use Rattle.px_runs.proofs.LineLaws.{failed_last}
use Rattle.px_runs.proofs.lines.flushed.Goals as goal

pub returns-in-Ok-clause-last : goal.returns-in-Ok-clause-last
returns-in-Ok-clause-last g c = λ e. c.in-Ok.ensures.all

pub returns-in-Err-clause-last : goal.returns-in-Err-clause-last
returns-in-Err-clause-last g c = failed_last _ _ _ (inr c.in-Err.ensures.count)
