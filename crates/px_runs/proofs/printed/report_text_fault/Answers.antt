use Rattle.std.proofs.Common.{refl}
use Rattle.px_runs.proofs.LineLaws.{idle_last, reported_not_idle}
use Rattle.px_runs.proofs.printed.report_text_fault.Goals as goal

pub returns-then-eq-clause-last : goal.returns-then-eq-clause-last
returns-then-eq-clause-last g c = idle_last _ _ _ refl

pub returns-clause-still : goal.returns-clause-still
returns-clause-still g c = λ e. absurd (reported_not_idle _ _ c.report_fault.ensures.reported e)
