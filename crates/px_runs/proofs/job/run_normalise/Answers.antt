use Rattle.px_runs.proofs.EndLaws.{writes_last}
use Rattle.px_runs.proofs.job.run_normalise.Goals as goal

pub returns-clause-form_last : goal.returns-clause-form_last
returns-clause-form_last g c = writes_last c.normalise_in.result _ _ _ c.normalise_in.ensures.writes c.normalise_in.ensures.flushed
