use Rattle.px_runs.proofs.Headlines as reported
use Rattle.px_runs.proofs.laws.forms_decide.Goals as goal

pub returns : goal.returns
returns c = reported.forms_decide c.runs_decide.ensures
