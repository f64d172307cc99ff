use Rattle.px_runs.proofs.Headlines as reported
use Rattle.px_runs.proofs.laws.comparison_decides.Goals as goal

pub returns : goal.returns
returns c = reported.comparison_decides c.comparing_decides.ensures
