use Rattle.px_engine.proofs.Reported as reported
use Rattle.px_engine.proofs.laws.comparing_decides.Goals as goal

pub returns : goal.returns
returns c = reported.comparing_decides
