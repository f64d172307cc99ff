use Rattle.px_engine.proofs.Reported as reported
use Rattle.px_engine.proofs.laws.runs_decide.Goals as goal

pub returns : goal.returns
returns c = reported.runs_decide c.one_meaning_of_file.ensures c.form_has_meaning.ensures
