use Rattle.px_runs.proofs.Headlines as headlines
use Rattle.px_runs.proofs.laws.outputs_decide.Goals as goal

pub returns : goal.returns
returns g c = headlines.outputs_decide g.O.Reader.Read.remaining g.O.Writer.Write.contents g.O.Opens.opens g.O.Opens.makes g.O.Opens.closes
    c.forms_decide.ensures
