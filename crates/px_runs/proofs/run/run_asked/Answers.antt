use Rattle.std.proofs.Common.{refl}
use Rattle.px_runs.proofs.run.run_asked.Goals as goal

-- the names of the two files are those of the request
pub returns-in-Normalise : goal.returns-in-Normalise
returns-in-Normalise g c = rw (c.in-Normalise.is, ← c.as_str-in-Normalise.ensures, ← c.as_str-in-Normalise-2.ensures)
    ((refl, refl), (refl, refl), c.run_form.ensures)
