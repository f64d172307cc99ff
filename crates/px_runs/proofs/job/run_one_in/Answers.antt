use Rattle.std.proofs.Common.{refl}
use Rattle.px_runs.proofs.LineLaws.{idle_last}
use Rattle.px_runs.proofs.job.run_one_in.Goals as goal

pub returns-in-Show-clause-ends : goal.returns-in-Show-clause-ends
returns-in-Show-clause-ends g c = rw c.in-Show.is ((refl, refl), c.run_show.ensures.ends)

pub returns-in-Check-clause-ends : goal.returns-in-Check-clause-ends
returns-in-Check-clause-ends g c = rw c.in-Check.is ((refl, refl), c.run_check.ensures.ends)

pub returns-in-Captions-clause-ends : goal.returns-in-Captions-clause-ends
returns-in-Captions-clause-ends g c = rw c.in-Captions.is ((refl, refl), c.run_captions.ensures.ends)

pub returns-in-Normalise-clause-ends : goal.returns-in-Normalise-clause-ends
returns-in-Normalise-clause-ends g c = rw c.in-Normalise.is c.run_normalise.ensures.ends

pub returns-in-Show-clause-form_last : goal.returns-in-Show-clause-form_last
returns-in-Show-clause-form_last g c = idle_last _ _ _ refl

pub returns-in-Check-clause-form_last : goal.returns-in-Check-clause-form_last
returns-in-Check-clause-form_last g c = idle_last _ _ _ refl

pub returns-in-Captions-clause-form_last : goal.returns-in-Captions-clause-form_last
returns-in-Captions-clause-form_last g c = idle_last _ _ _ refl
