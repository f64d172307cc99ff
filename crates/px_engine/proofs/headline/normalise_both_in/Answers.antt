use Rattle.px_engine.proofs.Reported.{headline_of_forms}
use Rattle.px_engine.proofs.headline.normalise_both_in.Goals as goal

pub returns-clause-done : goal.returns-clause-done
returns-clause-done c =
    headline_of_forms c.one_meaning_of_file.ensures c.form_has_meaning.ensures _ _ _ _ _ _ c.in_ok-form.ensures.formed.1 c.in_ok-other.ensures.formed.1
