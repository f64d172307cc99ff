use Rattle.px_pictures.proofs.SameLaws.{result_answers}
use Rattle.px_pictures.proofs.comparison.compare_metadata_in.Goals as goal

pub returns-clause-compared : goal.returns-clause-compared
returns-clause-compared c =
    result_answers c.compare_second-outcome.result c.args.first.now c.args.second.now c.in_ok-one.one c.one_meaning.ensures
    c.in_ok-one.ensures.found.0 c.in_ok-one.ensures.found.1 c.compare_second-outcome.ensures.compared
