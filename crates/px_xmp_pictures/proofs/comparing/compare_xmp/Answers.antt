use Rattle.px_xmp_pictures.proofs.AnswerLaws.{result_compares}
use Rattle.px_xmp_pictures.proofs.comparing.compare_xmp.Goals as goal

pub returns-clause-compared : goal.returns-clause-compared
returns-clause-compared c =
    result_compares c.compare_second-answer.result c.args.first.now c.args.second.now c.in_ok-one.one c.in_ok-one.ensures.read
    c.compare_second-answer.ensures.compared
