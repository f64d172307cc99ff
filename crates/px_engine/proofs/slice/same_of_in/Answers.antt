use Rattle.px_engine.specs.calls.Seen.{said_view}
use Rattle.px_engine.proofs.Compared.{means_same, second_no_meaning, compared_alloc_failure}
use Rattle.px_engine.proofs.slice.same_of_in.Goals as goal

pub returns-clause-same : goal.returns-clause-same
returns-clause-same c =
    means_same c.same_second-same.result c.args.first.now c.args.second.now (said_view c.in_ok-meaning.meaning) _ c.in_ok-meaning.ensures.meaning
    c.same_second-same.ensures.same

pub returns-clause-no_meaning : goal.returns-clause-no_meaning
returns-clause-no_meaning c =
    second_no_meaning c.same_second-same.result c.args.first.now c.args.second.now (said_view c.in_ok-meaning.meaning) _ c.in_ok-meaning.ensures.meaning
    c.same_second-same.ensures.same

pub returns-clause-memory : goal.returns-clause-memory
returns-clause-memory c = compared_alloc_failure c.same_second-same.result _ _ _ c.in_ok-meaning.ensures.memory
    c.same_second-same.ensures.memory
