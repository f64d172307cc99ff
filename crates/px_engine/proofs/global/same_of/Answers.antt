use Rattle.px_engine.specs.Slices.{IsRunFaultAt}
use Rattle.px_engine.proofs.Ended.{own_memory}
use Rattle.px_engine.proofs.global.same_of.Goals as goal

pub returns-clause-no_meaning : goal.returns-clause-no_meaning
returns-clause-no_meaning c = own_memory (IsRunFaultAt c.args.first.now c.args.second.now) c.same_of_in.result _ c.same_of_in.ensures.no_meaning
