use Rattle.px_engine.specs.Slices.{IsUnwrittenAt}
use Rattle.px_engine.proofs.Ended.{own_memory}
use Rattle.px_engine.proofs.global.normalise_both.Goals as goal

pub returns-clause-failed : goal.returns-clause-failed
returns-clause-failed c =
    own_memory (IsUnwrittenAt c.args.first.now c.args.second.now) c.normalise_both_in.result _ c.normalise_both_in.ensures.failed
