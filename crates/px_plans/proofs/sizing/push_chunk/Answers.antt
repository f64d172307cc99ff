use Rattle.px_plans.proofs.plans.Asked.{chunk_asks, chunk_pays}
use Rattle.px_plans.proofs.sizing.push_chunk.Goals as goal

pub returns-clause-asked : goal.returns-clause-asked
returns-clause-asked c = chunk_asks _ _ _ _ c.args.out.now.ok.1 c.push.ensures.fits c.push.ensures.asked

pub returns-clause-paid : goal.returns-clause-paid
returns-clause-paid c =
    let push = c.push.ensures in
    chunk_pays c.push.result _ _ _ _ _ _ c.args.out.now.ok.1 push.len push.fits push.asked push.larger
