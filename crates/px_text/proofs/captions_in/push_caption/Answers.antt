use Rattle.px_text.proofs.Growth.{push_pays, push_asks}
use Rattle.px_text.proofs.captions_in.push_caption.Goals as goal

pub returns-clause-asked : goal.returns-clause-asked
returns-clause-asked c = push_asks _ _ _ _ c.args.list.now.ok.1 c.push.ensures.fits c.push.ensures.asked

pub returns-clause-paid : goal.returns-clause-paid
returns-clause-paid c =
    push_pays c.push.result _ _ _ _ _ _ c.args.list.now.ok.1 c.push.ensures.len c.push.ensures.fits c.push.ensures.asked c.push.ensures.larger
