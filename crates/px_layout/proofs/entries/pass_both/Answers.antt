use Rattle.px_layout.proofs.plans.EntryLists.{upper_here, passes_both}
use Rattle.px_layout.proofs.entries.pass_both.Goals as goal

pub returns-in-Here : goal.returns-in-Here
returns-in-Here c = upper_here c.in-Here.tag c.in-Here.item c.args.upper.now c.args.lower.now c.args.i c.in-Here.ensures

pub returns-in-Under : goal.returns-in-Under
returns-in-Under c = passes_both c.pass-in-Under.result c.args.upper.now c.args.lower.now c.args.i c.in-Under.i c.in-Under.ensures
    c.pass-in-Under.ensures
