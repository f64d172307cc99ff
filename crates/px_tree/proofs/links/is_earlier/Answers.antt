use Rattle.std.proofs.Common.{sym, ◌∙◌}
use Rattle.px_tree.proofs.reading.Earlier.{here_earlier, pass_earlier}
use Rattle.px_tree.proofs.links.is_earlier.Goals as goal

pub returns-then-leads_to : goal.returns-then-leads_to
returns-then-leads_to c =
    sym (sym c.loop-link.invariant ∙ here_earlier c.args.earlier.now c.loop-link.link-index _ c.args.at c.loop-link-test.true
    c.leads_to.result c.leads_to.ensures c.if-leads_to.true)

pub loop-link-preserved : goal.loop-link-preserved
loop-link-preserved c =
    pass_earlier c.args.earlier.now c.loop-link.link-index _ c.args.at c.loop-link-test.true c.leads_to.result c.leads_to.ensures
    c.if-leads_to.false ∙ c.loop-link.invariant
