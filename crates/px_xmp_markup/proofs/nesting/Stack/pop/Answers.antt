use Rattle.std.proofs.Common.{sym, ◌∙◌, arith}
use Rattle.px_xmp_markup.proofs.StackLaws.{stack_pop}
use Rattle.px_xmp_markup.proofs.nesting.Stack.pop.Goals as goal

pub returns : goal.returns
returns c =
    let all = c.self.invariant.1 in
    sym c.self.view_is
    ∙ stack_pop c.self.inside.len c.self.inside.names _ (omega (arith, c.if-self-eq0.false)) (omega (arith, all, c.self.invariant.0))
