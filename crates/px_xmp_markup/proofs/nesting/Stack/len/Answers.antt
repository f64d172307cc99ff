use Rattle.std.proofs.Common.{length, sym, ap, ◌∙◌, arith}
use Rattle.px_xmp_markup.proofs.StackLaws.{length_stack_of}
use Rattle.px_xmp_markup.proofs.nesting.Stack.len.Goals as goal

pub returns-clause-value : goal.returns-clause-value
returns-clause-value c =
    let all = c.self.invariant.1 in
    sym (length_stack_of c.self.inside.len c.self.inside.names (omega (arith, all, c.self.invariant.0))) ∙ ap length c.self.view_is
