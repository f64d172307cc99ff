use Rattle.px_field.proofs.ViewLemmas.{IsValue_shown}
use Rattle.px_field.proofs.values.Value.kind.Goals as goal

pub returns-then-self-clause-ranges : goal.returns-then-self-clause-ranges
returns-then-self-clause-ranges c =
    let v = c.self.inside in
    rw (← c.self.view_is) (IsValue_shown v.widened v.order v.form v.raw.now c.self.invariant.width c.self.invariant.bytes)

pub returns-else-self-clause-ranges : goal.returns-else-self-clause-ranges
returns-else-self-clause-ranges c =
    let v = c.self.inside in
    rw (← c.self.view_is) (IsValue_shown v.widened v.order v.form v.raw.now c.self.invariant.width c.self.invariant.bytes)
