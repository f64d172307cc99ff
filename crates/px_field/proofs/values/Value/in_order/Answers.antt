use Rattle.std.proofs.Common.{◌≡◌, sym, ap, ◌∙◌, rules}
use Rattle.px_field.specs.Values.{Value, encoded}
use Rattle.px_field.proofs.ViewLemmas.{encoded_one, encoded_plain, encoded_long}
use Rattle.px_field.proofs.values.Value.in_order.Goals as goal

pub returns-then-size-eq1-clause-encoded : goal.returns-then-size-eq1-clause-encoded
returns-then-size-eq1-clause-encoded c =
    let v = c.self.inside in
    sym (encoded_one v.widened v.order c.args.order v.form v.raw.now c.self.invariant.width (sym c.size.ensures ∙ c.if-size-eq1.true))
    ∙ ap (λ (w : Value). encoded c.args.order w) c.self.view_is

pub returns-then-not-self-clause-encoded : goal.returns-then-not-self-clause-encoded
returns-then-not-self-clause-encoded c =
    let v = c.self.inside in
    let same : v.order ≡ c.args.order = search rules in
    sym (encoded_plain v.widened v.order c.args.order v.form v.raw.now c.if-not-self.true same c.self.invariant.whole
    c.self.invariant.bytes)
    ∙ ap (λ (w : Value). encoded c.args.order w) c.self.view_is

pub returns-in-Long-clause-encoded : goal.returns-in-Long-clause-encoded
returns-in-Long-clause-encoded c =
    let v = c.self.inside in
    let same : v.order ≡ c.args.order = search rules in
    sym (encoded_long v.widened v.order c.args.order v.form v.raw.now c.in-Long.is same c.self.invariant.whole c.self.invariant.bytes)
    ∙ ap (λ (w : Value). encoded c.args.order w) c.self.view_is
