use Rattle.std.proofs.Common.{◌≡◌, ◌*◌, length, sym, ap, ◌∙◌, arith}
use Rattle.px_field.specs.Forms.{size}
use Rattle.px_field.specs.Values.{Value, IsValue, form_in}
use Rattle.px_field.specs.lemmas.ValueLaws.{length_encoded, count_in_bound}
use Rattle.px_field.proofs.ViewLemmas.{size_shown, size_whole, length_shown, IsValue_shown}
use Rattle.px_field.specs.calls.Views.{shown}
use Rattle.px_field.proofs.values.Value.size.Goals as goal

pub returns-then-self-clause-elements : goal.returns-then-self-clause-elements
returns-then-self-clause-elements c =
    let v = c.self.inside in
    let four : size (form_in c.args.self.now.kind) ≡ 4 =
    ap (λ (w : Value). size (form_in w.kind)) (sym c.self.view_is) ∙ size_whole v.widened v.order v.form v.raw.now c.if-self.true in
    rw four (omega arith)

pub returns-else-self-clause-elements : goal.returns-else-self-clause-elements
returns-else-self-clause-elements c =
    let v = c.self.inside in
    sym (size_shown v.widened v.order v.form v.raw.now c.self.invariant.whole c.if-self.false)
    ∙ ap (λ (w : Value). length w.elements * size (form_in w.kind)) c.self.view_is

pub returns-then-self-clause-encoded : goal.returns-then-self-clause-encoded
returns-then-self-clause-encoded c o =
    let v = c.self.inside in
    let is : IsValue c.args.self.now =
    rw (← c.self.view_is) (IsValue_shown v.widened v.order v.form v.raw.now c.self.invariant.width c.self.invariant.bytes) in
    returns-then-self-clause-elements c ∙ sym (length_encoded o c.args.self.now is)

pub returns-else-self-clause-encoded : goal.returns-else-self-clause-encoded
returns-else-self-clause-encoded c o =
    let v = c.self.inside in
    let is : IsValue c.args.self.now =
    rw (← c.self.view_is) (IsValue_shown v.widened v.order v.form v.raw.now c.self.invariant.width c.self.invariant.bytes) in
    returns-else-self-clause-elements c ∙ sym (length_encoded o c.args.self.now is)

pub returns-then-self-clause-bounded : goal.returns-then-self-clause-bounded
returns-then-self-clause-bounded c =
    let v = c.self.inside in
    let seen : length (shown v.widened v.order v.form v.raw.now).elements ≡ length c.args.self.now.elements =
    ap (λ (w : Value). length w.elements) c.self.view_is in
    omega (
      arith,
      count_in_bound v.form v.raw.now (c.self.invariant.width c.if-self.true),
      length_shown v.widened v.order v.form v.raw.now,
      seen,
      c.self.invariant.bounded,
      c.count.ensures.count,
    )
