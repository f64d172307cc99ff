use Rattle.std.proofs.Common.{◌≡◌, Bool, true, false, length, slice_get, Some, sym, ap, ◌∙◌, arith}
use Rattle.px_field.specs.declared.forms.Element.{Element}
use Rattle.px_field.specs.Values.{Value}
use Rattle.px_field.specs.calls.Views.{shown}
use Rattle.px_field.proofs.ViewLemmas.{length_shown, get_whole, IsOf_shown}
use Rattle.px_field.proofs.values.Value.element.Goals as goal

pub element_in-element-requires-clause-inside : goal.element_in-element-requires-clause-inside
element_in-element-requires-clause-inside c =
    let v = c.self.inside in
    let seen : length (shown v.widened v.order v.form v.raw.now).elements ≡ length c.args.self.now.elements =
    ap (λ (w : Value). length w.elements) c.self.view_is in
    omega (arith, length_shown v.widened v.order v.form v.raw.now, seen)

pub returns-then-self-clause-element : goal.returns-then-self-clause-element
returns-then-self-clause-element c =
    let v = c.self.inside in
    let seen : shown true v.order v.form v.raw.now ≡ c.args.self.now =
    ap (λ (w : Bool). shown w v.order v.form v.raw.now) (sym c.if-self.true) ∙ c.self.view_is in
    rw (← seen) (get_whole v.order v.form v.raw.now c.args.i c.element_in-element.result c.element_in-element.ensures
    ∙ ap (λ (e : Element). Some e) (sym c.widen.ensures))

pub returns-then-self-clause-range : goal.returns-then-self-clause-range
returns-then-self-clause-range c =
    let v = c.self.inside in
    IsOf_shown v.widened v.order v.form v.raw.now c.args.self.now c.args.i c.widen.result c.self.invariant.width c.self.invariant.bytes
    c.self.view_is (returns-then-self-clause-element c)

pub returns-else-self-clause-range : goal.returns-else-self-clause-range
returns-else-self-clause-range c =
    let v = c.self.inside in
    let seen : shown false v.order v.form v.raw.now ≡ c.args.self.now =
    ap (λ (w : Bool). shown w v.order v.form v.raw.now) (sym c.if-self.false) ∙ c.self.view_is in
    let here : slice_get c.args.self.now.elements c.args.i ≡ Some c.element_in-element.result = rw (← seen) c.element_in-element.ensures in
    IsOf_shown v.widened v.order v.form v.raw.now c.args.self.now c.args.i c.element_in-element.result c.self.invariant.width
    c.self.invariant.bytes c.self.view_is here
