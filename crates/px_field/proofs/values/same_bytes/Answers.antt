use Rattle.std.proofs.Common.{◌≡◌, IsTrue, sym, ap, ◌∙◌, rules}
use Rattle.px_field.specs.Values.{Value, encoded}
use Rattle.px_field.proofs.ViewLemmas.{same_encoded}
use Rattle.px_field.proofs.values.same_bytes.Goals as goal

pub returns : goal.returns
returns c =
    let x : c.in_ok-x.x.now ≡ encoded c.args.order c.args.a.now = c.in_ok-x.ensures.encoded in
    let y : c.in_ok-y.y.now ≡ encoded c.args.order c.args.b.now = c.in_ok-y.ensures.encoded in
    let to : IsTrue c.eq.result → c.in_ok-x.x.now ≡ c.in_ok-y.y.now = search rules in
    let from : c.in_ok-x.x.now ≡ c.in_ok-y.y.now → IsTrue c.eq.result = search rules in (
      λ t. same_encoded c.args.order c.args.a.now c.args.b.now c.requires.kind c.requires.left c.requires.right (sym x ∙ to t ∙ y),
      λ e. from (x ∙ ap (λ (v : Value). encoded c.args.order v) e ∙ sym y),
    )
