use Rattle.std.proofs.Common.{◌≡◌, ℕ, length, slice_get, Some, inl, inr, sym, ap, subst, ◌∙◌, arith, rules}
use Rattle.std.proofs.lemmas.Bool.{cases_lt}
use Rattle.px_field.specs.declared.forms.Element.{Element}
use Rattle.px_bytes.specs.lemmas.SameLaws.{same_by_get}
use Rattle.px_field.proofs.values.same_elements.Goals as goal

pub loop-i-preserved : goal.loop-i-preserved
loop-i-preserved c k below = elim (cases_lt k c.loop-i.i) [
  | inl before ↦ c.loop-i.invariant k before
  | inr after ↦
      let same : c.element.result ≡ c.element-in-loop-i.result = search rules in
      let here : c.loop-i.i ≡ k = omega arith in
      let P : ℕ → Type 0 = λ (j : ℕ). slice_get c.args.a.now.elements j ≡ slice_get c.args.b.now.elements j in
      subst P here (c.element.ensures.element ∙ ap (λ (e : Element). Some e) same ∙ sym c.element-in-loop-i.ensures.element)
]

pub returns : goal.returns
returns c =
    let lengths : length c.args.a.now.elements ≡ length c.args.b.now.elements = omega arith in
    let elements : c.args.a.now.elements ≡ c.args.b.now.elements =
    same_by_get _ _ lengths (λ k below. c.loop-i.invariant k (omega arith)) in
    (λ _. elements, λ _. search rules)
