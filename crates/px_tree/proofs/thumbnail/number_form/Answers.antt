use Rattle.std.proofs.Common.{◌≡◌, ℕ, inl, inr, Some, ap}
use Rattle.px_field.specs.declared.Form.TheVariants.{Short, Long}
use Rattle.px_field.specs.Forms.{form_of}
use Rattle.px_tree.proofs.thumbnail.number_form.Goals as goal

form_three : (n : ℕ) → n ≡ 3 → form_of n ≡ Some Short
unfolding form_of
form_three n e = ap form_of e

form_four : (n : ℕ) → n ≡ 4 → form_of n ≡ Some Long
unfolding form_of
form_four n e = ap form_of e

pub returns-then-code-eq3 : goal.returns-then-code-eq3
returns-then-code-eq3 c = λ h. form_three _ c.if-code-eq3.true

pub returns : goal.returns
returns c = λ h. elim h [
  | inl e ↦ absurd (c.if-code-eq3.false e)
  | inr e ↦ form_four _ e
]
