use Rattle.std.proofs.Common.{sym, ap, ◌∙◌, List, ℕ}
use Rattle.px_field.specs.Values.{Value, value_in, encoded}
use Rattle.px_field.specs.lemmas.ValueLaws.{value_in_encoded, encoded_value_in}
use Rattle.px_field.proofs.laws.read_encodes.Goals as goal

pub returns : goal.returns
returns c o f v raw kind is are whole = (
  λ e. sym (value_in_encoded o f v kind is) ∙ ap (λ (l : List ℕ). value_in o f l) (sym e),
  λ e. sym (encoded_value_in o f raw whole are) ∙ ap (λ (w : Value). encoded o w) (sym e),
)
