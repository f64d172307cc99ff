use Rattle.px_field.specs.lemmas.ValueLaws.{IsValue_value_in, IsValue_whole_in}
use Rattle.px_field.proofs.laws.read_in_range.Goals as goal

pub returns : goal.returns
returns c = (IsValue_value_in, IsValue_whole_in)
