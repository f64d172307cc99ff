use Rattle.px_field.specs.lemmas.ValueLaws.{length_encoded}
use Rattle.px_field.proofs.laws.encoded_length.Goals as goal

pub returns : goal.returns
returns c = length_encoded
