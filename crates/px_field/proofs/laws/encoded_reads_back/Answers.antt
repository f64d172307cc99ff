use Rattle.px_field.specs.lemmas.ValueLaws.{value_in_encoded, whole_in_encoded}
use Rattle.px_field.proofs.laws.encoded_reads_back.Goals as goal

pub returns : goal.returns
returns c = (value_in_encoded, whole_in_encoded)
