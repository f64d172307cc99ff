use Rattle.px_iim.specs.lemmas.RecordLaws.{meaning_is_record}
use Rattle.px_iim.proofs.laws.meaning_is_record.Goals as goal

pub returns : goal.returns
returns c = meaning_is_record
