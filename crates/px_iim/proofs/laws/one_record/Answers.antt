use Rattle.px_iim.specs.lemmas.RecordLaws.{one_record}
use Rattle.px_iim.proofs.laws.one_record.Goals as goal

pub returns : goal.returns
returns c = one_record
