use Rattle.px_xmp.proofs.SaidLaws.{normal_says}
use Rattle.px_xmp.proofs.laws.normal_says.Goals as goal

pub returns : goal.returns
returns c = normal_says c.normal_reads_back.ensures c.normal_bound.ensures c.fault_or_text.ensures
