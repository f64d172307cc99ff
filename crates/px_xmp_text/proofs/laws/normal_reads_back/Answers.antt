use Rattle.px_xmp_text.proofs.TextLaws.{normal_reads_back}
use Rattle.px_xmp_text.proofs.laws.normal_reads_back.Goals as goal

pub returns : goal.returns
returns c = normal_reads_back
