use Rattle.px_jpeg.proofs.HeadLaws.{head_computes}
use Rattle.px_jpeg.proofs.laws.computes.Goals as goal

pub returns : goal.returns
returns c = head_computes
