use Rattle.px_jpeg.proofs.CutLaws.{ended_serve}
use Rattle.px_jpeg.proofs.laws.ended_serve.Goals as goal

pub returns : goal.returns
returns c = ended_serve
