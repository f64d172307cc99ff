use Rattle.px_jpeg.proofs.PieceLaws.{pieces_found}
use Rattle.px_jpeg.proofs.laws.pieces_found.Goals as goal

pub returns : goal.returns
returns c = pieces_found
