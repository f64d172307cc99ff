use Rattle.std.proofs.Common.{◌∙◌, length, sym, ap}
use Rattle.px_jpeg.proofs.PieceLaws.{found_long}
use Rattle.px_jpeg.proofs.contents.WithPieces.len.Goals as goal

pub returns : goal.returns
returns c =
    c.len.ensures ∙ sym (found_long c.self.inside.bytes.now c.self.inside.last c.self.inside.parts) ∙ ap length c.self.view_is
