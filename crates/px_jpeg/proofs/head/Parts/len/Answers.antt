use Rattle.std.proofs.Common.{inl, arith}
use Rattle.px_jpeg.proofs.FirstParts.{left_few}
use Rattle.px_jpeg.proofs.head.Parts.len.Goals as goal

pub count-requires-clause-fits : goal.count-requires-clause-fits
count-requires-clause-fits c =
    let l = left_few c.self.inside.is_over c.self.inside.at c.self.inside.bytes.now in
    let r = c.self.ranges in
    inl (omega arith)
