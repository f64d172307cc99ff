use Rattle.std.proofs.Common.{drop, inl, arith, length-drop}
use Rattle.px_jpeg.proofs.ResourceLaws.{resources_few}
use Rattle.px_jpeg.proofs.resources.Resources.len.Goals as goal

pub count-requires-clause-fits : goal.count-requires-clause-fits
count-requires-clause-fits c =
    let at = c.self.inside.at in
    let b = c.self.inside.bytes.now in
    let l = resources_few at (drop at b) in
    let r = c.self.ranges in
    inl (omega (arith, length-drop at b))
