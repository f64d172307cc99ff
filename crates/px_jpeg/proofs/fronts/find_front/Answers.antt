use Rattle.std.proofs.Common.{length, take, arith, subst, length-take, List, ℕ, sym}
use Rattle.px_jpeg.specs.Pieces.{AllInside}
use Rattle.px_jpeg.specs.Reading.{front}
use Rattle.px_jpeg.proofs.FirstParts.{front_inside}
use Rattle.px_jpeg.proofs.PieceLaws.{inside_more}
use Rattle.px_jpeg.proofs.fronts.find_front.Goals as goal

pub invariant_of-result-2 : goal.invariant_of-result-2
invariant_of-result-2 c =
    let b = c.args.bytes.now in
    let n = c.end_of_front.result in
    subst (λ (x : List ℕ). AllInside b (front x)) (sym c.split_at-2.ensures.front)
    (inside_more (length (take n b)) (length b) (front (take n b)) (omega (arith, length-take n b)) (front_inside (take n b)))
