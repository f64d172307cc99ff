use Rattle.std.proofs.Common.{Bool, not, sym, subst}
use Rattle.px_jpeg.specs.Fault.{IsFront}
use Rattle.px_jpeg.specs.Pieces.{AllInside}
use Rattle.px_jpeg.specs.Reading.{left_of}
use Rattle.px_jpeg.proofs.FirstParts.{head_front, fault_front, front_inside}
use Rattle.px_jpeg.proofs.head.find_parts.Goals as goal

pub returns-clause-front : goal.returns-clause-front
returns-clause-front c =
    let b = c.args.bytes.now in
    subst (λ (s : Bool). IsFront b (left_of (not s) 2 b)) (sym c.starts.ensures) (record { head = head_front b; fault = fault_front b })

pub returns-clause-inside : goal.returns-clause-inside
returns-clause-inside c =
    let b = c.args.bytes.now in
    subst (λ (s : Bool). AllInside b (left_of (not s) 2 b)) (sym c.starts.ensures) (front_inside b)
