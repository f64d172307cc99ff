use Rattle.std.proofs.Common.{length, drop, sym, ap, ◌∙◌, arith, length-take}
use Rattle.px_jpeg.specs.Pieces.{pieces}
use Rattle.px_jpeg.proofs.PieceLaws.{piece_first, piece_none, first_inside}
use Rattle.px_jpeg.proofs.pieces.next_piece.Goals as goal

pub returns-in_default-clause-steps : goal.returns-in_default-clause-steps
returns-in_default-clause-steps c = (
  sym c.loop-part.invariant.left ∙ ap (pieces c.args.bytes.now c.loop-part.before) c.in_default.ensures.steps.0,
  c.in_default.ensures.steps.1,
)

pub bytes_at-requires : goal.bytes_at-requires
bytes_at-requires c =
    (first_inside c.args.bytes.now c.loop-part.parts c.next.new.self c.in-Some.part c.in-Some.ensures.steps c.loop-part.invariant.inside).0

pub piece_of-requires-clause-inside : goal.piece_of-requires-clause-inside
piece_of-requires-clause-inside c =
    (first_inside c.args.bytes.now c.loop-part.parts c.next.new.self c.in-Some.part c.in-Some.ensures.steps c.loop-part.invariant.inside).0

pub piece_of-requires-clause-marked : goal.piece_of-requires-clause-marked
piece_of-requires-clause-marked c =
    let l = ap length c.bytes_at.ensures ∙ length-take c.in-Some.part.size (drop c.in-Some.part.start c.args.bytes.now) in
    omega (arith, c.in-Some-segment_kind.ensures.few)

pub returns-in-Some-segment_kind-clause-inside : goal.returns-in-Some-segment_kind-clause-inside
returns-in-Some-segment_kind-clause-inside c =
    (first_inside c.args.bytes.now c.loop-part.parts c.next.new.self c.in-Some.part c.in-Some.ensures.steps c.loop-part.invariant.inside).1

pub returns-in-Some-segment_kind-clause-steps : goal.returns-in-Some-segment_kind-clause-steps
returns-in-Some-segment_kind-clause-steps c =
    rw c.piece_of.ensures (sym c.loop-part.invariant.left
    ∙ piece_first c.args.bytes.now c.loop-part.before c.loop-part.parts c.next.new.self c.in-Some.part c.bytes_at.result.now
    c.in-Some-segment_kind.kind c.in-Some.ensures.steps c.bytes_at.ensures c.in-Some-segment_kind.ensures.value)

pub loop-part-preserved : goal.loop-part-preserved
loop-part-preserved c = record {
  inside = (first_inside c.args.bytes.now c.loop-part.parts c.next.new.self c.in-Some.part c.in-Some.ensures.steps
      c.loop-part.invariant.inside).1;
  left = sym (piece_none c.args.bytes.now c.loop-part.before c.loop-part.parts c.next.new.self c.in-Some.part c.bytes_at.result.now
      c.in-Some.ensures.steps c.bytes_at.ensures c.in-None.ensures.value) ∙ c.loop-part.invariant.left;
}
