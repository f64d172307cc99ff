use Rattle.std.proofs.Common.{◌∙◌, sym, ap, subst, arith}
use Rattle.std.proofs.lemmas.Bool.{both_ways}
use Rattle.px_jpeg.specs.Front.{MayContinue}
use Rattle.px_jpeg.specs.Reading.{is_part}
use Rattle.px_jpeg.proofs.EndLaws.{walk_start, walk_begins, walk_continues, head_ends, closed_ends, open_ends}
use Rattle.px_jpeg.proofs.HeadLaws.{fault_no_part}
use Rattle.px_jpeg.proofs.Walking.{start_long, part_inside, part_advances}
use Rattle.px_jpeg.proofs.fronts.end_of_front.Goals.{then-begins_block, else-begins_block}
use Rattle.px_jpeg.proofs.fronts.end_of_front.Goals as goal

pub loop-part-init : goal.loop-part-init
loop-part-init c = record {
  inside = start_long c.args.bytes.now c.requires;
  begun = start_long c.args.bytes.now c.requires;
  walked = walk_start c.args.bytes.now c.requires;
}

-- ---- no more part

pub is_open-requires : goal.is_open-requires
is_open-requires c =
    ap is_part (c.rest-in_default.ensures ∙ sym c.rest.ensures) ∙ fault_no_part c.in_default.field-0 c.rest.result.now c.in_default.ensures

pub returns-then-is_open-clause-ended : goal.returns-then-is_open-clause-ended
returns-then-is_open-clause-ended c =
    let may = c.is_open.ensures.0 c.if-is_open.true in
    (open_ends c.args.bytes.now c.loop-part.at c.loop-part.begun c.loop-part.last c.loop-part.invariant.walked c.rest.result.now
    c.rest.ensures c.in_default.field-0 c.in_default.ensures
    (may.0, subst MayContinue (c.rest-in_default.ensures ∙ sym c.rest.ensures) may.1)).ended

pub returns-then-is_open-clause-front : goal.returns-then-is_open-clause-front
returns-then-is_open-clause-front c =
    let may = c.is_open.ensures.0 c.if-is_open.true in
    (open_ends c.args.bytes.now c.loop-part.at c.loop-part.begun c.loop-part.last c.loop-part.invariant.walked c.rest.result.now
    c.rest.ensures c.in_default.field-0 c.in_default.ensures
    (may.0, subst MayContinue (c.rest-in_default.ensures ∙ sym c.rest.ensures) may.1)).front

pub returns-in_default-clause-ended : goal.returns-in_default-clause-ended
returns-in_default-clause-ended c =
    (closed_ends c.args.bytes.now c.loop-part.at c.loop-part.begun c.loop-part.last c.loop-part.invariant.walked c.rest.result.now
    c.rest.ensures c.in_default.field-0 c.in_default.ensures
    (λ o. both_ways c.is_open.result c.if-is_open.false
    (c.is_open.ensures.1 (o.0, subst MayContinue (c.rest.ensures ∙ sym c.rest-in_default.ensures) o.1)))).ended

pub returns-in_default-clause-front : goal.returns-in_default-clause-front
returns-in_default-clause-front c =
    (closed_ends c.args.bytes.now c.loop-part.at c.loop-part.begun c.loop-part.last c.loop-part.invariant.walked c.rest.result.now
    c.rest.ensures c.in_default.field-0 c.in_default.ensures
    (λ o. both_ways c.is_open.result c.if-is_open.false
    (c.is_open.ensures.1 (o.0, subst MayContinue (c.rest.ensures ∙ sym c.rest-in_default.ensures) o.1)))).front

-- ---- one more part

pub bytes_at-requires : goal.bytes_at-requires
bytes_at-requires c =
    part_inside c.args.bytes.now c.loop-part.at c.rest.result.now c.in-Ok.part c.rest.ensures c.in-Ok.ensures.0 c.in-Ok.ensures.1
    c.loop-part.invariant.inside

pub begins_block-requires-clause-inside : goal.begins_block-requires-clause-inside
begins_block-requires-clause-inside c =
    part_inside c.args.bytes.now c.loop-part.at c.rest.result.now c.in-Ok.part c.rest.ensures c.in-Ok.ensures.0 c.in-Ok.ensures.1
    c.loop-part.invariant.inside

pub overflow_add-at : goal.overflow_add-at
overflow_add-at c =
    let l = part_inside c.args.bytes.now c.loop-part.at c.rest.result.now c.in-Ok.part c.rest.ensures c.in-Ok.ensures.0 c.in-Ok.ensures.1
    c.loop-part.invariant.inside in
    record { fits = omega arith }

pub returns-then-is_last-clause-within : goal.returns-then-is_last-clause-within
returns-then-is_last-clause-within c =
    part_inside c.args.bytes.now c.loop-part.at c.rest.result.now c.in-Ok.part c.rest.ensures c.in-Ok.ensures.0 c.in-Ok.ensures.1
    c.loop-part.invariant.inside

pub returns-then-is_last-clause-ended : goal.returns-then-is_last-clause-ended
returns-then-is_last-clause-ended c =
    (head_ends c.args.bytes.now c.loop-part.at c.loop-part.begun c.loop-part.last c.loop-part.invariant.walked c.rest.result.now
    c.in-Ok.part c.rest.ensures c.in-Ok.ensures.0 c.in-Ok.ensures.1 (sym c.is_last.ensures ∙ c.if-is_last.true)).ended

pub returns-then-is_last-clause-front : goal.returns-then-is_last-clause-front
returns-then-is_last-clause-front c =
    (head_ends c.args.bytes.now c.loop-part.at c.loop-part.begun c.loop-part.last c.loop-part.invariant.walked c.rest.result.now
    c.in-Ok.part c.rest.ensures c.in-Ok.ensures.0 c.in-Ok.ensures.1 (sym c.is_last.ensures ∙ c.if-is_last.true)).front

pub loop-part-smaller : goal.loop-part-smaller
loop-part-smaller c =
    let l = part_inside c.args.bytes.now c.loop-part.at c.rest.result.now c.in-Ok.part c.rest.ensures c.in-Ok.ensures.0 c.in-Ok.ensures.1
    c.loop-part.invariant.inside in
    let m = part_advances c.args.bytes.now c.loop-part.at c.rest.result.now c.in-Ok.part c.rest.ensures
    c.in-Ok.ensures.0 c.in-Ok.ensures.1 in
    omega arith

pub loop-part-preserved : goal.loop-part-preserved
loop-part-preserved c =
    let l = part_inside c.args.bytes.now c.loop-part.at c.rest.result.now c.in-Ok.part c.rest.ensures c.in-Ok.ensures.0 c.in-Ok.ensures.1
    c.loop-part.invariant.inside in
    elim c.if-begins_block.branch [
      | then-begins_block w ↦
          rw w.begun-is (record {
            inside = l;
            begun = c.loop-part.invariant.inside;
            walked =
                walk_begins c.args.bytes.now c.loop-part.at c.loop-part.begun c.loop-part.last c.loop-part.invariant.walked
                c.rest.result.now c.in-Ok.part c.rest.ensures c.in-Ok.ensures.0 c.in-Ok.ensures.1 c.bytes_at.result.now c.bytes_at.ensures
                c.segment_kind-kind.result c.segment_kind-kind.ensures.value (sym c.is_last.ensures ∙ c.if-is_last.false) c.begins_block.result
                c.begins_block.ensures w.if-begins_block.true;
          })
      | else-begins_block w ↦
          rw w.begun-is (record {
            inside = l;
            begun = c.loop-part.invariant.begun;
            walked =
                walk_continues c.args.bytes.now c.loop-part.at c.loop-part.begun c.loop-part.last c.loop-part.invariant.walked
                c.rest.result.now c.in-Ok.part c.rest.ensures c.in-Ok.ensures.0 c.in-Ok.ensures.1 c.bytes_at.result.now c.bytes_at.ensures
                c.segment_kind-kind.result c.segment_kind-kind.ensures.value (sym c.is_last.ensures ∙ c.if-is_last.false) c.begins_block.result
                c.begins_block.ensures w.if-begins_block.false;
          })
    ]
