use Rattle.std.proofs.Common.{◌∙◌, ◌++◌, [], ◌∷◌, sym, arith, refl}
use Rattle.px_jpeg.proofs.Walking.{part_inside, part_advances, next_after, means_head, some_head, whole_head}
use Rattle.px_jpeg.proofs.head.read_head.Goals as goal

pub overflow_add-at : goal.overflow_add-at
overflow_add-at c =
    let l = part_inside c.args.bytes.now c.loop-part.at c.rest.result.now c.in-Ok.part c.rest.ensures c.in-Ok.ensures.0 c.in-Ok.ensures.1
    c.loop-part.invariant.inside in
    record { fits = omega arith }

pub invariant_of-result : goal.invariant_of-result
invariant_of-result c =
    let (ps, r) = c.loop-part.invariant.after in
    some_head c.args.bytes.now (ps ++ c.in-Ok.part ∷ [])
    (means_head c.args.bytes.now c.loop-part.at c.rest.result.now c.in-Ok.part c.rest.ensures
    c.in-Ok.ensures.0 c.in-Ok.ensures.1 ps r (sym c.is_last.ensures ∙ c.if-is_last.true))

pub returns-then-is_last : goal.returns-then-is_last
returns-then-is_last c =
    let (ps, r) = c.loop-part.invariant.after in (
      refl,
      whole_head c.args.bytes.now (ps ++ c.in-Ok.part ∷ []) (means_head c.args.bytes.now c.loop-part.at c.rest.result.now c.in-Ok.part
          c.rest.ensures c.in-Ok.ensures.0 c.in-Ok.ensures.1 ps r (sym c.is_last.ensures ∙ c.if-is_last.true)),
    )

pub loop-part-smaller : goal.loop-part-smaller
loop-part-smaller c =
    let l = part_inside c.args.bytes.now c.loop-part.at c.rest.result.now c.in-Ok.part c.rest.ensures c.in-Ok.ensures.0 c.in-Ok.ensures.1
    c.loop-part.invariant.inside in
    let m = part_advances c.args.bytes.now c.loop-part.at c.rest.result.now c.in-Ok.part c.rest.ensures
    c.in-Ok.ensures.0 c.in-Ok.ensures.1 in
    omega arith

pub loop-part-preserved : goal.loop-part-preserved
loop-part-preserved c =
    let (ps, r) = c.loop-part.invariant.after in record {
      inside = part_inside c.args.bytes.now c.loop-part.at c.rest.result.now c.in-Ok.part c.rest.ensures c.in-Ok.ensures.0 c.in-Ok.ensures.1
          c.loop-part.invariant.inside;
      after = (
        ps ++ c.in-Ok.part ∷ [],
        next_after c.args.bytes.now c.loop-part.at c.rest.result.now c.in-Ok.part c.rest.ensures c.in-Ok.ensures.0 c.in-Ok.ensures.1 ps r
            (sym c.is_last.ensures ∙ c.if-is_last.false),
      );
    }
