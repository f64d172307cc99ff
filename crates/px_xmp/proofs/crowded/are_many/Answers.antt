use Rattle.std.proofs.Common.{sym, subst, arith}
use Rattle.px_xmp_marks.specs.Reading.{next_view}
use Rattle.px_xmp.proofs.CrowdedLaws.{LeftOf, next_of, many_of, few_of}
use Rattle.px_xmp.proofs.crowded.are_many.Goals as goal

pub loop-next-init : goal.loop-next-init
loop-next-init c = record { left = λ attributes listed. (attributes, listed, omega arith); few = omega arith }

pub returns-then-left-eq0 : goal.returns-then-left-eq0
returns-then-left-eq0 c attributes listed =
    many_of c.attributes_in_order.ensures attributes c.loop-next.rest.now (next_view c.in-Some.next)
    (subst (λ n. LeftOf attributes c.loop-next.rest.now n) c.if-left-eq0.true (c.loop-next.invariant.left attributes listed))
    (sym c.in-Some.ensures.value)

pub loop-next-preserved : goal.loop-next-preserved
loop-next-preserved c =
    record {
      left = λ attributes listed.
          next_of c.attributes_in_order.ensures attributes c.loop-next.rest.now c.loop-next.left _ (next_view c.in-Some.next)
          (c.loop-next.invariant.left attributes listed) (sym c.in-Some.ensures.value) (omega (arith, c.if-left-eq0.false));
      few = omega (arith, c.loop-next.invariant.few);
    }

pub returns : goal.returns
returns c attributes listed =
    few_of c.attributes_in_order.ensures attributes c.loop-next.rest.now c.loop-next.left (c.loop-next.invariant.left attributes listed)
    (sym c.in_default.ensures.value)
