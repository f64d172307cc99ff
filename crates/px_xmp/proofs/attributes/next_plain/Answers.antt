use Rattle.std.proofs.Common.{sym, ◌∙◌, arith}
use Rattle.px_xmp_marks.specs.Reading.{next_view}
use Rattle.px_xmp.proofs.TagLaws.{passed_plain, found_plain, no_plain}
use Rattle.px_xmp.proofs.attributes.next_plain.Goals as goal

pub returns-then-is_plain-clause-value : goal.returns-then-is_plain-clause-value
returns-then-is_plain-clause-value c attributes l =
    found_plain c.attributes_in_order.ensures c.loop-next.rest.now attributes (next_view c.in-Some.next) (c.loop-next.invariant.left attributes l)
    (sym c.in-Some.ensures.value) (sym c.is_plain.ensures ∙ c.if-is_plain.true)

pub loop-next-preserved : goal.loop-next-preserved
loop-next-preserved c =
    record {
      within = omega (arith, c.in-Some.ensures.shorter, c.loop-next.invariant.within);
      left = λ attributes l.
          passed_plain c.attributes_in_order.ensures c.loop-next.rest.now attributes (next_view c.in-Some.next)
          (c.loop-next.invariant.left attributes l) (sym c.in-Some.ensures.value) (sym c.is_plain.ensures ∙ c.if-is_plain.false);
    }

pub returns-clause-value : goal.returns-clause-value
returns-clause-value c attributes l =
    no_plain c.attributes_in_order.ensures c.loop-next.rest.now attributes (c.loop-next.invariant.left attributes l) (sym c.in_default.ensures.value)
