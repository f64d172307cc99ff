use Rattle.std.proofs.Common.{sym}
use Rattle.px_xmp_marks.specs.Reading.{next_view}
use Rattle.px_xmp_markup.proofs.AttributeLaws.{next_distinct, this_repeated, all_distinct}
use Rattle.px_xmp_markup.proofs.attributes.has_repeated.Goals as goal

pub returns-then-has_name-clause-repeated : goal.returns-then-has_name-clause-repeated
returns-then-has_name-clause-repeated c attributes l t =
    this_repeated c.loop-next.rest.now attributes (next_view c.in-Some.next) (c.loop-next.invariant attributes l) (sym c.in-Some.ensures.value)
    (λ more left. c.has_name.ensures.among more left c.if-has_name.true)

pub loop-next-preserved : goal.loop-next-preserved
loop-next-preserved c attributes l =
    next_distinct c.loop-next.rest.now attributes (next_view c.in-Some.next) (c.loop-next.invariant attributes l) (sym c.in-Some.ensures.value)
    (λ more left. c.has_name.ensures.none more left c.if-has_name.false)

pub returns-clause-distinct : goal.returns-clause-distinct
returns-clause-distinct c attributes l t =
    all_distinct c.loop-next.rest.now attributes (c.loop-next.invariant attributes l) (sym c.in_default.ensures.value)
