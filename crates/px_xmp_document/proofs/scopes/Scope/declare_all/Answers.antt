use Rattle.std.proofs.Common.{sym}
use Rattle.px_xmp_marks.specs.Reading.{next_view}
use Rattle.px_xmp_document.proofs.ScopeLaws.{next_left, wrong_left, none_left}
use Rattle.px_xmp_document.proofs.scopes.Scope.declare_all.Goals as goal

pub returns-in-Some-declare_by : goal.returns-in-Some-declare_by
returns-in-Some-declare_by c attributes l =
    wrong_left c.attributes_in_order.ensures c.loop-next.rest.now c.loop-next.self c.args.self.now attributes (next_view c.in-Some.next)
    c.in-Some-declare_by.cause (c.loop-next.invariant attributes l) (sym c.in-Some.ensures.value) c.in-Some-declare_by.ensures

pub loop-next-preserved : goal.loop-next-preserved
loop-next-preserved c attributes l =
    next_left c.attributes_in_order.ensures c.loop-next.rest.now c.loop-next.self c.declare_by.new.self c.args.self.now attributes
    (next_view c.in-Some.next) (c.loop-next.invariant attributes l) (sym c.in-Some.ensures.value) c.in_default-declare_by.ensures

pub returns : goal.returns
returns c attributes l =
    none_left c.attributes_in_order.ensures c.loop-next.rest.now c.loop-next.self c.args.self.now attributes
    (c.loop-next.invariant attributes l) (sym c.in_default.ensures.value)
