use Rattle.std.proofs.Common.{◌≡◌, Bool, true, false, ◌&&◌, sym, ap, ◌∙◌}
use Rattle.px_xmp_marks.specs.Reading.{name_view, next_view}
use Rattle.px_xmp_document.specs.Tags.{is_attribute_bound, are_bound}
use Rattle.px_xmp_document.proofs.ScopeLaws.{next_test, this_test, none_test}
use Rattle.px_xmp_document.proofs.scopes.Scope.are_bound.Goals as goal

pub returns-then-not-is_attribute_bound : goal.returns-then-not-is_attribute_bound
returns-then-not-is_attribute_bound c attributes l =
    let s = c.args.self.now in
    let e : is_attribute_bound s (name_view c.in-Some.next.attribute.name) ≡ false = sym c.is_attribute_bound.ensures ∙ c.if-not-is_attribute_bound.true in
    sym (this_test c.attributes_in_order.ensures (are_bound s) false c.loop-next.rest.now attributes (next_view c.in-Some.next)
    (c.loop-next.invariant attributes l) (sym c.in-Some.ensures.value) (λ more listed. ap (λ (b : Bool). b && are_bound s more) e))

pub loop-next-preserved : goal.loop-next-preserved
loop-next-preserved c attributes l =
    let s = c.args.self.now in
    let e : is_attribute_bound s (name_view c.in-Some.next.attribute.name) ≡ true = sym c.is_attribute_bound.ensures ∙ c.if-not-is_attribute_bound.false in
    next_test c.attributes_in_order.ensures (are_bound s) c.loop-next.rest.now attributes (next_view c.in-Some.next)
    (c.loop-next.invariant attributes l) (sym c.in-Some.ensures.value) (λ more listed. ap (λ (b : Bool). b && are_bound s more) e)

pub returns : goal.returns
returns c attributes l =
    sym (none_test c.attributes_in_order.ensures (are_bound c.args.self.now) c.loop-next.rest.now attributes
    (c.loop-next.invariant attributes l) (sym c.in_default.ensures.value))
