use Rattle.std.proofs.Common.{◌≡◌, true, false, sym, ◌∙◌}
use Rattle.px_xmp_marks.specs.Reading.{name_view, next_view}
use Rattle.px_xmp_markup.proofs.AttributeLaws.{next_name, this_name, no_name}
use Rattle.px_xmp_markup.proofs.attributes.has_name.Goals as goal

pub returns-then-is_same-clause-among : goal.returns-then-is_same-clause-among
returns-then-is_same-clause-among c attributes l t =
    this_name (name_view c.args.name) c.loop-next.rest.now attributes (next_view c.in-Some.next) (c.loop-next.invariant attributes l)
    (sym c.in-Some.ensures.value) (c.is_same.ensures.same.0 c.if-is_same.true)

pub loop-next-preserved : goal.loop-next-preserved
loop-next-preserved c attributes l =
    next_name (name_view c.args.name) c.loop-next.rest.now attributes (next_view c.in-Some.next) (c.loop-next.invariant attributes l)
    (sym c.in-Some.ensures.value) (λ e. let g : true ≡ false = sym (c.is_same.ensures.same.1 e) ∙ c.if-is_same.false in absurd (cc))

pub returns-clause-none : goal.returns-clause-none
returns-clause-none c attributes l t =
    no_name (name_view c.args.name) c.loop-next.rest.now attributes (c.loop-next.invariant attributes l) (sym c.in_default.ensures.value)
