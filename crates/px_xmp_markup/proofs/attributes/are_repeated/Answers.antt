use Rattle.std.proofs.Common.{map, sym, ◌∙◌}
use Rattle.px_xmp_marks.specs.Reading.{attribute_view}
use Rattle.px_xmp_markup.proofs.NameLaws.{twice_from, once_from, once_by_locals}
use Rattle.px_xmp_markup.proofs.attributes.are_repeated.Goals as goal

pub returns-then-are_locals_distinct-clause-distinct : goal.returns-then-are_locals_distinct-clause-distinct
returns-then-are_locals_distinct-clause-distinct c f =
    once_by_locals (map attribute_view c.args.attributes.now) (sym c.are_locals_distinct.ensures ∙ c.if-are_locals_distinct.true)

pub returns-clause-repeated : goal.returns-clause-repeated
returns-clause-repeated c t = twice_from (map attribute_view c.args.attributes.now) (sym c.have_repeated.ensures ∙ t)

pub returns-clause-distinct : goal.returns-clause-distinct
returns-clause-distinct c f = once_from (map attribute_view c.args.attributes.now) (sym c.have_repeated.ensures ∙ f)
