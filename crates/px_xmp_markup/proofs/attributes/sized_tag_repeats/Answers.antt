use Rattle.std.proofs.Common.{List, map, sym, ap, ◌∙◌}
use Rattle.px_xmp_marks.specs.Reading.{name_view}
use Rattle.px_xmp_marks.specs.declared.names.Name.{Name}
use Rattle.px_xmp_markup.specs.calls.Names.{has_twice}
use Rattle.px_xmp_markup.proofs.NameLaws.{twice_from, once_from}
use Rattle.px_xmp_markup.proofs.attributes.sized_tag_repeats.Goals as goal

pub returns-in-Some-clause-repeated : goal.returns-in-Some-clause-repeated
returns-in-Some-clause-repeated c attributes l t =
    twice_from attributes (ap has_twice (sym (c.in-Some.ensures.names attributes l))
    ∙ ap (λ (z : List Name). has_twice (map name_view z)) (sym c.split_at.ensures.front) ∙ sym c.has_twice.ensures ∙ t)

pub returns-in-Some-clause-distinct : goal.returns-in-Some-clause-distinct
returns-in-Some-clause-distinct c attributes l f =
    once_from attributes (ap has_twice (sym (c.in-Some.ensures.names attributes l))
    ∙ ap (λ (z : List Name). has_twice (map name_view z)) (sym c.split_at.ensures.front) ∙ sym c.has_twice.ensures ∙ f)
