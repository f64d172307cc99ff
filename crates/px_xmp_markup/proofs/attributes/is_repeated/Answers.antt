use Rattle.std.proofs.Common.{option_map, sym, ap, ◌∙◌}
use Rattle.px_xmp_marks.specs.Reading.{start_tag_view}
use Rattle.px_xmp_markup.proofs.AttributeLaws.{tag_distinct, no_tag_distinct, tag_repeated}
use Rattle.px_xmp_markup.proofs.attributes.is_repeated.Goals as goal

pub returns-in-Some-clause-repeated : goal.returns-in-Some-clause-repeated
returns-in-Some-clause-repeated c m rest i w t =
    tag_repeated c.marks_are_read.ensures c.only_start_tags_are_read.ensures c.args.octets.now (start_tag_view c.in-Some.tag)
    (sym c.requires ∙ ap (option_map start_tag_view) c.in-Some.is) (λ attributes l. c.sized_tag_repeats.ensures.repeated attributes l t) m rest i w

pub returns-in-Some-clause-distinct : goal.returns-in-Some-clause-distinct
returns-in-Some-clause-distinct c m rest i w f =
    tag_distinct c.start_tags_are_read.ensures c.args.octets.now (start_tag_view c.in-Some.tag)
    (sym c.requires ∙ ap (option_map start_tag_view) c.in-Some.is)
    (λ attributes l. c.sized_tag_repeats.ensures.distinct attributes l f) m rest w

pub returns-in-None-clause-distinct : goal.returns-in-None-clause-distinct
returns-in-None-clause-distinct c m rest i w f =
    no_tag_distinct c.start_tags_are_read.ensures c.args.octets.now (sym c.requires ∙ ap (option_map start_tag_view) c.in-None.is) m rest w
