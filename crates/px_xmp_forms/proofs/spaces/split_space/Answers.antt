use Rattle.std.proofs.Common.{◌∙◌, ap}
use Rattle.px_xmp_forms.specs.calls.Ends.{before_start}
use Rattle.px_xmp_forms.proofs.EndLaws.{parts_found}
use Rattle.px_xmp_forms.proofs.spaces.split_space.Goals as goal

pub returns-clause-before : goal.returns-clause-before
returns-clause-before c =
    c.split_at-2.ensures.front
    ∙ (parts_found c.args.space.now c.last_part-start.result c.before_name.result
    (c.last_part-start.ensures.name, c.last_part-start.ensures.before) c.last_part-start.ensures.chars
    (c.before_name.ensures.value ∙ ap before_start c.split_at.ensures.back)).0

pub returns-clause-name : goal.returns-clause-name
returns-clause-name c =
    c.split_at-2.ensures.back
    ∙ (parts_found c.args.space.now c.last_part-start.result c.before_name.result
    (c.last_part-start.ensures.name, c.last_part-start.ensures.before) c.last_part-start.ensures.chars
    (c.before_name.ensures.value ∙ ap before_start c.split_at.ensures.back)).1
