use Rattle.std.proofs.Common.{sym, ◌∙◌}
use Rattle.px_xmp_marks.proofs.LocalLaws.{few_distinct}
use Rattle.px_xmp_marks.proofs.locals.are_locals_distinct.Goals as goal

pub returns-then-are_few : goal.returns-then-are_few
returns-then-are_few c = sym (few_distinct c.args.attributes.now (sym c.are_few.ensures ∙ c.if-are_few.true))
