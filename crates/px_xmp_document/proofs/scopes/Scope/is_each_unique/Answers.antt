use Rattle.std.proofs.Common.{map, sym, ◌∙◌}
use Rattle.px_xmp_marks.specs.Reading.{attribute_view}
use Rattle.px_xmp_document.proofs.LocalNameLaws.{unique_by_locals}
use Rattle.px_xmp_document.proofs.scopes.Scope.is_each_unique.Goals as goal

pub returns-then-are_locals_distinct : goal.returns-then-are_locals_distinct
returns-then-are_locals_distinct c =
    sym (unique_by_locals c.args.self.now (map attribute_view c.args.attributes.now)
    (sym c.are_locals_distinct.ensures ∙ c.if-are_locals_distinct.true))
