use Rattle.std.proofs.Common.{sym, ap, ◌∙◌}
use Rattle.px_field.specs.declared.Kind.TheVariants as kind
use Rattle.px_meaning.proofs.tables.StripLengths.{named_longs}
use Rattle.px_meaning.proofs.strip_lists.long_sizes.Goals as goal

pub returns-in-Of-Long : goal.returns-in-Of-Long
returns-in-Of-Long c =
    named_longs c.args.lists.now c.requires (sym c.kind.ensures.kind ∙ c.in-Of-Long.is ∙ ap kind.Of c.in-Of-Long.field-0-is)
    c.kind.ensures.ranges
