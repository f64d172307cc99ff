use Rattle.std.proofs.Common.{◌∙◌}
use Rattle.px_field.specs.lemmas.ValueLaws.{whole_times}
use Rattle.px_tree.proofs.reading.Raw.{value_claimed}
use Rattle.px_tree.proofs.entry_values.value_at.Goals as goal

pub read_value-requires-clause-whole : goal.read_value-requires-clause-whole
read_value-requires-clause-whole c = whole_times c.args.form c.args.head.count c.raw_of.result.now c.raw_of.ensures.size

pub returns : goal.returns
returns c =
    c.read_value.ensures.value ∙ value_claimed c.args.block.now c.args.order c.args.at c.args.head c.args.form c.requires c.raw_of.result.now
    c.raw_of.ensures.bytes c.raw_of.ensures.size
