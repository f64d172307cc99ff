use Rattle.std.proofs.Common.{◌∙◌, sym}
use Rattle.px_field.specs.lemmas.ValueLaws.{whole_times}
use Rattle.px_tree.proofs.reading.Raw.{whole_claimed, whole_form, widened_other}
use Rattle.px_tree.proofs.field_reading.widened_at.Goals as goal

pub read_whole-requires-clause-whole : goal.read_whole-requires-clause-whole
read_whole-requires-clause-whole c = whole_times c.args.form c.args.head.count c.raw_of.result.now c.raw_of.ensures.size

pub read_whole-requires-clause-width : goal.read_whole-requires-clause-width
read_whole-requires-clause-width c = whole_form c.args.form (sym c.is_whole_form.ensures ∙ c.if-is_whole_form.true)

pub returns-then-is_whole_form : goal.returns-then-is_whole_form
returns-then-is_whole_form c = c.read_whole.ensures
    ∙ whole_claimed c.args.block.now c.args.order c.args.at c.args.head c.args.form c.requires c.raw_of.result.now c.raw_of.ensures.bytes
    c.raw_of.ensures.size (sym c.is_whole_form.ensures ∙ c.if-is_whole_form.true)

pub returns : goal.returns
returns c = c.value_at.ensures ∙ sym (widened_other c.args.form _ (sym c.is_whole_form.ensures ∙ c.if-is_whole_form.false))
