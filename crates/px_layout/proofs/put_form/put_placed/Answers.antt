use Rattle.std.proofs.Common.{ap, rules}
use Rattle.px_layout.specs.calls.Forms.{plan_in}
use Rattle.px_layout.specs.calls.Items.{item_of, entry_of}
use Rattle.px_layout.specs.lemmas.PutLaws.{puts_as}
use Rattle.px_layout.proofs.writing.FieldBytes.{placed_field}
use Rattle.px_layout.proofs.put_form.put_placed.Goals as goal

pub returns-in-Field : goal.returns-in-Field
returns-in-Field g c = (
  puts_as g.W.Sink.bytes_taken c.put_placed_field.result _ _ c.args.pending.now c.put_placed_field.new.pending _ _
      (placed_field (plan_in c.args.form.now) (entry_of c.args.entry.now) c.in-Field.value.now (ap item_of c.in-Field.is))
      c.put_placed_field.ensures.0,
  search rules,
)
