use Rattle.std.proofs.Common.{rules}
use Rattle.px_bytes.specs.declared.Order.TheVariants.{Most}
use Rattle.px_layout.specs.lemmas.PutLaws.{both_as}
use Rattle.px_layout.proofs.writing.FieldBytes.{field_padded}
use Rattle.px_layout.proofs.put_form.put_padded_field.Goals as goal

pub returns : goal.returns
returns g c = (
  both_as g.W.Sink.bytes_taken c.put_padding.result _ _ _ c.args.pending.now c.put_value.new.pending c.put_padding.new.pending _ _ _
      (field_padded c.args.value.now c.size.result (c.size.ensures.encoded Most))
      (c.in_ok-put_value.ensures.0) c.put_padding.ensures.0,
  search rules,
)
