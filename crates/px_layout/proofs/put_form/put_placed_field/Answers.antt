use Rattle.std.proofs.Common.{◌∙◌, [], sym, ltb-true, ltb-false, rules}
use Rattle.px_bytes.specs.declared.Order.TheVariants.{Most}
use Rattle.px_bytes.specs.lemmas.WaitingLaws.{put_none}
use Rattle.px_layout.specs.calls.Given.{field_bytes}
use Rattle.px_layout.specs.lemmas.PutLaws.{puts_as, has_as}
use Rattle.px_layout.proofs.writing.FieldBytes.{field_size, field_eight, field_placed, field_inside}
use Rattle.px_layout.proofs.put_form.put_placed_field.Goals as goal

pub put_eight-requires-clause-encoded : goal.put_eight-requires-clause-encoded
put_eight-requires-clause-encoded g c = sym (c.size-size.ensures.encoded Most) ∙ c.if-size-eq8.true

pub returns-then-size-eq8 : goal.returns-then-size-eq8
returns-then-size-eq8 g c =
    let v = c.args.value.now in
    let n = c.size-size.result in (
      puts_as g.W.Sink.bytes_taken c.put_eight.result _ _ c.args.pending.now c.put_eight.new.pending _ _
          (field_eight v n (field_size v n c.size-size.ensures.elements) (c.size-size.ensures.encoded Most) c.if-size-eq8.true)
          c.put_eight.ensures.0,
      search rules,
    )

pub returns-then-needs_place : goal.returns-then-needs_place
returns-then-needs_place g c =
    let v = c.args.value.now in
    let n = c.size-size.result in (
      puts_as g.W.Sink.bytes_taken c.put_padded_field.result _ _ c.args.pending.now c.put_padded_field.new.pending _ _
          (field_placed v n (field_size v n c.size-size.ensures.elements)
          (ltb-true 4 n (sym c.needs_place.ensures ∙ c.if-needs_place.true)))
          c.put_padded_field.ensures.0,
      search rules,
    )

pub returns : goal.returns
returns g c =
    let v = c.args.value.now in
    let n = c.size-size.result in (
      has_as g.W.Sink.bytes_taken c.args.writer.now c.args.writer.now c.args.pending.now c.args.pending.now [] (field_bytes v)
          (field_inside v n (field_size v n c.size-size.ensures.elements)
          (ltb-false 4 n (sym c.needs_place.ensures ∙ c.if-needs_place.false)))
          (put_none g.W.Sink.bytes_taken c.args.writer.now c.args.pending.now),
      search rules,
    )
