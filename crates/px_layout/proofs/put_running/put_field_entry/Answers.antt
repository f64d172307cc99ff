use Rattle.std.proofs.Common.{◌∙◌, sym, ltb-true, ltb-false, arith, rules}
use Rattle.px_bytes.specs.declared.Order.TheVariants.{Most}
use Rattle.px_layout.specs.lemmas.PutLaws.{puts_as}
use Rattle.px_layout.proofs.writing.FieldBytes.{field_size, field_far, field_near}
use Rattle.px_layout.proofs.put_running.put_field_entry.Goals as goal

pub returns-then-needs_place : goal.returns-then-needs_place
returns-then-needs_place g c =
    let v = c.args.value.now in
    let n = c.size.result in (
      puts_as g.W.Sink.bytes_taken c.put.result _ _ c.args.pending.now c.put.new.self _ _
          (c.field_to.ensures ∙ field_far c.args.at c.args.tag n v (field_size v n c.size.ensures.elements)
          (ltb-true 4 n (sym c.needs_place.ensures ∙ c.if-needs_place.true))) (c.put.ensures.bytes, c.put.ensures.waits),
      search rules,
    )

pub field_with-requires : goal.field_with-requires
field_with-requires g c =
    let l = ltb-false 4 c.size.result (sym c.needs_place.ensures ∙ c.if-needs_place.false) in
    let s = c.size.ensures.encoded Most in
    omega arith

pub returns : goal.returns
returns g c =
    let v = c.args.value.now in
    let n = c.size.result in (
      puts_as g.W.Sink.bytes_taken c.put-2.result _ _ c.args.pending.now c.put-2.new.self _ _
          (c.field_with.ensures ∙ field_near c.args.at c.args.tag n v (field_size v n c.size.ensures.elements) (c.size.ensures.encoded Most)
          (ltb-false 4 n (sym c.needs_place.ensures ∙ c.if-needs_place.false))) (c.put-2.ensures.bytes, c.put-2.ensures.waits),
      search rules,
    )
