use Rattle.std.proofs.Common.{◌∙◌, ℕ, [], refl, arith}
use Rattle.std.proofs.lemmas.Result.{err_from_is_err_and}
use Rattle.px_bytes.specs.lemmas.WaitingLaws.{owed_more, owed_stop}
use Rattle.px_field.specs.Values.{Value}
use Rattle.px_text.specs.Listing.{field_line}
use Rattle.px_text.proofs.Chains.{all_put, can_fail, failures_suc, none_yet}
use Rattle.px_text.proofs.field_lines.put_fields.Goals as goal

pub returns-in_err-put_field : goal.returns-in_err-put_field
returns-in_err-put_field g c =
    let p = err_from_is_err_and c.from_residual.result c.from_residual.ensures.1 in
    rw p.1 (
      owed_stop {X = ℕ × Value} field_line c.args.fields.now c.loop-i.i (c.at-tag.result.0, c.at-tag.result.1.now) c.at-tag.ensures
          _ _ _ c.args.pending.now c.loop-i.pending c.loop-i.invariant.owes c.in_err-put_field.ensures.0,
      failures_suc _ _ _ c.loop-i.invariant.count c.in_err-put_field.ensures.1,
    )

pub loop-i-preserved : goal.loop-i-preserved
loop-i-preserved g c = record {
  owes = owed_more {X = ℕ × Value} field_line c.args.fields.now c.loop-i.i (c.at-tag.result.0, c.at-tag.result.1.now) c.at-tag.ensures
      _ _ _ c.args.pending.now c.loop-i.pending c.put_field.new.pending c.loop-i.invariant.owes c.in_ok-put_field.ensures.0;
  count = c.in_ok-put_field.ensures.1 ∙ c.loop-i.invariant.count;
}

pub put_field-requires : goal.put_field-requires
put_field-requires g c = can_fail _ _ c.loop-i.invariant.count c.requires

pub returns : goal.returns
returns g c = (
  all_put {X = ℕ × Value} field_line c.args.fields.now c.loop-i.i (omega arith) _ _ c.args.pending.now c.loop-i.pending
      c.loop-i.invariant.owes,
  c.loop-i.invariant.count,
)

pub loop-i-init : goal.loop-i-init
loop-i-init g c = record { owes = none_yet _ c.args.pending.now [] refl; count = refl }
