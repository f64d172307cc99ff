use Rattle.std.proofs.Common.{◌∙◌, [], refl, arith}
use Rattle.std.proofs.lemmas.Result.{err_from_is_err_and}
use Rattle.std.proofs.lemmas.Option.{slice_get-get_or}
use Rattle.px_bytes.specs.lemmas.WaitingLaws.{owed_more, owed_stop}
use Rattle.px_text.specs.Captions.{escaped_byte}
use Rattle.px_text.proofs.Chains.{all_put, can_fail, failures_suc, none_yet}
use Rattle.px_text.proofs.caption_lines.put_escaped.Goals as goal

pub returns-in_err-put_byte : goal.returns-in_err-put_byte
returns-in_err-put_byte g c =
    let p = err_from_is_err_and c.from_residual.result c.from_residual.ensures.1 in
    rw p.1 (
      owed_stop escaped_byte c.args.bytes.now c.loop-i.i _ (slice_get-get_or c.args.bytes.now c.loop-i.i 0 c.loop-i-test.true)
          _ _ _ c.args.pending.now c.loop-i.pending c.loop-i.invariant.owes c.in_err-put_byte.ensures.0,
      failures_suc _ _ _ c.loop-i.invariant.count c.in_err-put_byte.ensures.1,
    )

pub loop-i-preserved : goal.loop-i-preserved
loop-i-preserved g c = record {
  owes = owed_more escaped_byte c.args.bytes.now c.loop-i.i _ (slice_get-get_or c.args.bytes.now c.loop-i.i 0 c.loop-i-test.true)
      _ _ _ c.args.pending.now c.loop-i.pending c.put_byte.new.pending c.loop-i.invariant.owes c.in_ok-put_byte.ensures.0;
  count = c.in_ok-put_byte.ensures.1 ∙ c.loop-i.invariant.count;
}

pub put_byte-requires : goal.put_byte-requires
put_byte-requires g c = can_fail _ _ c.loop-i.invariant.count c.requires

pub returns : goal.returns
returns g c = (
  all_put escaped_byte c.args.bytes.now c.loop-i.i (omega arith) _ _ c.args.pending.now c.loop-i.pending
      c.loop-i.invariant.owes,
  c.loop-i.invariant.count,
)

pub loop-i-init : goal.loop-i-init
loop-i-init g c = record { owes = none_yet _ c.args.pending.now [] refl; count = refl }
