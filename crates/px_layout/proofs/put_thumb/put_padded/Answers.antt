use Rattle.std.proofs.Common.{subst, sym, ◌%◌, length, replicate}
use Rattle.px_bytes.specs.lemmas.WaitingLaws.{fails_first, puts_to_both}
use Rattle.std.proofs.lemmas.Result.{err_from_is_err_and}
use Rattle.px_bytes.specs.Devices.{Calls, CanCountFailure, Counts}
use Rattle.px_layout.proofs.put_thumb.put_padded.Goals as goal

pub returns : goal.returns
returns g c = (
  puts_to_both g.W.Sink.bytes_taken c.put_padding.result _ _ _ c.args.pending.now c.put.new.self c.put_padding.new.pending
      c.args.bytes.now (replicate (length c.args.bytes.now % 2) 0)
      (c.in_ok-put.ensures.bytes, c.in_ok-put.ensures.waits) c.put_padding.ensures.0,
  subst (λ (n : Calls). Counts c.put_padding.result n (g.W.Device.calls c.put_padding.new.writer)) c.in_ok-put.ensures.count
      c.put_padding.ensures.1,
)

pub returns-in_err-put : goal.returns-in_err-put
returns-in_err-put g c =
    let p = err_from_is_err_and c.from_residual.result c.from_residual.ensures.1 in
    rw p.1 (
      fails_first g.W.Sink.bytes_taken _ _ c.args.pending.now c.args.bytes.now (replicate (length c.args.bytes.now % 2) 0)
          (c.in_err-put.ensures.bytes, c.in_err-put.ensures.waits),
      c.in_err-put.ensures.count,
    )

pub put_padding-requires : goal.put_padding-requires
put_padding-requires g c = subst CanCountFailure (sym c.in_ok-put.ensures.count) c.requires
