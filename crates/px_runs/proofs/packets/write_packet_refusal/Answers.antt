use Rattle.std.proofs.Common.{rules}
use Rattle.std.proofs.lemmas.Result.{err_from_is_err_and}
use Rattle.px_bytes.specs.Devices.{AppendsPrefix}
use Rattle.px_bytes.specs.lemmas.WaitingLaws.{from_none, owes_written}
use Rattle.px_runs.specs.Packets.{packet_line}
use Rattle.px_runs.proofs.packets.write_packet_refusal.Goals as goal

pub returns-in_err-put_packet_refusal : goal.returns-in_err-put_packet_refusal
returns-in_err-put_packet_refusal g c =
    let p = err_from_is_err_and c.from_residual.result c.from_residual.ensures.1 in
    rw p.1 (
      from_none (AppendsPrefix (g.L.Sink.bytes_taken c.args.lines.now) _) _ (packet_line c.args.cause c.args.place) c.new-pending.ensures.none
          c.in_err-put_packet_refusal.ensures.0,
      search rules,
    )

pub returns : goal.returns
returns g c = (
  owes_written c.send.result _ _ _ c.new-pending.result _ (packet_line c.args.cause c.args.place) c.new-pending.ensures.none
      c.in_ok-put_packet_refusal.ensures.0
      c.send.ensures.bytes,
  search rules,
)
