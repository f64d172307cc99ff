use Rattle.std.proofs.Common.{rules}
use Rattle.std.proofs.Common.{◌++◌}
use Rattle.std.proofs.lemmas.Result.{err_from_is_err_and}
use Rattle.px_bytes.specs.Devices.{AppendsPrefix}
use Rattle.px_bytes.specs.lemmas.WaitingLaws.{from_none, owes_written}
use Rattle.px_runs.specs.Lines.{end_of}
use Rattle.px_runs.proofs.lines.write_ended.Goals as goal

pub returns-in_err-put_ended : goal.returns-in_err-put_ended
returns-in_err-put_ended g c =
    let p = err_from_is_err_and c.from_residual.result c.from_residual.ensures.1 in
    rw p.1 (
      from_none (AppendsPrefix (g.L.Sink.bytes_taken c.args.lines.now) _) _ (c.args.text.now
          ++ end_of c.args.file) c.new-pending.ensures.none c.in_err-put_ended.ensures.0,
      search rules,
    )

pub returns : goal.returns
returns g c = (
  owes_written c.send.result _ _ _ c.new-pending.result _ (c.args.text.now ++ end_of c.args.file) c.new-pending.ensures.none
      c.in_ok-put_ended.ensures.0 c.send.ensures.bytes,
  search rules,
)
