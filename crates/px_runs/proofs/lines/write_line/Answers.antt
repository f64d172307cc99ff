use Rattle.std.proofs.Common.{rules}
use Rattle.std.proofs.lemmas.Result.{err_from_is_err_and}
use Rattle.px_bytes.specs.Devices.{AppendsPrefix}
use Rattle.px_bytes.specs.lemmas.WaitingLaws.{from_none, owes_written}
use Rattle.px_runs.specs.Lines.{line_of}
use Rattle.px_runs.proofs.lines.write_line.Goals as goal

pub returns-in_err-put_line : goal.returns-in_err-put_line
returns-in_err-put_line g c =
    let p = err_from_is_err_and c.from_residual.result c.from_residual.ensures.1 in
    rw p.1 (
      from_none (AppendsPrefix (g.L.Sink.bytes_taken c.args.lines.now) _) _ (line_of c.args.fault c.args.file) c.new-pending.ensures.none
          c.in_err-put_line.ensures.0,
      search rules,
    )

pub returns : goal.returns
returns g c = (
  owes_written c.send.result _ _ _ c.new-pending.result _ (line_of c.args.fault c.args.file) c.new-pending.ensures.none
      c.in_ok-put_line.ensures.0
      c.send.ensures.bytes,
  search rules,
)
