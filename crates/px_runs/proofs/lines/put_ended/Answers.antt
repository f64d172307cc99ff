use Rattle.std.proofs.Common.{rules}
use Rattle.std.proofs.lemmas.Result.{err_from_is_err_and}
use Rattle.px_bytes.specs.lemmas.WaitingLaws.{puts_both, puts_first}
use Rattle.px_runs.specs.Lines.{end_of}
use Rattle.px_runs.proofs.lines.put_ended.Goals as goal

pub returns-in_err-put : goal.returns-in_err-put
returns-in_err-put g c =
    let p = err_from_is_err_and c.from_residual.result c.from_residual.ensures.1 in
    rw p.1 (
      puts_first (g.L.Sink.bytes_taken c.args.lines.now) _ c.args.pending.now c.args.text.now (end_of c.args.file)
          c.in_err-put.ensures.bytes,
      search rules,
    )

pub returns : goal.returns
returns g c = (
  puts_both _ _ _ _ c.args.pending.now _ _ c.args.text.now (end_of c.args.file) c.in_ok-put.ensures.bytes
      (rw c.ending.ensures at c.put-2.ensures.bytes),
  search rules,
)
