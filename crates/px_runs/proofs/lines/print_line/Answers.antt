use Rattle.std.proofs.Common.{◌++◌, None, inl}
use Rattle.px_runs.specs.Lines.{end_of}
use Rattle.px_runs.proofs.LineLaws.{failed_last, flushes_reports, last_after}
use Rattle.px_runs.proofs.lines.print_line.Goals as goal

pub returns-in-Ok-clause-reported : goal.returns-in-Ok-clause-reported
returns-in-Ok-clause-reported g c = flushes_reports c.args.expected (c.args.text.now ++ end_of None) c.flushed.result
    (g.L.Device.calls c.args.lines.now) (g.L.Device.calls c.write_ended.new.lines) (g.L.Device.calls c.flushed.new.lines)
    (g.L.Sink.bytes_taken c.args.lines.now) (g.L.Sink.bytes_taken c.write_ended.new.lines) (g.L.Sink.bytes_taken c.flushed.new.lines)
    c.in-Ok.ensures.1 (rw c.as_bytes.ensures.value at c.in-Ok.ensures.0) c.flushed.ensures.reported

pub returns-in-Ok-clause-last : goal.returns-in-Ok-clause-last
returns-in-Ok-clause-last g c = last_after _ (g.L.Device.calls c.write_ended.new.lines) _ _ c.in-Ok.ensures.1 c.flushed.ensures.last

pub returns-in-Err-clause-last : goal.returns-in-Err-clause-last
returns-in-Err-clause-last g c = failed_last _ _ _ (inl c.in-Err.ensures.1)
