use Rattle.std.proofs.Common.{inl}
use Rattle.px_runs.specs.Lines.{line_of, status_of}
use Rattle.px_runs.proofs.LineLaws.{failed_last, flushes_reports, last_after}
use Rattle.px_runs.proofs.lines.report_fault.Goals as goal

pub returns-in-Ok-clause-reported : goal.returns-in-Ok-clause-reported
returns-in-Ok-clause-reported g c = flushes_reports (status_of c.args.fault) (line_of c.args.fault c.args.file) c.flushed.result
    (g.L.Device.calls c.args.lines.now) (g.L.Device.calls c.write_line.new.lines) (g.L.Device.calls c.flushed.new.lines)
    (g.L.Sink.bytes_taken c.args.lines.now) (g.L.Sink.bytes_taken c.write_line.new.lines) (g.L.Sink.bytes_taken c.flushed.new.lines)
    c.in-Ok.ensures.1 c.in-Ok.ensures.0 (rw c.status.ensures at c.flushed.ensures.reported)

pub returns-in-Ok-clause-last : goal.returns-in-Ok-clause-last
returns-in-Ok-clause-last g c = last_after _ (g.L.Device.calls c.write_line.new.lines) _ _ c.in-Ok.ensures.1 c.flushed.ensures.last

pub returns-in-Err-clause-last : goal.returns-in-Err-clause-last
returns-in-Err-clause-last g c = failed_last _ _ _ (inl c.in-Err.ensures.1)
