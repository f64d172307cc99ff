use Rattle.std.proofs.Common.{ap}
use Rattle.px_engine.specs.Prints.{listing}
use Rattle.px_runs.proofs.TextLaws.{counts_writes_space}
use Rattle.px_runs.proofs.PacketLaws.{file_last, prints_file}
use Rattle.px_runs.proofs.job.show_file.Goals as goal

pub returns-clause-ends : goal.returns-clause-ends
returns-clause-ends g c = prints_file listing c.show_file_in-printed.result c.args.file.now c.report_file.result c.args.memory.now
    c.show_file_in-printed.new.memory c.report_file.new.memory (g.L.Device.calls c.args.lines.now) (g.L.Device.calls c.show_file_in-printed.new.writer) (g.L.Device.calls c.report_file.new.lines)
    (g.L.Sink.bytes_taken c.args.lines.now) (g.L.Sink.bytes_taken c.show_file_in-printed.new.writer)
    (g.L.Sink.bytes_taken c.report_file.new.lines) c.requires.few c.show_file_in-printed.ensures.done c.show_file_in-printed.ensures.reads
    c.show_file_in-printed.ensures.writes c.show_file_in-printed.ensures.memory c.show_file_in-printed.ensures.asked c.report_file.ensures.reported

pub report_file-requires : goal.report_file-requires
report_file-requires g c =
    counts_writes_space c.show_file_in-printed.result (g.L.Device.calls c.args.lines.now) (g.L.Device.calls c.show_file_in-printed.new.writer)
    c.show_file_in-printed.ensures.writes c.requires.reporting

pub returns-clause-last : goal.returns-clause-last
returns-clause-last g c =
    file_last c.show_file_in-printed.result c.args.file.now c.report_file.result
    c.show_file_in-printed.new.memory c.report_file.new.memory _ (g.L.Device.calls c.show_file_in-printed.new.writer) _ _ _
    (g.L.Sink.unflushed c.show_file_in-printed.new.writer) _ c.show_file_in-printed.ensures.writes c.show_file_in-printed.ensures.flushed
    (λ s. ap g.L.Sink.unflushed (c.report_file.ensures.still s)) c.report_file.ensures.last c.report_file.ensures.reported
