use Rattle.px_engine.specs.Prints.{caption_text}
use Rattle.px_engine.specs.Input.{most_read}
use Rattle.px_bytes.specs.Devices.{device_of}
use Rattle.px_runs.proofs.PacketLaws.{file_shown, read_few, unread_shown}
use Rattle.px_runs.proofs.job.run_captions.Goals as goal

pub returns-in-Ok-clause-ends : goal.returns-in-Ok-clause-ends
returns-in-Ok-clause-ends g c = file_shown caption_text
    (device_of g.R.Device.calls g.R.Source.bytes_left c.args.reader.now c.read_all_in.new.reader)
    (device_of g.L.Device.calls g.L.Sink.bytes_taken c.args.lines.now c.captions_file.new.lines) c.args.memory.now c.read_all_in.new.memory
    c.captions_file.new.memory c.captions_file.result c.in-Ok.file.items
    c.in-Ok.ensures.found c.in-Ok.ensures.lost c.in-Ok.ensures.count c.in-Ok.ensures.memory c.in-Ok.ensures.asked
    (rw c.as_slice.ensures.value at c.captions_file.ensures.ends)

pub captions_file-requires-clause-few : goal.captions_file-requires-clause-few
captions_file-requires-clause-few g c = rw c.as_slice.ensures.value (read_few _ _ most_read c.in-Ok.file.items c.in-Ok.ensures.found)

pub returns-in-Err-clause-ends : goal.returns-in-Err-clause-ends
returns-in-Err-clause-ends g c = unread_shown caption_text c.in-Err.fault
    (device_of g.R.Device.calls g.R.Source.bytes_left c.args.reader.now c.read_all_in.new.reader)
    (device_of g.L.Device.calls g.L.Sink.bytes_taken c.args.lines.now c.report_fault.new.lines) c.args.memory.now c.read_all_in.new.memory
    c.report_fault.result c.in-Err.ensures.fault
    c.in-Err.ensures.lost c.in-Err.ensures.count c.in-Err.ensures.memory c.in-Err.ensures.asked c.report_fault.ensures.reported
