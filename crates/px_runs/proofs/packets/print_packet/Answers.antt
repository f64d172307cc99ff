use Rattle.px_bytes.specs.Devices.{device_of}
use Rattle.px_runs.proofs.PacketLaws.{prints_packet}
use Rattle.px_runs.proofs.packets.print_packet.Goals as goal

pub returns-clause-reported : goal.returns-clause-reported
returns-clause-reported g c = prints_packet _ c.packet_text.result c.args.file.now
    (device_of g.L.Device.calls g.L.Sink.bytes_taken c.args.lines.now c.report_packet.new.lines) c.args.memory.now
    c.packet_text.new.memory c.report_packet.result c.packet_text.ensures.packet c.packet_text.ensures.printed
    c.packet_text.ensures.layer c.packet_text.ensures.refused c.packet_text.ensures.accepts c.packet_text.ensures.memory
    c.report_packet.ensures.reported
