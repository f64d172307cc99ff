use Rattle.std.proofs.Common.{◌∙◌, inl, inr, refl, sym}
use Rattle.px_runs.proofs.PacketLaws.{other_space, packet_not_idle}
use Rattle.px_runs.proofs.packets.report_file.Goals as goal

pub print_packet-requires : goal.print_packet-requires
print_packet-requires g c = other_space c.args.printed c.args.file.now (g.L.Device.calls c.args.lines.now)
    (sym c.is_other.ensures ∙ c.if-is_other.true) c.requires

pub returns-then-is_other-clause-reported : goal.returns-then-is_other-clause-reported
returns-then-is_other-clause-reported g c = inr (sym c.is_other.ensures ∙ c.if-is_other.true, c.print_packet.ensures.reported)

pub returns-then-is_other-clause-still : goal.returns-then-is_other-clause-still
returns-then-is_other-clause-still g c = λ e. absurd (packet_not_idle c.args.file.now (g.L.Device.calls c.args.lines.now)
    (g.L.Device.calls c.print_packet.new.lines) (g.L.Sink.bytes_taken c.args.lines.now) (g.L.Sink.bytes_taken c.print_packet.new.lines)
    c.args.memory.now c.print_packet.new.memory c.print_packet.result c.print_packet.ensures.reported e)

pub returns-clause-reported : goal.returns-clause-reported
returns-clause-reported g c = inl (sym c.is_other.ensures ∙ c.if-is_other.false, refl, c.report_printed.ensures.reported)
