use Rattle.px_runs.proofs.packets.report_packet.Goals as goal

pub returns-in-Ok-clause-reported : goal.returns-in-Ok-clause-reported
returns-in-Ok-clause-reported g c = rw c.in-Ok.is (rw c.as_slice.ensures.value at c.print_bytes.ensures.reported)

pub returns-in-Err-clause-reported : goal.returns-in-Err-clause-reported
returns-in-Err-clause-reported g c = rw c.in-Err.is c.report_refusal.ensures.reported
