use Rattle.px_runs.proofs.packets.report_refusal.Goals as goal

pub returns-in-Content-clause-reported : goal.returns-in-Content-clause-reported
returns-in-Content-clause-reported g c = rw c.in-Content.is c.report_content.ensures.reported

pub returns-in-OutOfMemory-clause-reported : goal.returns-in-OutOfMemory-clause-reported
returns-in-OutOfMemory-clause-reported g c = rw c.in-OutOfMemory.is c.report_fault.ensures.reported
