use Rattle.px_runs.proofs.packets.is_other.Goals as goal

pub returns-in-Err : goal.returns-in-Err
returns-in-Err c = rw c.in-Err.is c.is_other_fault.ensures
