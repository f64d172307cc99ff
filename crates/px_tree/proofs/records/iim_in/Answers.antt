use Rattle.std.proofs.Common.{sym}
use Rattle.px_tree.proofs.faulting.Answered.{faulty_means_none}
use Rattle.px_tree.proofs.records.iim_in.Goals as goal

pub returns-in-Err-Content-clause-ok : goal.returns-in-Err-Content-clause-ok
returns-in-Err-Content-clause-ok c =
    sym (faulty_means_none c.args.raw.now c.in-Err-Content.field-0-0 c.in-Err-Content.field-0-1
    (rw c.in-Err-Content.field-0-is at c.in-Err-Content.ensures.judged))
