use Rattle.std.proofs.Common.{sym}
use Rattle.px_xmp_marks.proofs.SearchLaws.{run_all, run_to}
use Rattle.px_xmp_marks.proofs.searching.len_before.Goals as goal

pub returns-in-Some-clause-value : goal.returns-in-Some-clause-value
returns-in-Some-clause-value c =
    let f = c.in-Some.ensures in sym (run_to c.args.mark c.in-Some.n c.args.octets.now f.0.high f.0.before f.1)

pub returns-in-None-clause-value : goal.returns-in-None-clause-value
returns-in-None-clause-value c = sym (run_all c.args.mark c.args.octets.now c.in-None.ensures)
