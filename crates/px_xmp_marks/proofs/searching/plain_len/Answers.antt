use Rattle.std.proofs.Common.{length, arith}
use Rattle.px_xmp_marks.proofs.PlainLaws.{special_nowhere, plain_to, plain_all}
use Rattle.px_xmp_marks.proofs.searching.plain_len.Goals as goal

pub returns-then-octets-n-eq60-clause-len : goal.returns-then-octets-n-eq60-clause-len
returns-then-octets-n-eq60-clause-len c =
    let f = c.in-Some.ensures in plain_to c.in-Some.n c.args.octets.now f.0.high f.0.before c.if-octets-n-eq60.true

pub returns-then-octets-n-eq60-clause-plain : goal.returns-then-octets-n-eq60-clause-plain
returns-then-octets-n-eq60-clause-plain c =
    let f = c.in-Some.ensures in special_nowhere c.in-Some.n c.args.octets.now (omega (arith, f.0.high)) f.0.before

pub returns-in-None-clause-len : goal.returns-in-None-clause-len
returns-in-None-clause-len c = plain_all c.args.octets.now c.in-None.ensures

pub returns-in-None-clause-plain : goal.returns-in-None-clause-plain
returns-in-None-clause-plain c = special_nowhere (length c.args.octets.now) c.args.octets.now (omega arith) c.in-None.ensures
