use Rattle.px_xmp_marks.proofs.PlainLaws.{plain_value}
use Rattle.px_xmp_marks.proofs.attributes.plain_value_len.Goals as goal

pub returns-clause-value : goal.returns-clause-value
returns-clause-value c =
    let f = c.in-Some.ensures in
    plain_value c.no_fault_unless_reference.ensures c.args.quote c.in-Some.n c.args.octets.now f.0.high f.0.before c.if-octets-n.false
