use Rattle.std.proofs.lemmas.Bool.{ne_eqb}
use Rattle.px_xmp_marks.proofs.PlainLaws.{plain_text}
use Rattle.px_xmp_marks.proofs.marks.plain_text_len.Goals as goal

pub returns-clause-value : goal.returns-clause-value
returns-clause-value c =
    let e = c.in-Some.ensures in
    plain_text c.no_fault_unless_reference.ensures c.in-Some.len c.args.octets.now e.len (ne_eqb c.in-Some.len 0 c.if-len-eq0.false) e.plain
