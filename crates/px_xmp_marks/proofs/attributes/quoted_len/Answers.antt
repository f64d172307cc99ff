use Rattle.std.proofs.Common.{sym, ap, ◌∙◌, Some, arith}
use Rattle.px_xmp_marks.proofs.SearchLaws.{quote_found, open_tag_found, none_found}
use Rattle.px_xmp_marks.proofs.attributes.quoted_len.Goals as goal

pub returns-in_default-clause-value : goal.returns-in_default-clause-value
returns-in_default-clause-value c = sym (none_found c.args.quote 0 c.args.octets.now c.in_default.ensures)

pub returns-then-octets-n-clause-value : goal.returns-then-octets-n-clause-value
returns-then-octets-n-clause-value c =
    let f = c.in-Some.ensures in
    sym (open_tag_found c.args.quote 0 c.in-Some.n c.args.octets.now f.0.high f.0.before f.1 c.if-octets-n.true)

pub returns-clause-value : goal.returns-clause-value
returns-clause-value c =
    let f = c.in-Some.ensures in
    sym (quote_found c.args.quote 0 c.in-Some.n c.args.octets.now f.0.high f.0.before c.if-octets-n.false ∙ ap Some (omega arith))
