use Rattle.std.proofs.Common.{◌++◌, rules}
use Rattle.std.specs.Prelude.{codes}
use Rattle.std.proofs.lemmas.Result.{err_from_is_err_and}
use Rattle.px_bytes.specs.lemmas.WaitingLaws.{puts_both, puts_first}
use Rattle.px_text.proofs.field_lines.put_fraction.Goals as goal

pub returns-in_err-put_ended : goal.returns-in_err-put_ended
returns-in_err-put_ended g c =
    let p = err_from_is_err_and c.from_residual.result c.from_residual.ensures.1 in
    let first = g.I.Integer.text c.args.numerator ++ codes "/" in
    rw p.1 (puts_first _ _ c.args.pending.now first (g.I.Integer.text c.args.denominator) c.in_err-put_ended.ensures.0, search rules)

pub returns : goal.returns
returns g c =
    let first = g.I.Integer.text c.args.numerator ++ codes "/" in (
      puts_both c.put_decimal.result _ _ _ c.args.pending.now c.put_ended.new.pending c.put_decimal.new.pending first
          (g.I.Integer.text c.args.denominator) c.in_ok-put_ended.ensures.0 c.put_decimal.ensures.0,
      search rules,
    )
