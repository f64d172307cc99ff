use Rattle.std.proofs.Common.{rules}
use Rattle.std.proofs.lemmas.Result.{err_from_is_err_and}
use Rattle.px_bytes.specs.lemmas.WaitingLaws.{puts_both, puts_first}
use Rattle.px_text.proofs.texts.put_ended.Goals as goal

pub returns-in_err-put_decimal : goal.returns-in_err-put_decimal
returns-in_err-put_decimal g c =
    let p = err_from_is_err_and c.from_residual.result c.from_residual.ensures.1 in
    rw p.1 (puts_first _ _ c.args.pending.now (g.I.Integer.text c.args.n) c.args.after.now c.in_err-put_decimal.ensures.0, search rules)

pub returns : goal.returns
returns g c = (
  puts_both c.put.result _ _ _ c.args.pending.now c.put_decimal.new.pending c.put.new.self (g.I.Integer.text c.args.n) c.args.after.now
      c.in_ok-put_decimal.ensures.0 c.put.ensures.bytes,
  search rules,
)
