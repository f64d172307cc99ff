use Rattle.std.proofs.Common.{◌++◌, rules}
use Rattle.std.proofs.lemmas.Result.{err_from_is_err_and}
use Rattle.px_bytes.specs.lemmas.WaitingLaws.{puts_both, puts_first}
use Rattle.px_text.proofs.texts.put_number.Goals as goal

pub returns-in_err-put : goal.returns-in_err-put
returns-in_err-put g c =
    let p = err_from_is_err_and c.from_residual.result c.from_residual.ensures.1 in
    let second = g.I.Integer.text c.args.n ++ c.args.after.now in
    rw p.1 (puts_first _ _ c.args.pending.now c.args.before.now second c.in_err-put.ensures.bytes, search rules)

pub returns : goal.returns
returns g c =
    let second = g.I.Integer.text c.args.n ++ c.args.after.now in (
      puts_both c.put_ended.result _ _ _ c.args.pending.now c.put.new.self c.put_ended.new.pending c.args.before.now second
          c.in_ok-put.ensures.bytes c.put_ended.ensures.0,
      search rules,
    )
