use Rattle.std.proofs.Common.{rules}
use Rattle.std.specs.Prelude.{codes}
use Rattle.std.proofs.lemmas.Result.{err_from_is_err_and}
use Rattle.hex.specs.Hex.{encode_lower}
use Rattle.px_bytes.specs.lemmas.WaitingLaws.{puts_both, puts_first}
use Rattle.px_text.proofs.Chains.{puts_as, prefix_as}
use Rattle.px_text.proofs.Shown.{shown_some}
use Rattle.px_text.proofs.texts.put_shown.Goals as goal

pub returns-in_err-put : goal.returns-in_err-put
returns-in_err-put g c =
    let p = err_from_is_err_and c.from_residual.result c.from_residual.ensures.1 in
    rw p.1 (
      prefix_as _ _ c.args.pending.now _ _ (shown_some c.args.bytes.now c.is_empty.result c.is_empty.ensures c.if-is_empty.false)
          (puts_first _ _ c.args.pending.now (codes " ") (encode_lower c.args.bytes.now) c.in_err-put.ensures.bytes),
      search rules,
    )

pub returns : goal.returns
returns g c = (
  puts_as c.put_hex.result _ _ c.args.pending.now c.put_hex.new.pending _ _ (shown_some c.args.bytes.now c.is_empty.result
      c.is_empty.ensures c.if-is_empty.false)
      (puts_both c.put_hex.result _ _ _ c.args.pending.now c.put.new.self c.put_hex.new.pending (codes " ") (encode_lower c.args.bytes.now)
      c.in_ok-put.ensures.bytes c.put_hex.ensures.0),
  search rules,
)
