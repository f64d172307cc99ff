use Rattle.std.proofs.Common.{◌++◌, length, rules}
use Rattle.std.specs.Prelude.{codes, decimal}
use Rattle.std.proofs.lemmas.Result.{err_from_is_err_and}
use Rattle.px_bytes.specs.lemmas.WaitingLaws.{puts_both, puts_first}
use Rattle.px_text.specs.Words.{shown_bytes, sized_bytes}
use Rattle.px_text.proofs.Chains.{owes_append, owes_prefix}
use Rattle.px_text.proofs.texts.put_sized.Goals as goal

pub returns-in_err-put_number : goal.returns-in_err-put_number
unfolding sized_bytes
returns-in_err-put_number g c =
    let p = err_from_is_err_and c.from_residual.result c.from_residual.ensures.1 in
    let buffer = c.args.pending.now in
    let first = codes " " ++ decimal (length c.args.bytes.now) ++ codes ":" in
    let second = shown_bytes c.args.bytes.now in
    rw p.1 (
      puts_first _ _ buffer (first ++ second) (codes "\n") (puts_first _ _ buffer first second c.in_err-put_number.ensures.0),
      search rules,
    )

pub returns-in_err-put_shown : goal.returns-in_err-put_shown
unfolding sized_bytes
returns-in_err-put_shown g c =
    let p = err_from_is_err_and c.from_residual-in_err-put_shown.result c.from_residual-in_err-put_shown.ensures.1 in
    let buffer = c.args.pending.now in
    let first = codes " " ++ decimal (length c.args.bytes.now) ++ codes ":" in
    let second = shown_bytes c.args.bytes.now in
    rw p.1 (
      puts_first _ _ buffer (first ++ second) (codes "\n") (owes_prefix _ _ _ buffer c.put_number.new.pending first second
          c.in_ok-put_number.ensures.0 c.in_err-put_shown.ensures.0),
      search rules,
    )

pub returns : goal.returns
unfolding sized_bytes
returns g c =
    let buffer = c.args.pending.now in
    let first = codes " " ++ decimal (length c.args.bytes.now) ++ codes ":" in
    let second = shown_bytes c.args.bytes.now in (
      puts_both c.put.result _ _ _ buffer c.put_shown.new.pending c.put.new.self (first ++ second) (codes "\n") (owes_append _ _ _ buffer
          c.put_number.new.pending c.put_shown.new.pending first second c.in_ok-put_number.ensures.0 c.in_ok-put_shown.ensures.0)
          c.put.ensures.bytes,
      search rules,
    )
