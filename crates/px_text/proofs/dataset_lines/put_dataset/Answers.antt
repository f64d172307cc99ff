use Rattle.std.proofs.Common.{◌++◌, rules}
use Rattle.std.specs.Prelude.{codes, decimal}
use Rattle.std.proofs.lemmas.Result.{err_from_is_err_and}
use Rattle.px_bytes.specs.lemmas.WaitingLaws.{puts_both, puts_first}
use Rattle.px_text.specs.Words.{sized_bytes}
use Rattle.px_text.specs.Listing.{dataset_line}
use Rattle.px_text.proofs.Chains.{owes_append, owes_prefix}
use Rattle.px_text.proofs.dataset_lines.put_dataset.Goals as goal

pub returns-in_err-put_ended : goal.returns-in_err-put_ended
unfolding dataset_line
returns-in_err-put_ended g c =
    let p = err_from_is_err_and c.from_residual.result c.from_residual.ensures.1 in
    let buffer = c.args.pending.now in
    let first = decimal c.args.rec ++ codes ":" in
    let second = decimal c.args.item.now.number in
    let third = sized_bytes c.args.item.now.octets.now in
    rw p.1 (puts_first _ _ buffer (first ++ second) third (puts_first _ _ buffer first second c.in_err-put_ended.ensures.0), search rules)

pub returns-in_err-put_decimal : goal.returns-in_err-put_decimal
unfolding dataset_line
returns-in_err-put_decimal g c =
    let p = err_from_is_err_and c.from_residual-in_err-put_decimal.result c.from_residual-in_err-put_decimal.ensures.1 in
    let buffer = c.args.pending.now in
    let first = decimal c.args.rec ++ codes ":" in
    let second = decimal c.args.item.now.number in
    let third = sized_bytes c.args.item.now.octets.now in
    rw p.1 (
      puts_first _ _ buffer (first ++ second) third (owes_prefix _ _ _ buffer c.put_ended.new.pending first second
          c.in_ok-put_ended.ensures.0 c.in_err-put_decimal.ensures.0),
      search rules,
    )

pub returns : goal.returns
unfolding dataset_line
returns g c =
    let buffer = c.args.pending.now in
    let first = decimal c.args.rec ++ codes ":" in
    let second = decimal c.args.item.now.number in
    let third = sized_bytes c.args.item.now.octets.now in (
      puts_both c.put_sized.result _ _ _ buffer c.put_decimal.new.pending c.put_sized.new.pending (first ++ second) third
          (owes_append _ _ _ buffer c.put_ended.new.pending c.put_decimal.new.pending first second c.in_ok-put_ended.ensures.0
          c.in_ok-put_decimal.ensures.0) c.put_sized.ensures.0,
      search rules,
    )
