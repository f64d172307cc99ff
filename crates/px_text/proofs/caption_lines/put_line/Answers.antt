use Rattle.std.proofs.Common.{◌++◌, rules}
use Rattle.std.specs.Prelude.{codes}
use Rattle.std.proofs.lemmas.Result.{err_from_is_err_and}
use Rattle.px_bytes.specs.lemmas.WaitingLaws.{puts_both, puts_first}
use Rattle.px_text.specs.Captions.{label_word, escaped, caption_line}
use Rattle.px_text.proofs.Chains.{owes_append, owes_as, prefix_as, owes_prefix}
use Rattle.px_text.proofs.caption_lines.put_line.Goals as goal

pub returns-in_err-put : goal.returns-in_err-put
unfolding caption_line
returns-in_err-put g c =
    let p = err_from_is_err_and c.from_residual.result c.from_residual.ensures.1 in
    let buffer = c.args.pending.now in
    let first = label_word c.args.caption.label ++ codes ": " in
    let second = escaped c.args.caption.text.now in
    rw p.1 (
      puts_first _ _ buffer (first ++ second) (codes "\n") (puts_first _ _ buffer first second (prefix_as _ _ buffer _ _
          c.label_word.ensures c.in_err-put.ensures.bytes)),
      search rules,
    )

pub returns-in_err-put_escaped : goal.returns-in_err-put_escaped
unfolding caption_line
returns-in_err-put_escaped g c =
    let p = err_from_is_err_and c.from_residual-in_err-put_escaped.result c.from_residual-in_err-put_escaped.ensures.1 in
    let buffer = c.args.pending.now in
    let first = label_word c.args.caption.label ++ codes ": " in
    let second = escaped c.args.caption.text.now in
    rw p.1 (
      puts_first _ _ buffer (first ++ second) (codes "\n") (owes_prefix _ _ _ buffer c.put.new.self first second
          (owes_as _ _ buffer c.put.new.self _ _ c.label_word.ensures c.in_ok-put.ensures.bytes) c.in_err-put_escaped.ensures.0),
      search rules,
    )

pub returns : goal.returns
unfolding caption_line
returns g c =
    let buffer = c.args.pending.now in
    let first = label_word c.args.caption.label ++ codes ": " in
    let second = escaped c.args.caption.text.now in (
      puts_both c.put-2.result _ _ _ buffer c.put_escaped.new.pending c.put-2.new.self (first ++ second) (codes "\n") (owes_append _ _ _ buffer
          c.put.new.self c.put_escaped.new.pending first second (owes_as _ _ buffer c.put.new.self _ _ c.label_word.ensures
          c.in_ok-put.ensures.bytes) c.in_ok-put_escaped.ensures.0) c.put-2.ensures.bytes,
      search rules,
    )
