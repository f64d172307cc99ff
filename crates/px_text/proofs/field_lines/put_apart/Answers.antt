use Rattle.std.proofs.Common.{rules}
use Rattle.std.specs.Prelude.{codes}
use Rattle.std.proofs.lemmas.Result.{err_from_is_err_and}
use Rattle.px_bytes.specs.lemmas.WaitingLaws.{puts_both, puts_first}
use Rattle.px_text.specs.Listing.{element_text}
use Rattle.px_text.proofs.field_lines.put_apart.Goals as goal

pub returns-in_err-put : goal.returns-in_err-put
returns-in_err-put g c =
    let p = err_from_is_err_and c.from_residual.result c.from_residual.ensures.1 in
    let buffer = c.args.pending.now in
    let second = element_text c.args.element in
    rw p.1 (puts_first _ _ buffer (codes " ") second c.in_err-put.ensures.bytes, search rules)

pub returns : goal.returns
returns g c =
    let buffer = c.args.pending.now in
    let second = element_text c.args.element in (
      puts_both c.put_element.result _ _ _ buffer c.put.new.self c.put_element.new.pending (codes " ") second c.in_ok-put.ensures.bytes
          c.put_element.ensures.0,
      search rules,
    )
