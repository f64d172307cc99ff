use Rattle.std.proofs.lemmas.Result.{err_from_is_err_and}
use Rattle.std.proofs.Common.{◌∙◌, ap, rules}
use Rattle.px_bytes.specs.lemmas.WaitingLaws.{puts_both, puts_first}
use Rattle.px_text.specs.Captions.{charset_line, declares_utf8, caption_lines, iim_captions}
use Rattle.px_text.proofs.Chains.{owes_as, prefix_as}
use Rattle.px_text.proofs.caption_lines.put_iim.Goals as goal

pub returns-in_err-put : goal.returns-in_err-put
returns-in_err-put g c =
    let p = err_from_is_err_and c.from_residual.result c.from_residual.ensures.1 in
    let buffer = c.args.pending.now in
    let first = charset_line (declares_utf8 c.args.iim.now) in
    let second = caption_lines (iim_captions c.args.iim.now) in
    let line = c.charset_line.ensures ∙ ap charset_line c.declares_utf8.ensures in
    rw p.1 (puts_first _ _ buffer first second (prefix_as _ _ buffer _ _ line c.in_err-put.ensures.bytes), search rules)

pub returns : goal.returns
returns g c =
    let buffer = c.args.pending.now in
    let first = charset_line (declares_utf8 c.args.iim.now) in
    let second = caption_lines (iim_captions c.args.iim.now) in
    let line = c.charset_line.ensures ∙ ap charset_line c.declares_utf8.ensures in (
      puts_both c.put_groups.result _ _ _ buffer c.put.new.self c.put_groups.new.pending first second (owes_as _ _ buffer c.put.new.self _ _
          line c.in_ok-put.ensures.bytes) c.put_groups.ensures.0,
      search rules,
    )
