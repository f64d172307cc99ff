use Rattle.std.proofs.Common.{◌++◌, rules}
use Rattle.std.specs.Prelude.{codes}
use Rattle.std.proofs.lemmas.Result.{err_from_is_err_and}
use Rattle.px_bytes.specs.lemmas.WaitingLaws.{puts_both, puts_first}
use Rattle.px_text.specs.Listing.{field_lines, record_lines}
use Rattle.px_text.proofs.listing.put_main.Goals as goal

pub returns-in_err-put_titled : goal.returns-in_err-put_titled
returns-in_err-put_titled g c =
    let p = err_from_is_err_and c.from_residual.result c.from_residual.ensures.1 in
    let buffer = c.args.pending.now in
    let first = codes "exif\n[main]\n" ++ field_lines c.args.fields.now in
    let second = record_lines c.args.iim.now in
    rw p.1 (puts_first _ _ buffer first second c.in_err-put_titled.ensures.0, search rules)

pub returns : goal.returns
returns g c =
    let buffer = c.args.pending.now in
    let first = codes "exif\n[main]\n" ++ field_lines c.args.fields.now in
    let second = record_lines c.args.iim.now in (
      puts_both c.put_record.result _ _ _ buffer c.put_titled.new.pending c.put_record.new.pending first second
          c.in_ok-put_titled.ensures.0 c.put_record.ensures.0,
      search rules,
    )
