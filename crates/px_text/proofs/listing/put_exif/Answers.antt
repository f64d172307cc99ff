use Rattle.std.proofs.Common.{◌++◌, rules}
use Rattle.std.specs.Prelude.{codes}
use Rattle.std.proofs.lemmas.Result.{err_from_is_err_and}
use Rattle.px_bytes.specs.lemmas.WaitingLaws.{puts_both, puts_first}
use Rattle.px_text.specs.Listing.{field_lines, directory_lines}
use Rattle.px_text.proofs.listing.put_exif.Goals as goal

pub returns-in_err-put_titled : goal.returns-in_err-put_titled
returns-in_err-put_titled g c =
    let p = err_from_is_err_and c.from_residual.result c.from_residual.ensures.1 in
    let buffer = c.args.pending.now in
    let first = codes "[exif]\n" ++ field_lines c.in-Some.exif.fields in
    let second = directory_lines (codes "[interop]\n") c.in-Some.exif.interop in
    (rw c.in-Some.is (rw p.1 (puts_first _ _ buffer first second c.in_err-put_titled.ensures.0)), search rules)

pub returns : goal.returns
returns g c =
    let buffer = c.args.pending.now in
    let first = codes "[exif]\n" ++ field_lines c.in-Some.exif.fields in
    let second = directory_lines (codes "[interop]\n") c.in-Some.exif.interop in (
      rw c.in-Some.is (puts_both c.put_directory.result _ _ _ buffer c.put_titled.new.pending c.put_directory.new.pending first second
          c.in_ok-put_titled.ensures.0 c.put_directory.ensures.0),
      search rules,
    )
