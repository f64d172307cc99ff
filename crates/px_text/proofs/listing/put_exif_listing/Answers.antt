use Rattle.std.proofs.Common.{◌++◌, rules}
use Rattle.std.specs.Prelude.{codes}
use Rattle.std.proofs.lemmas.Result.{err_from_is_err_and}
use Rattle.px_bytes.specs.lemmas.WaitingLaws.{puts_both, puts_first}
use Rattle.px_meaning.specs.calls.Seen.{meaning_of}
use Rattle.px_text.specs.Listing.{field_lines, record_lines, exif_lines, directory_lines, thumb_lines, exif_listing}
use Rattle.px_text.proofs.Chains.{owes_append, owes_prefix}
use Rattle.px_text.proofs.listing.put_exif_listing.Goals as goal

pub returns-in_err-put_main : goal.returns-in_err-put_main
unfolding exif_listing
returns-in_err-put_main g c =
    let p = err_from_is_err_and c.from_residual.result c.from_residual.ensures.1 in
    let buffer = c.args.pending.now in
    let first = codes "exif\n[main]\n" ++ field_lines (meaning_of c.args.meaning.now).main ++ record_lines (meaning_of
    c.args.meaning.now).iptc in
    let second = exif_lines (meaning_of c.args.meaning.now).exif in
    let third = directory_lines (codes "[gps]\n") (meaning_of c.args.meaning.now).gps in
    let fourth = thumb_lines (meaning_of c.args.meaning.now).thumb in
    rw p.1 (
      puts_first _ _ buffer (first ++ second ++ third) fourth (puts_first _ _ buffer (first ++ second) third (puts_first _ _ buffer first
          second c.in_err-put_main.ensures.0)),
      search rules,
    )

pub returns-in_err-put_exif : goal.returns-in_err-put_exif
unfolding exif_listing
returns-in_err-put_exif g c =
    let p = err_from_is_err_and c.from_residual-in_err-put_exif.result c.from_residual-in_err-put_exif.ensures.1 in
    let buffer = c.args.pending.now in
    let first = codes "exif\n[main]\n" ++ field_lines (meaning_of c.args.meaning.now).main ++ record_lines (meaning_of
    c.args.meaning.now).iptc in
    let second = exif_lines (meaning_of c.args.meaning.now).exif in
    let third = directory_lines (codes "[gps]\n") (meaning_of c.args.meaning.now).gps in
    let fourth = thumb_lines (meaning_of c.args.meaning.now).thumb in
    rw p.1 (
      puts_first _ _ buffer (first ++ second ++ third) fourth (puts_first _ _ buffer (first ++ second) third (owes_prefix _ _ _ buffer
          c.put_main.new.pending first second c.in_ok-put_main.ensures.0 c.in_err-put_exif.ensures.0)),
      search rules,
    )

pub returns-in_err-put_directory : goal.returns-in_err-put_directory
unfolding exif_listing
returns-in_err-put_directory g c =
    let p = err_from_is_err_and c.from_residual-in_err-put_directory.result c.from_residual-in_err-put_directory.ensures.1 in
    let buffer = c.args.pending.now in
    let first = codes "exif\n[main]\n" ++ field_lines (meaning_of c.args.meaning.now).main ++ record_lines (meaning_of
    c.args.meaning.now).iptc in
    let second = exif_lines (meaning_of c.args.meaning.now).exif in
    let third = directory_lines (codes "[gps]\n") (meaning_of c.args.meaning.now).gps in
    let fourth = thumb_lines (meaning_of c.args.meaning.now).thumb in
    rw p.1 (
      puts_first _ _ buffer (first ++ second ++ third) fourth (owes_prefix _ _ _ buffer c.put_exif.new.pending (first ++ second) third
          (owes_append _
          _ _ buffer c.put_main.new.pending c.put_exif.new.pending first second c.in_ok-put_main.ensures.0 c.in_ok-put_exif.ensures.0)
          c.in_err-put_directory.ensures.0),
      search rules,
    )

pub returns : goal.returns
unfolding exif_listing
returns g c =
    let buffer = c.args.pending.now in
    let first = codes "exif\n[main]\n" ++ field_lines (meaning_of c.args.meaning.now).main ++ record_lines (meaning_of
    c.args.meaning.now).iptc in
    let second = exif_lines (meaning_of c.args.meaning.now).exif in
    let third = directory_lines (codes "[gps]\n") (meaning_of c.args.meaning.now).gps in
    let fourth = thumb_lines (meaning_of c.args.meaning.now).thumb in (
      puts_both c.put_thumb.result _ _ _ buffer c.put_directory.new.pending c.put_thumb.new.pending (first ++ second ++ third) fourth
          (owes_append _
          _ _ buffer c.put_exif.new.pending c.put_directory.new.pending (first ++ second) third (owes_append _ _ _ buffer c.put_main.new.pending
          c.put_exif.new.pending first second c.in_ok-put_main.ensures.0 c.in_ok-put_exif.ensures.0)
          c.in_ok-put_directory.ensures.0) c.put_thumb.ensures.0,
      search rules,
    )
