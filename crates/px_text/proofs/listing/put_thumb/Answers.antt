use Rattle.std.proofs.Common.{◌++◌, rules}
use Rattle.std.specs.Prelude.{codes}
use Rattle.std.proofs.lemmas.Result.{err_from_is_err_and}
use Rattle.px_bytes.specs.lemmas.WaitingLaws.{puts_both, puts_first}
use Rattle.px_meaning.specs.calls.Seen.{thumb_of}
use Rattle.px_text.specs.Listing.{field_lines, jpeg_lines, strips_lines}
use Rattle.px_text.proofs.Chains.{owes_append, owes_prefix}
use Rattle.px_text.proofs.listing.put_thumb.Goals as goal

pub returns-in_err-put_titled : goal.returns-in_err-put_titled
returns-in_err-put_titled g c =
    let p = err_from_is_err_and c.from_residual.result c.from_residual.ensures.1 in
    let buffer = c.args.pending.now in
    let first = codes "[thumb]\n" ++ field_lines c.in-Some.thumb.fields in
    let second = jpeg_lines (thumb_of c.in-Some.thumb).jpeg in
    let third = strips_lines c.in-Some.thumb.strips in (
      rw c.in-Some.is (rw p.1 (puts_first _ _ buffer (first ++ second) third (puts_first _ _ buffer first second
          c.in_err-put_titled.ensures.0))),
      search rules,
    )

pub returns-in_err-put_jpeg : goal.returns-in_err-put_jpeg
returns-in_err-put_jpeg g c =
    let p = err_from_is_err_and c.from_residual-in_err-put_jpeg.result c.from_residual-in_err-put_jpeg.ensures.1 in
    let buffer = c.args.pending.now in
    let first = codes "[thumb]\n" ++ field_lines c.in-Some.thumb.fields in
    let second = jpeg_lines (thumb_of c.in-Some.thumb).jpeg in
    let third = strips_lines c.in-Some.thumb.strips in (
      rw c.in-Some.is (rw p.1 (puts_first _ _ buffer (first ++ second) third (owes_prefix _ _ _ buffer c.put_titled.new.pending first second
          c.in_ok-put_titled.ensures.0 c.in_err-put_jpeg.ensures.0))),
      search rules,
    )

pub returns : goal.returns
returns g c =
    let buffer = c.args.pending.now in
    let first = codes "[thumb]\n" ++ field_lines c.in-Some.thumb.fields in
    let second = jpeg_lines (thumb_of c.in-Some.thumb).jpeg in
    let third = strips_lines c.in-Some.thumb.strips in (
      rw c.in-Some.is (puts_both c.put_strips.result _ _ _ buffer c.put_jpeg.new.pending c.put_strips.new.pending (first ++ second) third
          (owes_append _ _ _ buffer c.put_titled.new.pending c.put_jpeg.new.pending first second
          c.in_ok-put_titled.ensures.0 c.in_ok-put_jpeg.ensures.0)
          c.put_strips.ensures.0),
      search rules,
    )
