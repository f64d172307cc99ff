use Rattle.std.proofs.Common.{◌++◌, rules}
use Rattle.std.specs.Prelude.{codes}
use Rattle.std.proofs.lemmas.Result.{err_from_is_err_and}
use Rattle.px_bytes.specs.lemmas.WaitingLaws.{puts_both, puts_first}
use Rattle.px_meaning.specs.calls.Seen.{meaning_of}
use Rattle.px_text.specs.Captions.{caption_lines, exif_captions, record_lines}
use Rattle.px_text.proofs.Chains.{owes_append, owes_prefix}
use Rattle.px_text.proofs.caption_lines.put_exif_captions.Goals as goal

pub returns-in_err-put : goal.returns-in_err-put
returns-in_err-put g c =
    let p = err_from_is_err_and c.from_residual.result c.from_residual.ensures.1 in
    let buffer = c.args.pending.now in
    let second = caption_lines (exif_captions (meaning_of c.args.meaning.now).main) in
    let third = record_lines (meaning_of c.args.meaning.now).iptc in
    rw p.1 (
      puts_first _ _ buffer (codes "exif\n" ++ second) third (puts_first _ _ buffer (codes "exif\n") second c.in_err-put.ensures.bytes),
      search rules,
    )

pub returns-in_err-put_texts : goal.returns-in_err-put_texts
returns-in_err-put_texts g c =
    let p = err_from_is_err_and c.from_residual-in_err-put_texts.result c.from_residual-in_err-put_texts.ensures.1 in
    let buffer = c.args.pending.now in
    let second = caption_lines (exif_captions (meaning_of c.args.meaning.now).main) in
    let third = record_lines (meaning_of c.args.meaning.now).iptc in
    rw p.1 (
      puts_first _ _ buffer (codes "exif\n" ++ second) third (owes_prefix _ _ _ buffer c.put.new.self (codes "exif\n") second
          c.in_ok-put.ensures.bytes c.in_err-put_texts.ensures.0),
      search rules,
    )

pub returns : goal.returns
returns g c =
    let buffer = c.args.pending.now in
    let second = caption_lines (exif_captions (meaning_of c.args.meaning.now).main) in
    let third = record_lines (meaning_of c.args.meaning.now).iptc in (
      puts_both c.put_record.result _ _ _ buffer c.put_texts.new.pending c.put_record.new.pending (codes "exif\n" ++ second) third
          (owes_append _ _ _
          buffer c.put.new.self c.put_texts.new.pending (codes "exif\n") second c.in_ok-put.ensures.bytes c.in_ok-put_texts.ensures.0)
          c.put_record.ensures.0,
      search rules,
    )
