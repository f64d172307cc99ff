use Rattle.std.proofs.Common.{rules}
use Rattle.std.proofs.lemmas.Result.{err_from_is_err_and}
use Rattle.px_layout.specs.calls.Forms.{meaning_in}
use Rattle.px_bytes.specs.lemmas.WaitingLaws.{puts_to_both, fails_first}
use Rattle.px_layout.specs.Normal.{normal_exif}
use Rattle.px_layout.proofs.put_form.put_block.Goals as goal

pub returns-in_err-put_running_header : goal.returns-in_err-put_running_header
unfolding normal_exif
returns-in_err-put_running_header g c =
    let p = err_from_is_err_and c.from_residual.result c.from_residual.ensures.1 in
    rw p.1 (
      fails_first g.W.Sink.bytes_taken _ _ c.args.pending.now _ _ (c.in_err-put_running_header.ensures.bytes
          (meaning_in c.args.form.now)),
      search rules,
    )

pub returns : goal.returns
unfolding normal_exif
returns g c = (
  puts_to_both g.W.Sink.bytes_taken c.put_contents.result _ _ _ c.args.pending.now c.put_running_header.new.pending
      c.put_contents.new.pending _ _ (c.in_ok-put_running_header.ensures.bytes (meaning_in c.args.form.now)) c.put_contents.ensures.0,
  search rules,
)
