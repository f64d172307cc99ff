use Rattle.std.proofs.Common.{rules}
use Rattle.px_layout.specs.Normal.{normal_exif}
use Rattle.px_layout.specs.calls.Forms.{meaning_in}
use Rattle.px_bytes.specs.lemmas.WaitingLaws.{owes_written}
use Rattle.px_engine.proofs.normal.send_exif.Goals as goal

pub returns : goal.returns
returns g c = (
  owes_written c.send.result _ _ _ c.over-pending.result c.put_normal.new.pending (normal_exif (meaning_in c.args.form.now))
      c.over-pending.ensures.none c.in_ok-put_normal.ensures.bytes.0 c.send.ensures.bytes,
  search rules,
)
