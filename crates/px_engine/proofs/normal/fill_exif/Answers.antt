use Rattle.std.proofs.Common.{rules}
use Rattle.px_layout.specs.Normal.{normal_exif}
use Rattle.px_layout.specs.calls.Forms.{meaning_in}
use Rattle.px_engine.proofs.Space.{filling_now_form}
use Rattle.px_engine.proofs.normal.fill_exif.Goals as goal

pub returns : goal.returns
returns c =
    let all = filling_now_form c.send_exif.result c.new-writer.result c.send_exif.new.writer _ _ (normal_exif (meaning_in c.args.form.now))
    c.requires.space c.new-writer.ensures.same c.new-writer.ensures.space c.new-writer.ensures.none c.new-writer.ensures.refusals
    c.send_exif.ensures.0 c.send_exif.ensures.1 in
    search rules
