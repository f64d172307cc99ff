use Rattle.std.proofs.Common.{Some, option_map, ap}
use Rattle.px_meaning.specs.calls.Seen.{thumb_of}
use Rattle.px_layout.specs.calls.Forms.{meaning_in}
use Rattle.px_layout.proofs.writing.Runs.{strips_most}
use Rattle.px_layout.proofs.put_running.put_thumbnail_offsets.Goals as goal

pub put_any_offsets-requires-clause-most : goal.put_any_offsets-requires-clause-most
put_any_offsets-requires-clause-most g c =
    strips_most (meaning_in c.args.form.now) c.args.form.now.starts (Some (thumb_of c.in-Some.thumb)) c.requires.form.1 c.requires.form.0
    (ap (option_map thumb_of) c.in-Some.is)
