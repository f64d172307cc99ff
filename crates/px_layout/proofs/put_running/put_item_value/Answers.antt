use Rattle.std.proofs.Common.{length, ap, rules}
use Rattle.px_layout.specs.calls.Forms.{meaning_in}
use Rattle.px_layout.specs.calls.Items.{item_of}
use Rattle.px_layout.specs.lemmas.PutLaws.{puts_as}
use Rattle.px_layout.proofs.writing.Runs.{item_reported}
use Rattle.px_layout.proofs.put_running.put_item_value.Goals as goal

pub returns-in-StripOffsets : goal.returns-in-StripOffsets
returns-in-StripOffsets g c = (
  puts_as g.W.Sink.bytes_taken c.put_thumbnail_offsets.result _ _ c.args.pending.now c.put_thumbnail_offsets.new.pending _ _
      (item_reported (meaning_in c.args.form.now) (item_of c.args.item) (length c.in-StripOffsets.field-0.now) (ap item_of c.in-StripOffsets.is)
      c.requires.counts_all)
      c.put_thumbnail_offsets.ensures.0,
  search rules,
)
