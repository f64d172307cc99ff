use Rattle.std.proofs.Common.{◌∙◌, ℕ, List, length, map, ap, rules}
use Rattle.px_field.specs.Values.{encoded}
use Rattle.px_layout.specs.lemmas.PutLaws.{puts_as}
use Rattle.px_layout.proofs.writing.Longs.{encoded_longs}
use Rattle.px_layout.proofs.put_strips.put_strip_lengths.Goals as goal

abbrev size : List ℕ → ℕ
size x = length x

pub returns-in-Some : goal.returns-in-Some
returns-in-Some g c = (
  puts_as g.W.Sink.bytes_taken c.put_value.result _ _ c.args.pending.now c.put_value.new.pending _ _
      (ap (encoded c.args.order) c.in-Some.ensures ∙ encoded_longs c.args.order (map size c.args.strips.now))
      c.put_value.ensures.0,
  search rules,
)
