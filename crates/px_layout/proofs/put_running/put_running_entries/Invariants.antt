use Rattle.std.proofs.Common.{◌≡◌, ◌+◌, take, drop, flat_map, length}
use Rattle.px_bytes.specs.lemmas.WaitingLaws.{HasPut}
use Rattle.px_bytes.specs.declared.Order.TheVariants.{Most}
use Rattle.px_layout.specs.calls.Forms.{meaning_in}
use Rattle.px_meaning.specs.Entry.{table_size}
use Rattle.px_layout.specs.Laid.{entry_bytes}
use Rattle.px_layout.specs.Normal.{even, normal_plan}
use Rattle.px_layout.specs.lemmas.RunLaws.{start, values_size}
use Rattle.px_layout.proofs.put_running.put_running_entries.Given as goal

-- the entries so far were put, no call failed, and the next value comes after the values of these entries
abbrev pub invariant-loop-i : goal.invariant-loop-i
invariant-loop-i g l = record {
  put : HasPut g.W.Sink.bytes_taken l.initial.writer l.writer l.initial.pending l.pending
      (flat_map (entry_bytes (normal_plan (meaning_in l.form)) Most 0 l.fn.dir) (take l.i l.entries));
  count : g.W.Device.calls l.writer ≡ g.W.Device.calls l.initial.writer;
  left : l.at + values_size (drop l.i l.entries) ≡ start (meaning_in l.form) l.fn.dir + even
      (table_size (length l.entries)) + values_size l.entries;
}
