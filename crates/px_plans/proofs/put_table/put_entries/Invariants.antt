use Rattle.std.proofs.Common.{◌≡◌, take, flat_map}
use Rattle.px_bytes.specs.lemmas.WaitingLaws.{HasPut}
use Rattle.px_layout.specs.Laid.{entry_bytes}
use Rattle.px_plans.specs.calls.Layouts.{plan_of_layout}
use Rattle.px_plans.proofs.put_table.put_entries.Given as goal

-- the entries so far were added, and no call failed
abbrev pub invariant-loop-i : goal.invariant-loop-i
invariant-loop-i g l = record {
  put : HasPut g.W.Sink.bytes_taken l.initial.writer l.writer l.initial.pending l.pending
      (flat_map (entry_bytes (plan_of_layout l.layout) l.layout.order l.layout.filler l.dir) (take l.i l.entries));
  count : g.W.Device.calls l.writer ≡ g.W.Device.calls l.initial.writer;
}
