use Rattle.std.proofs.Common.{◌≡◌, take, map}
use Rattle.std.specs.List.{flat_map}
use Rattle.px_iim.specs.Record.{normal_dataset}
use Rattle.px_iim.specs.calls.View.{item_view}
use Rattle.px_bytes.specs.lemmas.WaitingLaws.{HasPut}
use Rattle.px_iim.proofs.write.put_group.Given as goal

-- the items so far were put, and no call failed
abbrev pub invariant-loop-item : goal.invariant-loop-item
invariant-loop-item g l = record {
  put : HasPut g.W.Sink.bytes_taken l.initial.writer l.writer l.initial.pending l.pending
      (flat_map (normal_dataset l.rec) (take l.item-index (map item_view l.items)));
  count : g.W.Device.calls l.writer ≡ g.W.Device.calls l.initial.writer;
}
