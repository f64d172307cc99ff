use Rattle.std.proofs.Common.{◌≡◌, take, map}
use Rattle.std.specs.List.{flat_map}
use Rattle.px_bytes.specs.Waiting.{◌⊕◌, Owes}
use Rattle.px_iim.specs.calls.View.{item_view}
use Rattle.px_text.specs.Listing.{dataset_line}
use Rattle.px_text.proofs.dataset_lines.put_group.Given as goal

-- the parts so far were added, and no call failed
abbrev pub invariant-loop-item : goal.invariant-loop-item
invariant-loop-item g l = record {
  owes : Owes (g.W.Sink.bytes_taken l.initial.writer) (g.W.Sink.bytes_taken l.writer) l.pending (l.initial.pending ⊕ flat_map
      (dataset_line l.rec) (take l.item-index (map item_view l.items)));
  count : g.W.Device.calls l.writer ≡ g.W.Device.calls l.initial.writer;
}
