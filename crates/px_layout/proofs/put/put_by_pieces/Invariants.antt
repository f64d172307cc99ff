use Rattle.std.proofs.Common.{◌≡◌, ◌≤◌, ◌-◌, length, take, flat_map}
use Rattle.px_bytes.specs.lemmas.WaitingLaws.{HasPut}
use Rattle.px_field.specs.Values.{encode}
use Rattle.px_layout.proofs.put.put_by_pieces.Given as goal

-- the elements so far were put, and no call failed
abbrev pub invariant-loop-i : goal.invariant-loop-i
invariant-loop-i g l = record {
  inside : l.i ≤ length l.value.elements;
  put : HasPut g.W.Sink.bytes_taken l.initial.writer l.writer l.initial.pending l.pending
      (flat_map (encode l.order) (take l.i l.value.elements));
  count : g.W.Device.calls l.writer ≡ g.W.Device.calls l.initial.writer;
}

abbrev pub decreases-loop-i : goal.decreases-loop-i
decreases-loop-i g l = length l.value.elements - l.i
