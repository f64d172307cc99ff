use Rattle.std.proofs.Common.{◌≡◌, ◌≤◌, ◌-◌, take, flat_map, map, length}
use Rattle.px_bytes.specs.lemmas.WaitingLaws.{HasPut}
use Rattle.px_layout.specs.Laid.{long_bytes}
use Rattle.px_layout.proofs.put_strips.put_each_length.Given as goal

-- the lengths so far were put, and no call failed
abbrev pub invariant-loop-i : goal.invariant-loop-i
invariant-loop-i g l = record {
  inside : l.i ≤ length l.strips;
  put : HasPut g.W.Sink.bytes_taken l.initial.writer l.writer l.initial.pending l.pending
      (flat_map (long_bytes l.order) (take l.i (map (λ x. length x) l.strips)));
  count : g.W.Device.calls l.writer ≡ g.W.Device.calls l.initial.writer;
}

abbrev pub decreases-loop-i : goal.decreases-loop-i
decreases-loop-i g l = length l.strips - l.i
