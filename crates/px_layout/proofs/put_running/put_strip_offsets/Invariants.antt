use Rattle.std.proofs.Common.{◌≡◌, ◌≤◌, ◌+◌, ◌-◌, length, take, drop, flat_map}
use Rattle.px_bytes.specs.lemmas.WaitingLaws.{HasPut}
use Rattle.px_bytes.specs.declared.Order.TheVariants.{Most}
use Rattle.px_layout.specs.Laid.{long_bytes}
use Rattle.px_layout.specs.calls.Given.{strips_size, strip_places}
use Rattle.px_layout.proofs.put_running.put_strip_offsets.Given as goal

-- the offsets so far were put, no call failed, and the next strip comes after these strips
abbrev pub invariant-loop-i : goal.invariant-loop-i
invariant-loop-i g l = record {
  inside : l.i ≤ length l.strips;
  put : HasPut g.W.Sink.bytes_taken l.initial.writer l.writer l.initial.pending l.pending
      (flat_map (long_bytes Most) (take l.i (strip_places l.at l.strips)));
  count : g.W.Device.calls l.writer ≡ g.W.Device.calls l.initial.writer;
  left : l.next + strips_size (drop l.i l.strips) ≡ l.at + strips_size l.strips;
}

abbrev pub decreases-loop-i : goal.decreases-loop-i
decreases-loop-i g l = length l.strips - l.i
