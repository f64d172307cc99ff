use Rattle.std.proofs.Common.{length, ◌-◌, ◌≡◌, ◌≤◌, take}
use Rattle.hex.specs.Hex.{encode_lower}
use Rattle.px_text.proofs.texts.put_hex.Given as goal
use Rattle.px_bytes.specs.Waiting.{◌⊕◌, Owes}

-- the digits of the first bytes were put, and no call failed
abbrev pub invariant-loop-at : goal.invariant-loop-at
invariant-loop-at g l = record {
  inside : l.at ≤ length l.bytes;
  owes : Owes (g.W.Sink.bytes_taken l.initial.writer) (g.W.Sink.bytes_taken l.writer) l.pending (l.initial.pending ⊕ encode_lower (take
      l.at l.bytes));
  count : g.W.Device.calls l.writer ≡ g.W.Device.calls l.initial.writer;
}

abbrev pub decreases-loop-at : goal.decreases-loop-at
decreases-loop-at g l = length l.bytes - l.at
