use Rattle.std.proofs.Common.{◌≡◌}
use Rattle.px_bytes.specs.Waiting.{Buffer, ◌⊕◌, Owes}
use Rattle.px_text.specs.Listing.{dataset_lines}
use Rattle.px_text.proofs.dataset_lines.put_datasets.Given as goal

-- the lines of the groups so far were added, those of the groups left are the rest, and no call failed
abbrev pub invariant-loop-rec : goal.invariant-loop-rec
invariant-loop-rec g l = record {
  owes : (out : Buffer) × Owes (g.W.Sink.bytes_taken l.initial.writer) (g.W.Sink.bytes_taken l.writer) l.pending out
      × (out ⊕ dataset_lines l.rec-iterator ≡ l.initial.pending ⊕ dataset_lines l.iim);
  count : g.W.Device.calls l.writer ≡ g.W.Device.calls l.initial.writer;
}
