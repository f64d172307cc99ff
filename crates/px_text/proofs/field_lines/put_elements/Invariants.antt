use Rattle.std.proofs.Common.{◌≡◌, ◌++◌, take}
use Rattle.std.specs.Prelude.{codes}
use Rattle.std.specs.List.{flat_map}
use Rattle.px_bytes.specs.Waiting.{◌⊕◌, Owes}
use Rattle.px_text.specs.Listing.{element_text}
use Rattle.px_text.proofs.field_lines.put_elements.Given as goal

-- the parts so far were added, and no call failed
abbrev pub invariant-loop-i : goal.invariant-loop-i
invariant-loop-i g l = record {
  owes : Owes (g.W.Sink.bytes_taken l.initial.writer) (g.W.Sink.bytes_taken l.writer) l.pending (l.initial.pending ⊕ flat_map (λ e.
      codes " " ++ element_text e) (take l.i l.value.elements));
  count : g.W.Device.calls l.writer ≡ g.W.Device.calls l.initial.writer;
}
