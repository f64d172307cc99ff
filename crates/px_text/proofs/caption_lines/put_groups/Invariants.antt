use Rattle.std.proofs.Common.{◌≡◌, take}
use Rattle.std.specs.List.{flat_map}
use Rattle.px_bytes.specs.Waiting.{◌⊕◌, Owes}
use Rattle.px_text.specs.Captions.{group_captions, caption_groups, caption_lines}
use Rattle.px_text.proofs.caption_lines.put_groups.Given as goal

-- the parts so far were added, and no call failed
abbrev pub invariant-loop-i : goal.invariant-loop-i
invariant-loop-i g l = record {
  owes : Owes (g.W.Sink.bytes_taken l.initial.writer) (g.W.Sink.bytes_taken l.writer) l.pending (l.initial.pending ⊕ flat_map (λ n.
      caption_lines (group_captions l.iim n)) (take l.i caption_groups));
  count : g.W.Device.calls l.writer ≡ g.W.Device.calls l.initial.writer;
}
