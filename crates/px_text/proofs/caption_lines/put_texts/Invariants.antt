use Rattle.std.proofs.Common.{◌≡◌, take}
use Rattle.std.specs.List.{flat_map}
use Rattle.px_bytes.specs.Waiting.{◌⊕◌, Owes}
use Rattle.px_text.specs.Captions.{tag_captions, caption_texts, caption_lines}
use Rattle.px_text.proofs.caption_lines.put_texts.Given as goal

-- the parts so far were added, and no call failed
abbrev pub invariant-loop-i : goal.invariant-loop-i
invariant-loop-i g l = record {
  owes : Owes (g.W.Sink.bytes_taken l.initial.writer) (g.W.Sink.bytes_taken l.writer) l.pending (l.initial.pending ⊕ flat_map (λ t.
      caption_lines (tag_captions l.fields t)) (take l.i caption_texts));
  count : g.W.Device.calls l.writer ≡ g.W.Device.calls l.initial.writer;
}
