use Rattle.std.proofs.Common.{vec_len, vec_capacity, ◌≡◌, ◌≤◌, ◌+◌, ◌*◌, ◌++◌, length, take, map}
use Rattle.std.specs.List.{flat_map}
use Rattle.px_text.specs.Captions.{tag_captions, caption_texts, caption_bytes}
use Rattle.px_text.specs.calls.CaptionView.{caption_view}
use Rattle.px_text.specs.calls.AskedAndPaid.{asked_and_paid}
use Rattle.px_text.proofs.captions_in.push_texts.Given as goal

abbrev pub invariant-loop-i : goal.invariant-loop-i
invariant-loop-i l = record {
  list : map caption_view l.list.items ≡ map caption_view l.initial.list.items ++ flat_map (tag_captions l.fields) (take l.i caption_texts);
  memory : l.memory.failed_allocations ≡ l.initial.memory.failed_allocations;
  asked_and_paid : asked_and_paid l.memory (vec_len l.list) (vec_capacity l.list)
      ≤ asked_and_paid l.initial.memory (vec_len l.initial.list) (vec_capacity l.initial.list)
      + caption_bytes * length (flat_map (tag_captions l.fields) (take l.i caption_texts));
}
