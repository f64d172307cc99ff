use Rattle.std.proofs.Common.{vec_len, vec_capacity, ◌≡◌, ◌≤◌, ◌+◌, ◌*◌, ◌++◌, length, take, map}
use Rattle.std.specs.Prelude.{filter_map}
use Rattle.px_iim.specs.calls.View.{item_view}
use Rattle.px_text.specs.Captions.{labelled, caption_bytes}
use Rattle.px_text.specs.calls.CaptionView.{caption_view}
use Rattle.px_text.specs.calls.AskedAndPaid.{asked_and_paid}
use Rattle.px_text.proofs.captions_in.push_group.Given as goal

abbrev pub invariant-loop-item : goal.invariant-loop-item
invariant-loop-item l = record {
  list : map caption_view l.list.items ≡ map caption_view l.initial.list.items ++ filter_map labelled
      (take l.item-index (map item_view l.items));
  memory : l.memory.failed_allocations ≡ l.initial.memory.failed_allocations;
  asked_and_paid : asked_and_paid l.memory (vec_len l.list) (vec_capacity l.list)
      ≤ asked_and_paid l.initial.memory (vec_len l.initial.list) (vec_capacity l.initial.list)
      + caption_bytes * length (filter_map labelled (take l.item-index (map item_view l.items)));
}
