use Rattle.std.proofs.Common.{vec_len, vec_capacity, ℕ, List, map, ◌+◌, ◌++◌, ◌∙◌, refl, sym, ap, arith, append-nil}
use Rattle.std.specs.Prelude.{filter_map}
use Rattle.std.proofs.lemmas.List.{length-map, take_all}
use Rattle.px_iim.specs.calls.View.{item_view}
use Rattle.px_text.specs.Captions.{labelled}
use Rattle.px_text.specs.calls.CaptionView.{caption_view}
use Rattle.px_text.specs.calls.AskedAndPaid.{asked_and_paid}
use Rattle.px_text.proofs.Parts.{read_at, given_more, asked_given, length_given}
use Rattle.px_text.proofs.captions_in.push_group.Goals as goal

pub loop-item-preserved : goal.loop-item-preserved
loop-item-preserved c = record {
  list =
      given_more (map item_view c.args.items.now) c.loop-item.item-index _ (read_at item_view c.args.items.now c.loop-item.item-index _
      c.loop-item-test.true) labelled
      (map caption_view c.args.list.now.items) (map caption_view c.loop-item.list.items) (map caption_view c.push_item.new.list.items)
      c.loop-item.invariant.list c.in_ok-push_item.ensures.list;
  memory = c.in_ok-push_item.ensures.memory ∙ c.loop-item.invariant.memory;
  asked_and_paid =
      asked_given (map item_view c.args.items.now) c.loop-item.item-index _ (read_at item_view c.args.items.now c.loop-item.item-index _
      c.loop-item-test.true) labelled
      (asked_and_paid c.args.memory.now (vec_len c.args.list.now) (vec_capacity c.args.list.now)) (asked_and_paid c.loop-item.memory (vec_len c.loop-item.list) (vec_capacity c.loop-item.list))
      (asked_and_paid c.push_item.new.memory (vec_len c.push_item.new.list) (vec_capacity c.push_item.new.list))
      c.loop-item.invariant.asked_and_paid c.in_ok-push_item.ensures.paid;
}

pub loop-item-init : goal.loop-item-init
loop-item-init c = record {
  list = sym (append-nil (map caption_view c.args.list.now.items));
  memory = refl;
  asked_and_paid = omega arith;
}

pub returns-clause-list : goal.returns-clause-list
returns-clause-list c =
    let some = filter_map labelled in
    let all = take_all c.loop-item.item-index (map item_view c.args.items.now) (omega (
      arith,
      c.loop-item-test.false,
      length-map
          c.args.items.now item_view,
    )) in
    c.loop-item.invariant.list ∙ ap (λ (xs : List (ℕ × List ℕ)). map caption_view c.args.list.now.items ++ some xs) all

pub returns-in_err-push_item-clause-asked : goal.returns-in_err-push_item-clause-asked
returns-in_err-push_item-clause-asked c =
    let more =
    asked_given (map item_view c.args.items.now) c.loop-item.item-index _ (read_at item_view c.args.items.now c.loop-item.item-index _
    c.loop-item-test.true) labelled
    (asked_and_paid c.args.memory.now (vec_len c.args.list.now) (vec_capacity c.args.list.now)) (asked_and_paid c.loop-item.memory (vec_len c.loop-item.list) (vec_capacity c.loop-item.list)) c.push_item.new.memory.asked
    c.loop-item.invariant.asked_and_paid c.in_err-push_item.ensures.asked in
    omega (arith, more, length_given labelled (map item_view c.args.items.now) (c.loop-item.item-index + 1))

pub returns-clause-asked : goal.returns-clause-asked
returns-clause-asked c =
    omega (arith, c.loop-item.invariant.asked_and_paid, length_given labelled (map item_view c.args.items.now) c.loop-item.item-index)

pub returns-clause-paid : goal.returns-clause-paid
returns-clause-paid c =
    omega (arith, c.loop-item.invariant.asked_and_paid, length_given labelled (map item_view c.args.items.now) c.loop-item.item-index)
