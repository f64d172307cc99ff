use Rattle.std.proofs.Common.{vec_len, vec_capacity, ℕ, List, map, length, ◌+◌, ◌++◌, ◌∙◌, ap, arith}
use Rattle.std.specs.Prelude.{filter_map}
use Rattle.std.proofs.lemmas.Option.{slice_get-get_or}
use Rattle.px_text.specs.Captions.{labelled, group_captions, caption_groups, iim_captions}
use Rattle.px_text.specs.calls.CaptionView.{caption_view}
use Rattle.px_text.specs.calls.AskedAndPaid.{asked_and_paid}
use Rattle.px_text.proofs.Parts.{parts_more, asked_more, length_parts}
use Rattle.px_text.proofs.captions_in.push_record.Goals as goal

pub loop-i-preserved : goal.loop-i-preserved
loop-i-preserved c = record {
  list =
      parts_more caption_groups c.loop-i.i _ (slice_get-get_or caption_groups c.loop-i.i 0 c.loop-i-test.true)
      (group_captions c.args.iim.now)
      (map caption_view c.args.list.now.items) (map caption_view c.loop-i.list.items) (map caption_view c.push_group.new.list.items)
      c.loop-i.invariant.list
      (c.in_ok-push_group.ensures.list ∙ ap (λ (l : List (ℕ × List ℕ)). map caption_view c.loop-i.list.items
      ++ filter_map labelled l) c.group.ensures);
  memory = c.in_ok-push_group.ensures.memory ∙ c.loop-i.invariant.memory;
  asked_and_paid =
      let group = ap (λ (l : List (ℕ × List ℕ)). length (filter_map labelled l)) c.group.ensures in
      asked_more caption_groups c.loop-i.i _ (slice_get-get_or caption_groups c.loop-i.i 0 c.loop-i-test.true)
      (group_captions c.args.iim.now) (asked_and_paid c.args.memory.now (vec_len c.args.list.now) (vec_capacity c.args.list.now)) (asked_and_paid c.loop-i.memory (vec_len c.loop-i.list) (vec_capacity c.loop-i.list))
      (asked_and_paid c.push_group.new.memory (vec_len c.push_group.new.list) (vec_capacity c.push_group.new.list))
      c.loop-i.invariant.asked_and_paid (omega (arith, c.in_ok-push_group.ensures.paid, group));
}

pub returns-in_err-push_group-clause-asked : goal.returns-in_err-push_group-clause-asked
unfolding iim_captions
returns-in_err-push_group-clause-asked c =
    let group = ap (λ (l : List (ℕ × List ℕ)). length (filter_map labelled l)) c.group.ensures in
    let more =
    asked_more caption_groups c.loop-i.i _ (slice_get-get_or caption_groups c.loop-i.i 0 c.loop-i-test.true)
    (group_captions c.args.iim.now) (asked_and_paid c.args.memory.now (vec_len c.args.list.now) (vec_capacity c.args.list.now)) (asked_and_paid c.loop-i.memory (vec_len c.loop-i.list) (vec_capacity c.loop-i.list)) c.push_group.new.memory.asked
    c.loop-i.invariant.asked_and_paid (omega (arith, c.in_err-push_group.ensures.asked, group)) in
    omega (arith, more, length_parts (group_captions c.args.iim.now) caption_groups (c.loop-i.i + 1))

pub returns-clause-asked : goal.returns-clause-asked
unfolding iim_captions
returns-clause-asked c =
    omega (arith, c.loop-i.invariant.asked_and_paid, length_parts (group_captions c.args.iim.now) caption_groups c.loop-i.i)

pub returns-clause-paid : goal.returns-clause-paid
unfolding iim_captions
returns-clause-paid c =
    omega (arith, c.loop-i.invariant.asked_and_paid, length_parts (group_captions c.args.iim.now) caption_groups c.loop-i.i)
