use Rattle.std.proofs.Common.{vec_len, vec_capacity, map, ◌+◌, ◌∙◌, arith}
use Rattle.std.proofs.lemmas.Option.{slice_get-get_or}
use Rattle.px_text.specs.Captions.{tag_captions, caption_texts, exif_captions}
use Rattle.px_text.specs.calls.CaptionView.{caption_view}
use Rattle.px_text.specs.calls.AskedAndPaid.{asked_and_paid}
use Rattle.px_text.proofs.Parts.{parts_more, asked_more, length_parts}
use Rattle.px_text.proofs.captions_in.push_texts.Goals as goal

pub loop-i-preserved : goal.loop-i-preserved
loop-i-preserved c = record {
  list =
      parts_more caption_texts c.loop-i.i _ (slice_get-get_or caption_texts c.loop-i.i _ c.loop-i-test.true)
      (tag_captions c.args.fields.now)
      (map caption_view c.args.list.now.items) (map caption_view c.loop-i.list.items) (map caption_view c.push_text.new.list.items)
      c.loop-i.invariant.list c.in_ok-push_text.ensures.list;
  memory = c.in_ok-push_text.ensures.memory ∙ c.loop-i.invariant.memory;
  asked_and_paid =
      asked_more caption_texts c.loop-i.i _ (slice_get-get_or caption_texts c.loop-i.i _ c.loop-i-test.true)
      (tag_captions c.args.fields.now) (asked_and_paid c.args.memory.now (vec_len c.args.list.now) (vec_capacity c.args.list.now)) (asked_and_paid c.loop-i.memory (vec_len c.loop-i.list) (vec_capacity c.loop-i.list))
      (asked_and_paid c.push_text.new.memory (vec_len c.push_text.new.list) (vec_capacity c.push_text.new.list))
      c.loop-i.invariant.asked_and_paid c.in_ok-push_text.ensures.paid;
}

pub returns-in_err-push_text-clause-asked : goal.returns-in_err-push_text-clause-asked
unfolding exif_captions
returns-in_err-push_text-clause-asked c =
    let more =
    asked_more caption_texts c.loop-i.i _ (slice_get-get_or caption_texts c.loop-i.i _ c.loop-i-test.true)
    (tag_captions c.args.fields.now) (asked_and_paid c.args.memory.now (vec_len c.args.list.now) (vec_capacity c.args.list.now)) (asked_and_paid c.loop-i.memory (vec_len c.loop-i.list) (vec_capacity c.loop-i.list)) c.push_text.new.memory.asked
    c.loop-i.invariant.asked_and_paid c.in_err-push_text.ensures.asked in
    omega (arith, more, length_parts (tag_captions c.args.fields.now) caption_texts (c.loop-i.i + 1))

pub returns-clause-asked : goal.returns-clause-asked
unfolding exif_captions
returns-clause-asked c =
    omega (arith, c.loop-i.invariant.asked_and_paid, length_parts (tag_captions c.args.fields.now) caption_texts c.loop-i.i)

pub returns-clause-paid : goal.returns-clause-paid
unfolding exif_captions
returns-clause-paid c =
    omega (arith, c.loop-i.invariant.asked_and_paid, length_parts (tag_captions c.args.fields.now) caption_texts c.loop-i.i)
