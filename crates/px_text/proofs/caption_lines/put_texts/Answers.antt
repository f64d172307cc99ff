use Rattle.std.proofs.Common.{◌∙◌, ℕ, arith, rules}
use Rattle.std.proofs.lemmas.Result.{err_from_is_err_and}
use Rattle.std.proofs.lemmas.Option.{slice_get-get_or}
use Rattle.px_bytes.specs.lemmas.WaitingLaws.{owed_more, owed_stop}
use Rattle.px_text.specs.declared.labels.Label.{Label}
use Rattle.px_text.specs.Captions.{tag_captions, caption_texts, caption_lines}
use Rattle.px_text.proofs.Chains.{all_put, owes_as, prefix_as}
use Rattle.px_text.proofs.Parts.{text_lines_whole}
use Rattle.px_text.proofs.caption_lines.put_texts.Goals as goal

pub returns-in_err-put_text : goal.returns-in_err-put_text
returns-in_err-put_text g c =
    let p = err_from_is_err_and c.from_residual.result c.from_residual.ensures.1 in
    rw p.1 (
      prefix_as _ _ c.args.pending.now _ _ (text_lines_whole c.args.fields.now) (owed_stop (λ (t : ℕ × Label). caption_lines (tag_captions
          c.args.fields.now t)) caption_texts c.loop-i.i _ (slice_get-get_or caption_texts c.loop-i.i _ c.loop-i-test.true)
          _ _ _ c.args.pending.now c.loop-i.pending c.loop-i.invariant.owes c.in_err-put_text.ensures.0),
      search rules,
    )

pub loop-i-preserved : goal.loop-i-preserved
loop-i-preserved g c = record {
  owes = owed_more (λ (t : ℕ × Label). caption_lines (tag_captions c.args.fields.now t)) caption_texts c.loop-i.i _ (slice_get-get_or
      caption_texts c.loop-i.i _ c.loop-i-test.true)
      _ _ _ c.args.pending.now c.loop-i.pending c.put_text.new.pending c.loop-i.invariant.owes c.in_ok-put_text.ensures.0;
  count = c.in_ok-put_text.ensures.1 ∙ c.loop-i.invariant.count;
}

pub returns : goal.returns
returns g c = (
  owes_as _ _ c.args.pending.now c.loop-i.pending _ _ (text_lines_whole c.args.fields.now)
      (all_put (λ (t : ℕ × Label). caption_lines (tag_captions c.args.fields.now t)) caption_texts c.loop-i.i
      (omega (arith, c.loop-i-test.false)) _ _ c.args.pending.now c.loop-i.pending c.loop-i.invariant.owes),
  search rules,
)
