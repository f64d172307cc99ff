use Rattle.std.proofs.Common.{◌∙◌, ℕ, List, arith, ap, rules}
use Rattle.std.proofs.lemmas.Result.{err_from_is_err_and}
use Rattle.std.specs.Prelude.{filter_map}
use Rattle.std.proofs.lemmas.Option.{slice_get-get_or}
use Rattle.px_bytes.specs.lemmas.WaitingLaws.{owed_more, owed_stop}
use Rattle.px_text.specs.Captions.{labelled, group_captions, caption_groups, caption_lines}
use Rattle.px_text.proofs.Chains.{all_put, owes_as, prefix_as}
use Rattle.px_text.proofs.Parts.{group_lines_whole}
use Rattle.px_text.proofs.caption_lines.put_groups.Goals as goal

pub returns-in_err-put_group : goal.returns-in_err-put_group
returns-in_err-put_group g c =
    let p = err_from_is_err_and c.from_residual.result c.from_residual.ensures.1 in
    rw p.1 (
      prefix_as _ _ c.args.pending.now _ _ (group_lines_whole c.args.iim.now) (owed_stop (λ (n : ℕ). caption_lines (group_captions
          c.args.iim.now n)) caption_groups c.loop-i.i _ (slice_get-get_or caption_groups c.loop-i.i 0 c.loop-i-test.true)
          _ _ _ c.args.pending.now c.loop-i.pending c.loop-i.invariant.owes (prefix_as _ _ c.loop-i.pending _ _
          (ap (λ (l : List (ℕ × List ℕ)).
          caption_lines (filter_map labelled l)) c.group.ensures) c.in_err-put_group.ensures.0)),
      search rules,
    )

pub loop-i-preserved : goal.loop-i-preserved
loop-i-preserved g c = record {
  owes = owed_more (λ (n : ℕ). caption_lines (group_captions c.args.iim.now n)) caption_groups c.loop-i.i _ (slice_get-get_or
      caption_groups c.loop-i.i 0 c.loop-i-test.true)
      _ _ _ c.args.pending.now c.loop-i.pending c.put_group.new.pending c.loop-i.invariant.owes (owes_as _ _ c.loop-i.pending
      c.put_group.new.pending _ _ (ap (λ (l : List (ℕ × List ℕ)). caption_lines (filter_map labelled l)) c.group.ensures)
      c.in_ok-put_group.ensures.0);
  count = c.in_ok-put_group.ensures.1 ∙ c.loop-i.invariant.count;
}

pub returns : goal.returns
returns g c = (
  owes_as _ _ c.args.pending.now c.loop-i.pending _ _ (group_lines_whole c.args.iim.now)
      (all_put (λ (n : ℕ). caption_lines (group_captions c.args.iim.now n)) caption_groups c.loop-i.i (omega (arith, c.loop-i-test.false))
      _ _ c.args.pending.now c.loop-i.pending c.loop-i.invariant.owes),
  search rules,
)
