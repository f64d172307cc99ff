use Rattle.std.proofs.Common.{◌≡◌, ◌∙◌, ℕ, List, map, take, arith, subst, rules}
use Rattle.std.specs.List.{flat_map}
use Rattle.std.proofs.lemmas.List.{take_all, length-map}
use Rattle.std.proofs.lemmas.Result.{err_from_is_err_and}
use Rattle.px_bytes.specs.Waiting.{◌⊕◌, Owes}
use Rattle.px_bytes.specs.lemmas.WaitingLaws.{owed_more, owed_stop}
use Rattle.px_iim.specs.calls.View.{item_view}
use Rattle.px_text.proofs.Chains.{owes_as, prefix_as}
use Rattle.px_text.proofs.Parts.{read_at, item_lines, lines_items}
use Rattle.px_text.proofs.caption_lines.put_group.Goals as goal

pub returns-in_err-put_item : goal.returns-in_err-put_item
returns-in_err-put_item g c =
    let p = err_from_is_err_and c.from_residual.result c.from_residual.ensures.1 in
    rw p.1 (
      prefix_as _ _ c.args.pending.now _ _ (lines_items (map item_view c.args.items.now)) (owed_stop item_lines (map item_view
          c.args.items.now) c.loop-item.item-index _ (read_at item_view c.args.items.now c.loop-item.item-index _ c.loop-item-test.true)
          _ _ _ c.args.pending.now c.loop-item.pending c.loop-item.invariant.owes c.in_err-put_item.ensures.0),
      search rules,
    )

pub loop-item-preserved : goal.loop-item-preserved
loop-item-preserved g c = record {
  owes = owed_more item_lines (map item_view c.args.items.now) c.loop-item.item-index _ (read_at item_view c.args.items.now
      c.loop-item.item-index _ c.loop-item-test.true)
      _ _ _ c.args.pending.now c.loop-item.pending c.put_item.new.pending c.loop-item.invariant.owes c.in_ok-put_item.ensures.0;
  count = c.in_ok-put_item.ensures.1 ∙ c.loop-item.invariant.count;
}

pub returns : goal.returns
returns g c =
    let xs = map item_view c.args.items.now in
    let all : take c.loop-item.item-index xs ≡ xs = take_all c.loop-item.item-index xs (omega (
      arith,
      length-map c.args.items.now
          item_view,
    )) in (
      owes_as _ _ c.args.pending.now c.loop-item.pending _ _ (lines_items xs)
          (subst (λ (ys : List (ℕ × List ℕ)). Owes (g.W.Sink.bytes_taken c.args.writer.now) (g.W.Sink.bytes_taken c.loop-item.writer)
          c.loop-item.pending (c.args.pending.now ⊕ flat_map item_lines ys)) all c.loop-item.invariant.owes),
      search rules,
    )
