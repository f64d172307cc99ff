use Rattle.std.proofs.Common.{map, length, ◌∙◌, ◌≤◌, rules}
use Rattle.std.proofs.lemmas.Result.{err_from_is_err_and}
use Rattle.px_bytes.specs.Parts.{limit}
use Rattle.px_iim.specs.Record.{normal_dataset}
use Rattle.px_iim.specs.calls.View.{item_view}
use Rattle.px_iim.proofs.writing.Writes.{item_read, all_at}
use Rattle.px_bytes.specs.lemmas.WaitingLaws.{loop_more, loop_stop}
use Rattle.px_iim.proofs.write.put_group.Goals as goal

pub put_item-requires-clause-short : goal.put_item-requires-clause-short
put_item-requires-clause-short g c =
    all_at (normal_dataset 0) (map item_view c.args.items.now) c.loop-item.item-index _
    (item_read c.args.items.now c.loop-item.item-index _ c.loop-item-test.true) (λ x. length x.1 ≤ limit) c.requires.short

pub returns-in_err-put_item : goal.returns-in_err-put_item
returns-in_err-put_item g c =
    let p = err_from_is_err_and c.from_residual.result c.from_residual.ensures.1 in
    rw p.1 (
      loop_stop g.W.Sink.bytes_taken (normal_dataset c.args.rec) (map item_view c.args.items.now) c.loop-item.item-index _
          (item_read c.args.items.now c.loop-item.item-index _ c.loop-item-test.true)
          _ _ _ c.args.pending.now c.loop-item.pending c.loop-item.invariant.put c.in_err-put_item.ensures.0,
      search rules,
    )

pub loop-item-preserved : goal.loop-item-preserved
loop-item-preserved g c = record {
  put = loop_more g.W.Sink.bytes_taken (normal_dataset c.args.rec) (map item_view c.args.items.now) c.loop-item.item-index _
      (item_read c.args.items.now c.loop-item.item-index _ c.loop-item-test.true)
      _ _ _ c.args.pending.now c.loop-item.pending c.put_item.new.pending c.loop-item.invariant.put c.in_ok-put_item.ensures.0;
  count = c.in_ok-put_item.ensures.1 ∙ c.loop-item.invariant.count;
}
