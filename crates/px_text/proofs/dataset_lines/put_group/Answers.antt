use Rattle.std.proofs.Common.{◌∙◌, map, [], refl, arith}
use Rattle.std.proofs.lemmas.List.{length-map}
use Rattle.std.proofs.lemmas.Result.{err_from_is_err_and}
use Rattle.px_bytes.specs.lemmas.WaitingLaws.{owed_more, owed_stop}
use Rattle.px_iim.specs.calls.View.{item_view}
use Rattle.px_text.specs.Listing.{dataset_line}
use Rattle.px_text.proofs.Parts.{read_at}
use Rattle.px_text.proofs.Chains.{all_put, can_fail, failures_suc, none_yet}
use Rattle.px_text.proofs.dataset_lines.put_group.Goals as goal

pub returns-in_err-put_dataset : goal.returns-in_err-put_dataset
returns-in_err-put_dataset g c =
    let p = err_from_is_err_and c.from_residual.result c.from_residual.ensures.1 in
    rw p.1 (
      owed_stop (dataset_line c.args.rec) (map item_view c.args.items.now) c.loop-item.item-index _ (read_at item_view
          c.args.items.now c.loop-item.item-index _ c.loop-item-test.true)
          _ _ _ c.args.pending.now c.loop-item.pending c.loop-item.invariant.owes c.in_err-put_dataset.ensures.0,
      failures_suc _ _ _ c.loop-item.invariant.count c.in_err-put_dataset.ensures.1,
    )

pub loop-item-preserved : goal.loop-item-preserved
loop-item-preserved g c = record {
  owes = owed_more (dataset_line c.args.rec) (map item_view c.args.items.now) c.loop-item.item-index _ (read_at item_view
      c.args.items.now c.loop-item.item-index _ c.loop-item-test.true)
      _ _ _ c.args.pending.now c.loop-item.pending c.put_dataset.new.pending c.loop-item.invariant.owes c.in_ok-put_dataset.ensures.0;
  count = c.in_ok-put_dataset.ensures.1 ∙ c.loop-item.invariant.count;
}

pub put_dataset-requires : goal.put_dataset-requires
put_dataset-requires g c = can_fail _ _ c.loop-item.invariant.count c.requires

pub returns : goal.returns
returns g c =
    let xs = map item_view c.args.items.now in (
      all_put (dataset_line c.args.rec) xs c.loop-item.item-index (omega (arith, length-map c.args.items.now item_view))
          _ _ c.args.pending.now c.loop-item.pending c.loop-item.invariant.owes,
      c.loop-item.invariant.count,
    )

pub loop-item-init : goal.loop-item-init
loop-item-init g c = record { owes = none_yet _ c.args.pending.now [] refl; count = refl }
