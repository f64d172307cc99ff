use Rattle.std.proofs.Common.{◌≤◌, ◌+◌, ◌∙◌, length, map, get_or, arith}
use Rattle.std.proofs.lemmas.Result.{err_from_is_err_and}
use Rattle.px_bytes.specs.Parts.{limit}
use Rattle.px_iim.specs.Record.{normal_dataset}
use Rattle.px_iim.specs.calls.View.{item_view}
use Rattle.px_iim.proofs.writing.Writes.{item_read, all_at, grows_more, grows_stop, length_more, length_parts, no_item}
use Rattle.px_iim.proofs.write.append_group.Goals as goal

pub append_item-requires-clause-few : goal.append_item-requires-clause-few
append_item-requires-clause-few c =
    all_at (normal_dataset 0) (map item_view c.args.items.now) c.loop-item.item-index _
    (item_read c.args.items.now c.loop-item.item-index _ c.loop-item-test.true) (λ x. length x.1 ≤ limit) c.requires.short

pub returns-in_err-append_item-clause-grown : goal.returns-in_err-append_item-clause-grown
returns-in_err-append_item-clause-grown c =
    let p = err_from_is_err_and c.from_residual.result c.from_residual.ensures.1 in
    rw p.1 (grows_stop c.args.out.now.items c.loop-item.out.items c.append_item.new.out.items _ c.loop-item.invariant.grown
    c.in_err-append_item.ensures.grown)

pub append_item-requires-clause-space : goal.append_item-requires-clause-space
append_item-requires-clause-space c =
    let f = normal_dataset c.args.rec in
    let xs = map item_view c.args.items.now in
    let i = c.loop-item.item-index in
    omega (
      arith,
      c.requires.space,
      c.loop-item.invariant.space,
      length_more f xs i (item_view (get_or c.args.items.now i no_item)) (item_read c.args.items.now i no_item c.loop-item-test.true),
      length_parts f xs (i + 1),
    )

pub returns-in_err-append_item-clause-space : goal.returns-in_err-append_item-clause-space
returns-in_err-append_item-clause-space c =
    let f = normal_dataset c.args.rec in
    let xs = map item_view c.args.items.now in
    let i = c.loop-item.item-index in
    omega (
      arith,
      c.loop-item.invariant.space,
      c.in_err-append_item.ensures.space,
      length_more f xs i (item_view (get_or c.args.items.now i no_item)) (item_read c.args.items.now i no_item c.loop-item-test.true),
      length_parts f xs (i + 1),
    )

pub returns-clause-space : goal.returns-clause-space
returns-clause-space c =
    omega (
      arith,
      c.loop-item.invariant.space,
      length_parts (normal_dataset c.args.rec) (map item_view c.args.items.now) c.loop-item.item-index,
    )

pub loop-item-preserved : goal.loop-item-preserved
loop-item-preserved c = record {
  grown = grows_more (normal_dataset c.args.rec) (map item_view c.args.items.now) c.loop-item.item-index _
      (item_read c.args.items.now c.loop-item.item-index _ c.loop-item-test.true)
      c.args.out.now.items c.loop-item.out.items c.append_item.new.out.items c.loop-item.invariant.grown c.in_ok-append_item.ensures.grown;
  memory = c.in_ok-append_item.ensures.memory ∙ c.loop-item.invariant.memory;
  asked = c.in_ok-append_item.ensures.asked ∙ c.loop-item.invariant.asked;
  space = omega (
    arith,
    c.loop-item.invariant.space,
    c.in_ok-append_item.ensures.space,
    length_more (normal_dataset c.args.rec) (map item_view c.args.items.now) c.loop-item.item-index
        (item_view (get_or c.args.items.now c.loop-item.item-index no_item))
        (item_read c.args.items.now c.loop-item.item-index no_item c.loop-item-test.true),
  );
}
