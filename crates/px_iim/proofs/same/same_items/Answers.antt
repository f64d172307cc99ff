use Rattle.std.proofs.Common.{◌<◌, length, map, get_or, arith}
use Rattle.px_iim.specs.calls.View.{item_view}
use Rattle.px_iim.proofs.writing.Writes.{no_item, item_read}
use Rattle.px_iim.proofs.writing.Alike.{same_more, same_at}
use Rattle.px_iim.proofs.same.same_items.Goals as goal

pub returns-then-not-same_item : goal.returns-then-not-same_item
returns-then-not-same_item c = λ e.
    let i = c.loop-i.i in
    let there : i < length c.args.second.now = omega (arith, c.if-first-second.false, c.loop-i-test.true) in
    c.if-not-same_item.ensures (same_at (map item_view c.args.first.now) (map item_view c.args.second.now) i
    (item_view (get_or c.args.first.now i no_item)) (item_view (get_or c.args.second.now i no_item))
    (item_read c.args.first.now i no_item c.loop-i-test.true) (item_read c.args.second.now i no_item there) e)

pub loop-i-preserved : goal.loop-i-preserved
loop-i-preserved c =
    let i = c.loop-i.i in
    let there : i < length c.args.second.now = omega (arith, c.if-first-second.false, c.loop-i-test.true) in
    same_more (map item_view c.args.first.now) (map item_view c.args.second.now) i (item_view (get_or c.args.first.now i no_item))
    (item_view (get_or c.args.second.now i no_item))
    (item_read c.args.first.now i no_item c.loop-i-test.true) (item_read c.args.second.now i no_item there) c.loop-i.invariant
    c.if-not-same_item.ensures
