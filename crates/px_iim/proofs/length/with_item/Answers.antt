use Rattle.std.proofs.Common.{arith}
use Rattle.px_iim.specs.calls.View.{item_view}
use Rattle.px_iim.specs.lemmas.BoundLaws.{length_normal_dataset}
use Rattle.px_iim.proofs.writing.Writes.{within_past, within_some}
use Rattle.px_iim.proofs.length.with_item.Goals as goal

pub returns-then-longer-gt-MOST : goal.returns-then-longer-gt-MOST
returns-then-longer-gt-MOST c =
    within_past _ (let e = length_normal_dataset 0 (item_view c.args.item.now) in omega (arith, c.head_len.ensures.value))

pub returns : goal.returns
returns c = let e = length_normal_dataset 0 (item_view c.args.item.now) in
    within_some _ _ (omega (arith, c.head_len.ensures.value)) (omega (arith, c.head_len.ensures.value))
