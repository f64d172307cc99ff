use Rattle.std.proofs.Common.{◌∙◌, length, arith, sym, ap}
use Rattle.std.proofs.lemmas.List.{length-map}
use Rattle.px_iim.specs.Group.{Record}
use Rattle.px_iim.specs.calls.View.{item_view, part_view}
use Rattle.px_iim.specs.Asking.{dataset_count}
use Rattle.px_text.proofs.Parts.{count_next}
use Rattle.px_text.proofs.dataset_lines.count_datasets.Goals as goal

pub loop-items-init : goal.loop-items-init
loop-items-init c =
    let all = c.into_iter-items-iterator.ensures.into_iter_gives ∙ c.iter-items-items.ensures.all in
    record {
      count = omega (arith, ap dataset_count all);
      bound = omega (arith, ap (λ (i : Record). length i) all);
    }

pub loop-items-preserved : goal.loop-items-preserved
loop-items-preserved c =
    let x = part_view (c.in-Some.field-0-0, c.in-Some.field-0-1, c.in-Some.items) in
    let step = ap (λ (i : Record). length i) c.in-Some.ensures.steps in
    record {
      count = count_next c.loop-items.items-iterator c.next.new.self x c.in-Some.ensures.steps c.count_group.result c.loop-items.count
          (dataset_count c.args.iim.now) c.loop-items.invariant.count
          (c.count_group.ensures ∙ sym (length-map c.in-Some.items.now item_view));
      bound = omega (arith, c.loop-items.invariant.bound, step);
    }

pub returns : goal.returns
returns c = omega (arith, c.loop-items.invariant.count, ap dataset_count c.in-None.ensures.steps.0)
