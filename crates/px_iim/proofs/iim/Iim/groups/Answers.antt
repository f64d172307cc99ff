use Rattle.std.proofs.Common.{length, ap, ◌∙◌, arith}
use Rattle.px_iim.specs.Group.{Record}
use Rattle.px_iim.proofs.reading.Order.{few_groups}
use Rattle.px_iim.proofs.iim.Iim.groups.Goals as goal

pub loop-init : goal.loop-init
loop-init c = omega (arith, ap (λ (i : Record). length i) (c.into_iter-iterator.ensures.into_iter_gives ∙ c.iter-items.ensures.all))

pub overflow_add-count : goal.overflow_add-count
overflow_add-count c =
    let step = ap (λ (i : Record). length i) c.in-Some.ensures.steps in
    let few = few_groups c.args.self.now c.iter-items.ensures.whole in
    record { fits = omega (arith, c.loop.invariant) }

pub loop-preserved : goal.loop-preserved
loop-preserved c =
    let step = ap (λ (i : Record). length i) c.in-Some.ensures.steps in
    omega (arith, c.loop.invariant)
