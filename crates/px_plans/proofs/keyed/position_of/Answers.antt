use Rattle.std.proofs.Common.{◌≡◌, ◌<◌, ◌-◌, ◌+◌, ◌/◌, length, slice_index, get_or, arith}
use Rattle.px_plans.specs.calls.Keyed.{keys}
use Rattle.px_plans.proofs.plans.Keyed.{key_at, below_middle, above_middle}
use Rattle.px_plans.proofs.keyed.position_of.Goals as goal

pub loop-low-preserved-then-here-key-2 : goal.loop-low-preserved-then-here-key-2
loop-low-preserved-then-here-key-2 c =
    let m = c.loop-low.low + (c.loop-low.high - c.loop-low.low) / 2 in
    let inside : m < length c.args.list.now = omega (arith, c.loop-low.invariant.inside) in
    let here : (get_or c.args.list.now m (0, 0)).0 ≡ slice_index (keys c.args.list.now) m = key_at c.args.list.now m (0, 0) inside in
    let small : slice_index (keys c.args.list.now) m < c.args.key = omega arith in
    record {
      order = omega arith;
      inside = omega arith;
      below = below_middle c.args.list.now c.args.key m c.requires inside small;
      above = c.loop-low.invariant.above;
    }

pub loop-low-preserved : goal.loop-low-preserved
loop-low-preserved c =
    let m = c.loop-low.low + (c.loop-low.high - c.loop-low.low) / 2 in
    let inside : m < length c.args.list.now = omega (arith, c.loop-low.invariant.inside) in
    let here : (get_or c.args.list.now m (0, 0)).0 ≡ slice_index (keys c.args.list.now) m = key_at c.args.list.now m (0, 0) inside in
    let great : c.args.key < slice_index (keys c.args.list.now) m = omega arith in
    record {
      order = omega arith;
      inside = omega arith;
      below = c.loop-low.invariant.below;
      above = above_middle c.args.list.now c.args.key m c.requires inside great;
    }
