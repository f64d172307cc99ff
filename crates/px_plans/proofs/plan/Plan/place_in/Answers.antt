use Rattle.std.proofs.Common.{◌≡◌, None, rules}
use Rattle.px_plans.specs.calls.Kept.{offset_in, size_in}
use Rattle.px_plans.proofs.plans.Counting.{count_put}
use Rattle.px_plans.proofs.plan.Plan.place_in.Goals as goal

pub invariant_of-self : goal.invariant_of-self
invariant_of-self c =
    let none : offset_in c.args.self.now.offsets c.args.chunk ≡ None = search rules in
    let p = c.put.ensures in
    record {
      counted =
          count_put c.put.result (size_in c.args.self.now.offsets) (size_in c.put.new.self) (offset_in c.args.self.now.offsets)
          (offset_in c.put.new.self) c.args.chunk c.args.offset
          c.args.self.now.counted none p.ok p.err p.size p.kept;
    }
