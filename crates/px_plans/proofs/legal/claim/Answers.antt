use Rattle.std.proofs.Common.{◌+◌, ◌<◌, ◌≤◌, sym, ◌∙◌, arith}
use Rattle.px_plans.specs.calls.Planned.{plan_of}
use Rattle.px_plans.proofs.plans.Holding.{not_placed, chunk_beyond, chunk_within}
use Rattle.px_plans.proofs.legal.claim.Goals as goal

pub returns-in_default-clause-free : goal.returns-in_default-clause-free
returns-in_default-clause-free c = λ taken a.
    not_placed (plan_of c.args.plan.now) (c.args.chunk, c.args.size) taken c.args.claimed.now.ranges (sym c.offset.ensures ∙ c.in_default.is)

pub returns-then-size-len-clause-free : goal.returns-then-size-len-clause-free
returns-then-size-len-clause-free c =
    let l : (plan_of c.args.plan.now).length < c.in-Some.offset + c.args.size = omega arith in λ taken a.
    chunk_beyond (plan_of c.args.plan.now) (c.args.chunk, c.args.size) c.in-Some.offset taken c.args.claimed.now.ranges (sym c.offset.ensures
    ∙ c.in-Some.is) l

pub returns-then-from-size-clause-free : goal.returns-then-from-size-clause-free
returns-then-from-size-clause-free c =
    let l : (plan_of c.args.plan.now).length < c.in-Some.offset + c.args.size = omega arith in λ taken a.
    chunk_beyond (plan_of c.args.plan.now) (c.args.chunk, c.args.size) c.in-Some.offset taken c.args.claimed.now.ranges (sym c.offset.ensures
    ∙ c.in-Some.is) l

pub returns-clause-free : goal.returns-clause-free
returns-clause-free c =
    let l : c.in-Some.offset + c.args.size ≤ (plan_of c.args.plan.now).length = omega arith in
    let f = c.from.ensures in λ taken a.
    chunk_within (plan_of c.args.plan.now) (c.args.chunk, c.args.size) c.in-Some.offset taken c.add_in.new.self.ranges (sym c.offset.ensures
    ∙ c.in-Some.is) l
    c.add_in.result (c.add_in.ensures.listed taken a)
