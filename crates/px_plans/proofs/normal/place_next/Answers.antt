use Rattle.px_plans.specs.calls.Planned.{plan_of}
use Rattle.px_plans.proofs.plans.Lines.{next_placed}
use Rattle.px_plans.proofs.normal.place_next.Goals as goal

pub returns-clause-next : goal.returns-clause-next
returns-clause-next c =
    let e = c.in-Some.ensures in
    let p = c.in_ok-place_in.ensures in
    next_placed (plan_of c.args.plan.now) (plan_of c.place_in.new.self) c.args.chunk c.args.size c.args.at c.in-Some.end
    c.in_ok-place_in.field-0 e.0 e.1 p.placed p.there p.after
