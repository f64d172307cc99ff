use Rattle.std.proofs.Common.{◌≡◌, ◌≤◌, ◌+◌, take}
use Rattle.px_plans.specs.Asking.{place_request}
use Rattle.px_plans.specs.calls.Planned.{plan_of, paid_of}
use Rattle.px_plans.specs.calls.PlanningNormal.{Placed}
use Rattle.px_plans.proofs.normal.place_all.Given as goal

-- the chunks so far follow one another and have paid, and no allocation failed
abbrev pub invariant-loop-i : goal.invariant-loop-i
invariant-loop-i l = record {
  placed : Placed (plan_of l.plan) l.at (take l.i l.chunks);
  memory : l.memory.failed_allocations ≡ l.initial.memory.failed_allocations;
  paid : l.memory.asked + paid_of l.plan ≤ l.initial.memory.asked + paid_of l.initial.plan + place_request l.i;
}
