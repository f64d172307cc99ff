use Rattle.std.proofs.Common.{◌≡◌, ◌≤◌, List, drop}
use Rattle.px_bytes.specs.Range.{Range, Agrees}
use Rattle.px_plans.specs.calls.Planned.{plan_of}
use Rattle.px_plans.specs.calls.Judging.{all_placed}
use Rattle.px_plans.proofs.legal.claim_all.Given as goal

-- the chunks left are legal exactly if all are, and no allocation failed; if there is space for all marks, nothing was asked for
abbrev pub invariant-loop-i : goal.invariant-loop-i
invariant-loop-i l = record {
  left : (taken : List Range) → Agrees taken l.initial.claimed.ranges → (now : List Range) × Agrees now l.claimed.ranges ×
      (all_placed (plan_of l.plan) now (drop l.i l.chunks) ≡ all_placed (plan_of l.plan) taken l.chunks);
  memory : l.memory.failed_allocations ≡ l.initial.memory.failed_allocations;
  capacity : l.initial.claimed.capacity ≤ l.claimed.capacity;
  fits : (plan_of l.plan).length ≤ l.initial.claimed.capacity → l.memory.asked ≡ l.initial.memory.asked;
}
