use Rattle.std.proofs.Common.{ℕ, subst, sym}
use Rattle.px_plans.specs.calls.Counted.{IsCount}
use Rattle.px_plans.specs.calls.Kept.{offset_in}
use Rattle.px_plans.proofs.plans.Counting.{count_none}
use Rattle.px_plans.proofs.plan.Plan.new_in.Goals as goal

pub invariant_of-result : goal.invariant_of-result
invariant_of-result c =
    record { counted = subst (λ (n : ℕ). IsCount n (offset_in c.new.result)) (sym c.new.ensures.size) (count_none _ c.new.ensures.none) }
