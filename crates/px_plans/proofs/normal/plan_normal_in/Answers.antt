use Rattle.std.proofs.Common.{ℕ, ◌≡◌, ◌∙◌, subst}
use Rattle.std.proofs.lemmas.Result.{err_from_is_err_and}
use Rattle.px_meaning.specs.calls.Seen.{meaning_of}
use Rattle.px_layout.specs.Chunks.{chunks}
use Rattle.px_plans.specs.declared.plan.Plan as program
use Rattle.px_plans.specs.calls.Planned.{plan_of}
use Rattle.px_plans.specs.calls.PlanningNormal.{Placed}
use Rattle.px_plans.proofs.plans.Lines.{placed_planned, plan_refused, write_alloc_failure}
use Rattle.px_plans.proofs.normal.plan_normal_in.Goals as goal

pub returns-in_err-len-clause-plan : goal.returns-in_err-len-clause-plan
returns-in_err-len-clause-plan c =
    let p = err_from_is_err_and c.from_residual-in_err-len.result c.from_residual-in_err-len.ensures.1 in
    let all : c.deref.result.now ≡ chunks (meaning_of c.args.m.now) = c.deref.ensures.value ∙ c.in_ok-chunks.ensures.chunks in
    rw (p.1, p.2) (plan_refused (meaning_of c.args.m.now) c.requires c.in_err-len.field-0.0
    (plan_of c.place_all.new.plan) c.deref.result.now
    all c.in_err-len.ensures.all)

pub returns-clause-plan : goal.returns-clause-plan
returns-clause-plan c =
    let all : c.deref.result.now ≡ chunks (meaning_of c.args.m.now) = c.deref.ensures.value ∙ c.in_ok-chunks.ensures.chunks in
    placed_planned (meaning_of c.args.m.now) c.requires (plan_of c.place_all.new.plan) (plan_of c.set_len.new.self) c.in_ok-len.len
    (subst (Placed (plan_of c.place_all.new.plan) c.in_ok-len.len) all c.in_ok-len.ensures.all) c.set_len.ensures

pub returns-in_err-len-clause-memory : goal.returns-in_err-len-clause-memory
returns-in_err-len-clause-memory c =
    let p = err_from_is_err_and c.from_residual-in_err-len.result c.from_residual-in_err-len.ensures.1 in
    rw (p.1, p.2) (write_alloc_failure ℕ program.Plan c.in_err-len.field-0.0 c.args.memory.now.failed_allocations
    c.chunk_sizes.new.memory.failed_allocations c.place_all.new.memory.failed_allocations c.in_ok-chunks.ensures.memory
    c.in_err-len.ensures.memory)
