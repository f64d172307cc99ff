use Rattle.std.proofs.Common.{ℕ, take, refl, subst, sym, ap, ◌∙◌, arith}
use Rattle.std.proofs.lemmas.List.{take_more, take_all}
use Rattle.std.proofs.lemmas.Result.{err_from_is_err_and}
use Rattle.px_meaning.specs.declared.Dir.TheVariants.{Main}
use Rattle.px_layout.specs.declared.chunks.Chunk.TheVariants.{Table}
use Rattle.px_layout.specs.Plans.{Plan}
use Rattle.px_plans.specs.calls.Planned.{plan_of}
use Rattle.px_plans.specs.calls.PlanningNormal.{Placed}
use Rattle.px_plans.proofs.plans.Lines.{placed_stopped, write_alloc_failure}
use Rattle.px_plans.proofs.normal.place_all.Goals as goal

pub loop-i-init : goal.loop-i-init
loop-i-init c = record {
  placed = record { ends = refl; most = omega arith; each = λ d. ap (λ (p : Plan). p.offset d) c.requires };
  memory = refl;
  paid = omega arith;
}

pub returns-in_err-at-clause-all : goal.returns-in_err-at-clause-all
returns-in_err-at-clause-all c =
    let p = err_from_is_err_and c.from_residual.result c.from_residual.ensures.1 in
    rw (p.1, p.2) (placed_stopped c.in_err-at.field-0.0 (plan_of c.loop-i.plan) (plan_of c.place_next.new.plan) c.loop-i.at c.loop-i.i
    c.args.chunks.now
    _ (Table Main, 0) c.loop-i.invariant.placed c.loop-i-test.true refl c.in_err-at.ensures.next)

pub returns-in_err-at-clause-memory : goal.returns-in_err-at-clause-memory
returns-in_err-at-clause-memory c =
    let p = err_from_is_err_and c.from_residual.result c.from_residual.ensures.1 in
    rw (p.1, p.2) (write_alloc_failure ℕ ℕ c.in_err-at.field-0.0 c.args.memory.now.failed_allocations c.loop-i.memory.failed_allocations
    c.place_next.new.memory.failed_allocations c.loop-i.invariant.memory c.in_err-at.ensures.memory)

pub loop-i-preserved : goal.loop-i-preserved
loop-i-preserved c = record {
  placed = subst (Placed (plan_of c.place_next.new.plan) c.in_ok-at.at)
      (sym (take_more c.args.chunks.now c.loop-i.i (Table Main, 0) c.loop-i-test.true))
      (c.in_ok-at.ensures.next (take c.loop-i.i c.args.chunks.now) c.loop-i.invariant.placed);
  memory = c.in_ok-at.ensures.memory ∙ c.loop-i.invariant.memory;
  paid = omega (arith, c.in_ok-at.ensures.paid, c.loop-i.invariant.paid);
}

pub returns-clause-all : goal.returns-clause-all
returns-clause-all c =
    subst (Placed (plan_of c.loop-i.plan) c.loop-i.at) (take_all c.loop-i.i c.args.chunks.now c.loop-i-test.false) c.loop-i.invariant.placed

pub returns-clause-memory : goal.returns-clause-memory
returns-clause-memory c = c.loop-i.invariant.memory
