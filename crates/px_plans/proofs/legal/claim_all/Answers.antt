use Rattle.std.proofs.Common.{refl, get_or, ◌∙◌, arith}
use Rattle.std.proofs.lemmas.Result.{err_from_is_err_and}
use Rattle.px_meaning.specs.declared.Dir.TheVariants.{Main}
use Rattle.px_layout.specs.declared.chunks.Chunk.TheVariants.{Table}
use Rattle.px_plans.specs.calls.Planned.{plan_of}
use Rattle.px_plans.specs.calls.Judging.{all_placed}
use Rattle.px_plans.proofs.plans.Holding.{left_more, left_stop, left_done}
use Rattle.px_plans.proofs.legal.claim_all.Goals as goal

pub loop-i-init : goal.loop-i-init
loop-i-init c = record { left = λ taken a. (taken, a, refl); memory = refl; capacity = omega arith; fits = λ h. refl }

pub returns-in_err-claim-clause-free : goal.returns-in_err-claim-clause-free
returns-in_err-claim-clause-free c =
    let p = err_from_is_err_and c.from_residual.result c.from_residual.ensures.1 in λ taken a. rw p.1 tt

pub returns-then-not-branch-clause-free : goal.returns-then-not-branch-clause-free
returns-then-not-branch-clause-free c = λ taken a.
    left_stop (plan_of c.args.plan.now) c.args.chunks.now c.loop-i.i (get_or c.args.chunks.now c.loop-i.i (Table Main, 0)) (Table Main, 0)
    c.loop-i.claimed.ranges c.claim.new.claimed.ranges (all_placed (plan_of c.args.plan.now) taken c.args.chunks.now) c.in_ok-claim.field-0
    c.loop-i-test.true refl c.if-not-branch.true c.in_ok-claim.ensures.free (c.loop-i.invariant.left taken a)

pub loop-i-preserved : goal.loop-i-preserved
loop-i-preserved c = record {
  left = λ taken a.
      left_more (plan_of c.args.plan.now) c.args.chunks.now c.loop-i.i (get_or c.args.chunks.now c.loop-i.i (Table Main, 0)) (Table Main, 0)
      c.loop-i.claimed.ranges c.claim.new.claimed.ranges (all_placed (plan_of c.args.plan.now) taken c.args.chunks.now) c.in_ok-claim.field-0
      c.loop-i-test.true refl c.if-not-branch.false c.in_ok-claim.ensures.free (c.loop-i.invariant.left taken a);
  memory = c.in_ok-claim.ensures.memory ∙ c.loop-i.invariant.memory;
  capacity = omega (arith, c.loop-i.invariant.capacity, c.in_ok-claim.ensures.capacity);
  fits = λ h. c.in_ok-claim.ensures.fits (omega (arith, h, c.loop-i.invariant.capacity)) ∙ c.loop-i.invariant.fits h;
}

pub returns-clause-free : goal.returns-clause-free
returns-clause-free c = λ taken a.
    left_done (plan_of c.args.plan.now) c.args.chunks.now c.loop-i.i c.loop-i.claimed.ranges
    (all_placed (plan_of c.args.plan.now) taken c.args.chunks.now)
    c.loop-i-test.false (c.loop-i.invariant.left taken a)

pub returns-in_err-claim-clause-fits : goal.returns-in_err-claim-clause-fits
returns-in_err-claim-clause-fits c = λ h.
    c.in_err-claim.ensures.fits (omega (arith, h, c.loop-i.invariant.capacity)) ∙ c.loop-i.invariant.fits h

pub returns-then-not-branch-clause-fits : goal.returns-then-not-branch-clause-fits
returns-then-not-branch-clause-fits c = λ h.
    c.in_ok-claim.ensures.fits (omega (arith, h, c.loop-i.invariant.capacity)) ∙ c.loop-i.invariant.fits h

pub returns-clause-fits : goal.returns-clause-fits
returns-clause-fits c = c.loop-i.invariant.fits
