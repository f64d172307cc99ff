use Rattle.std.proofs.Common.{◌≡◌, ◌≤◌, ◌∙◌, length, ap, refl, arith}
use Rattle.std.proofs.lemmas.Bool.{both_ways}
use Rattle.std.specs.Prelude.{false}
use Rattle.px_bytes.specs.Parts.{limit}
use Rattle.px_meaning.specs.calls.Seen.{meaning_of}
use Rattle.px_layout.specs.Chunks.{chunks}
use Rattle.px_plans.specs.calls.Planned.{plan_of}
use Rattle.px_plans.proofs.plans.Verdicts.{as_many, plan_verdicts}
use Rattle.px_plans.proofs.legal.is_legal_in.Goals as goal

pub returns-then-count-len-clause-legal : goal.returns-then-count-len-clause-legal
returns-then-count-len-clause-legal c = (
  λ h. absurd (both_ways false refl h),
  λ l.
      let many = as_many (meaning_of c.args.m.now) c.requires (plan_of c.args.plan.now) c.count.result c.count.ensures l in
      let same = ap (λ xs. length xs) c.in_ok-chunks.ensures.chunks in
      absurd (omega arith),
)

pub returns-clause-legal : goal.returns-clause-legal
returns-clause-legal c =
    let all : c.deref.result.now ≡ chunks (meaning_of c.args.m.now) = c.deref.ensures.value ∙ c.in_ok-chunks.ensures.chunks in
    let least : 8 ≤ (plan_of c.args.plan.now).length = omega arith in
    let most : (plan_of c.args.plan.now).length ≤ limit = omega arith in
    let same : c.count.result ≡ length c.deref.result.now = omega arith in
    plan_verdicts (meaning_of c.args.m.now) c.requires (plan_of c.args.plan.now) c.count.result c.count.ensures c.are_apart.result
    c.deref.result.now least most same all c.are_apart.ensures.free
