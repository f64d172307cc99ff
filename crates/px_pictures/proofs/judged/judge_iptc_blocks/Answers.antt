use Rattle.std.proofs.Common.{◌≡◌, ◌+◌, ℕ, List, ◌∷◌, refl, ap, subst, arith, length}
use Rattle.px_pictures.specs.Faults.{AllIptc, FaultAt, IsFaultyIptc}
use Rattle.px_pictures.proofs.JudgeLaws.{iptc_none, iptc_more, iptc_fails, fault_later}
use Rattle.px_pictures.proofs.judged.judge_iptc_blocks.Goals as goal

pub returns-in_default-clause-meaning : goal.returns-in_default-clause-meaning
returns-in_default-clause-meaning c = c.loop-block.invariant.meaning (iptc_none c.loop-block.left c.in_default.ensures.steps.0)

pub returns-in-Err-clause-fault : goal.returns-in-Err-clause-fault
returns-in-Err-clause-fault c =
    iptc_fails c.args.blocks c.loop-block.left c.next.new.self c.in-Some.block.now c.loop-block.number c.in-Err.refusal c.fault_of.result
    c.fault_of.ensures c.in-Some.ensures.steps c.in-Err.ensures.judged (c.in-Err.ensures.is_fault 0) c.loop-block.invariant.fault

pub loop-block-preserved : goal.loop-block-preserved
loop-block-preserved c = record {
  meaning = λ h. c.loop-block.invariant.meaning
      (iptc_more c.loop-block.left c.next.new.self c.in-Some.block.now c.in-Some.ensures.steps c.in-Ok.ensures.judged.1 h);
  fault = λ n d p h.
      let same : c.loop-block.number + (1 + n) ≡ c.loop-block.number + 1 + n = omega arith in
      subst (λ (k : ℕ). FaultAt AllIptc IsFaultyIptc c.args.blocks k d p) same
      (c.loop-block.invariant.fault (1 + n) d p
      (fault_later AllIptc IsFaultyIptc c.loop-block.left c.next.new.self c.in-Some.block.now n d p c.in-Some.ensures.steps
      (λ before g. iptc_more (c.in-Some.block.now ∷ before) before c.in-Some.block.now refl c.in-Ok.ensures.judged.1 g) h));
  few = omega (arith, c.loop-block.invariant.few, ap (λ (xs : List (List ℕ)). length xs) c.in-Some.ensures.steps);
}
