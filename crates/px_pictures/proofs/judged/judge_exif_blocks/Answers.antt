use Rattle.std.proofs.Common.{◌≡◌, ◌+◌, ℕ, List, ◌∷◌, refl, ap, ◌∙◌, subst, arith, length}
use Rattle.px_tree.specs.Refused.{IsFaultyExif}
use Rattle.px_pictures.specs.declared.faults.MetadataKind.TheVariants as kind
use Rattle.px_pictures.specs.Asking.{exif_requests}
use Rattle.px_pictures.specs.Faults.{AllExif, FaultAt}
use Rattle.px_pictures.proofs.JudgeLaws.{exif_none, exif_more, exif_fails, fault_later, fault_alloc_failure}
use Rattle.px_pictures.proofs.judged.judge_exif_blocks.Goals as goal

pub returns-in_default-clause-meaning : goal.returns-in_default-clause-meaning
returns-in_default-clause-meaning c = c.loop-block.invariant.meaning (exif_none c.loop-block.left c.in_default.ensures.steps.0)

pub returns-in-Err-clause-fault : goal.returns-in-Err-clause-fault
returns-in-Err-clause-fault c =
    exif_fails c.args.blocks c.loop-block.left c.next.new.self c.in-Some.block.now c.loop-block.number
    c.judge_exif.new.memory.failed_allocations
    c.in-Err.refusal c.fault_of.result c.fault_of.ensures c.in-Some.ensures.steps c.in-Err.ensures.refused c.loop-block.invariant.fault

pub returns-in-Err-clause-memory : goal.returns-in-Err-clause-memory
returns-in-Err-clause-memory c =
    fault_alloc_failure kind.Exif c.loop-block.number c.in-Err.refusal c.fault_of.result _ _ c.fault_of.ensures
    (let same = c.loop-block.invariant.failed_allocations in rw (← same) c.in-Err.ensures.memory)

pub loop-block-preserved : goal.loop-block-preserved
loop-block-preserved c = record {
  meaning = λ h. c.loop-block.invariant.meaning
      (exif_more c.loop-block.left c.next.new.self c.in-Some.block.now c.in-Some.ensures.steps c.in-Ok.ensures.meaning h);
  fault = λ n d p h.
      let same : c.loop-block.number + (1 + n) ≡ c.loop-block.number + 1 + n = omega arith in
      subst (λ (k : ℕ). FaultAt AllExif IsFaultyExif c.args.blocks k d p) same
      (c.loop-block.invariant.fault (1 + n) d p
      (fault_later AllExif IsFaultyExif c.loop-block.left c.next.new.self c.in-Some.block.now n d p c.in-Some.ensures.steps
      (λ before g. exif_more (c.in-Some.block.now ∷ before) before c.in-Some.block.now refl c.in-Ok.ensures.meaning g) h));
  few = omega (arith, c.loop-block.invariant.few, ap (λ (xs : List (List ℕ)). length xs) c.in-Some.ensures.steps);
  failed_allocations = c.in-Ok.ensures.memory ∙ c.loop-block.invariant.failed_allocations;
  asked = omega (arith, c.loop-block.invariant.asked, c.in-Ok.ensures.asked, ap exif_requests c.in-Some.ensures.steps);
}
