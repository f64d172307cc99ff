use Rattle.std.proofs.Common.{◌∙◌, arith}
use Rattle.px_layout.specs.lemmas.WalkLaws.{strips_more}
use Rattle.px_plans.proofs.plans.Asked.{strips_counted}
use Rattle.px_plans.proofs.sizing.push_strips.Goals as goal

pub loop-i-preserved : goal.loop-i-preserved
loop-i-preserved c = record {
  chunks = strips_more c.args.strips.now c.loop-i.i c.at.result.now c.loop-i.out.items c.push_chunk.new.out.items c.at.ensures
      c.in_ok-push_chunk.ensures.chunks ∙ c.loop-i.invariant.chunks;
  memory = c.in_ok-push_chunk.ensures.memory ∙ c.loop-i.invariant.memory;
  paid =
      omega (
        arith,
        c.loop-i.invariant.paid,
        c.in_ok-push_chunk.ensures.paid,
        strips_counted c.args.strips.now c.loop-i.i c.at.result.now c.at.ensures,
      );
}

pub returns-in_err-push_chunk-clause-asked : goal.returns-in_err-push_chunk-clause-asked
returns-in_err-push_chunk-clause-asked c =
    omega (
      arith,
      c.loop-i.invariant.paid,
      c.in_err-push_chunk.ensures.asked,
      strips_counted c.args.strips.now c.loop-i.i c.at.result.now c.at.ensures,
    )
