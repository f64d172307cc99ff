use Rattle.std.proofs.Common.{ℕ, List, length, ap, arith}
use Rattle.px_engine.proofs.Asked.{request_within}
use Rattle.px_engine.proofs.meaning.judge_any_in.Goals as goal

pub returns-in_err-judge_block-clause-asked : goal.returns-in_err-judge_block-clause-asked
returns-in_err-judge_block-clause-asked c =
    let same = ap (λ (f : List ℕ). length f) c.block_of.ensures in
    omega (arith, same, request_within c.args.file.now, c.in_err-judge_block.ensures.asked)

pub returns-clause-asked : goal.returns-clause-asked
returns-clause-asked c =
    let same = ap (λ (f : List ℕ). length f) c.block_of.ensures in
    omega (arith, same, request_within c.args.file.now, c.in_ok-judge_block.ensures.asked)
