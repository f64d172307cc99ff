use Rattle.std.proofs.Common.{◌≡◌, ℕ, List, length, replicate, ap, ◌∙◌, arith}
use Rattle.std.proofs.lemmas.List.{length-replicate}
use Rattle.px_plans.proofs.plans.Built.{put_whole}
use Rattle.px_plans.proofs.with_plan.write_with_in.Goals as goal

pub lay_all-requires-clause-len : goal.lay_all-requires-clause-len
lay_all-requires-clause-len c =
    ap (λ (xs : List ℕ). length xs) (c.deref_mut.ensures.value ∙ c.in_ok-block.ensures.bytes)
    ∙ length-replicate c.len.result c.args.filler ∙ c.len.ensures

pub lay_all-requires-clause-bare : goal.lay_all-requires-clause-bare
lay_all-requires-clause-bare c =
    c.deref_mut.ensures.value ∙ c.in_ok-block.ensures.bytes ∙ ap (λ (n : ℕ). replicate n c.args.filler) c.len.ensures

pub lay_all-requires-clause-legal : goal.lay_all-requires-clause-legal
lay_all-requires-clause-legal c = c.requires.legal

pub returns-clause-block : goal.returns-clause-block
returns-clause-block c =
    let n : c.in_ok-block.block.len ≡ length c.lay_all.new.block = omega arith in
    put_whole c.in_ok-block.block.len c.lay_all.new.block _ _ n c.in_ok-lay_all.ensures.bytes

pub returns-clause-memory : goal.returns-clause-memory
returns-clause-memory c = c.in_ok-lay_all.ensures.memory ∙ c.in_ok-block.ensures.memory
