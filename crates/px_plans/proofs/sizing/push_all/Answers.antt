use Rattle.std.proofs.Common.{ℕ, subst, ◌∙◌, arith}
use Rattle.px_bytes.specs.Allocations.{CountsAllocFailureBy}
use Rattle.px_meaning.specs.calls.Seen.{meaning_of}
use Rattle.px_plans.proofs.plans.Pieces.{on_ok}
use Rattle.px_layout.specs.lemmas.WalkLaws.{chunks_gathered}
use Rattle.px_plans.proofs.plans.Asked.{chunks_counted}
use Rattle.px_plans.proofs.sizing.push_all.Goals as goal

pub returns-clause-chunks : goal.returns-clause-chunks
returns-clause-chunks c =
    on_ok c.push_thumb.result _ _
    (λ q. q ∙ chunks_gathered (meaning_of c.args.m.now) c.args.out.now.items c.push_dir.new.out.items c.push_dir-2.new.out.items
    c.push_dir-3.new.out.items c.push_dir-4.new.out.items c.push_dir-5.new.out.items
    c.in_ok-push_dir.ensures.chunks c.in_ok-push_dir-2.ensures.chunks c.in_ok-push_dir-3.ensures.chunks c.in_ok-push_dir-4.ensures.chunks
    c.in_ok-push_dir-5.ensures.chunks) c.push_thumb.ensures.chunks

pub returns-clause-memory : goal.returns-clause-memory
returns-clause-memory c =
    subst (λ (b : ℕ). CountsAllocFailureBy c.push_thumb.result b c.push_thumb.new.memory.failed_allocations)
    (c.in_ok-push_dir-5.ensures.memory ∙ c.in_ok-push_dir-4.ensures.memory ∙ c.in_ok-push_dir-3.ensures.memory
    ∙ c.in_ok-push_dir-2.ensures.memory ∙ c.in_ok-push_dir.ensures.memory) c.push_thumb.ensures.memory

pub returns-in_err-push_dir-clause-asked : goal.returns-in_err-push_dir-clause-asked
returns-in_err-push_dir-clause-asked c =
    let all = chunks_counted (meaning_of c.args.m.now) in
    omega (arith, all, c.in_err-push_dir.ensures.asked)

pub returns-in_err-push_dir-2-clause-asked : goal.returns-in_err-push_dir-2-clause-asked
returns-in_err-push_dir-2-clause-asked c =
    let all = chunks_counted (meaning_of c.args.m.now) in
    let first = c.in_ok-push_dir.ensures.paid in
    omega (arith, all, first, c.in_err-push_dir-2.ensures.asked)

pub returns-in_err-push_dir-3-clause-asked : goal.returns-in_err-push_dir-3-clause-asked
returns-in_err-push_dir-3-clause-asked c =
    let all = chunks_counted (meaning_of c.args.m.now) in
    let first = c.in_ok-push_dir.ensures.paid in
    let second = c.in_ok-push_dir-2.ensures.paid in
    omega (arith, all, first, second, c.in_err-push_dir-3.ensures.asked)

pub returns-in_err-push_dir-4-clause-asked : goal.returns-in_err-push_dir-4-clause-asked
returns-in_err-push_dir-4-clause-asked c =
    let all = chunks_counted (meaning_of c.args.m.now) in
    let first = c.in_ok-push_dir.ensures.paid in
    let second = c.in_ok-push_dir-2.ensures.paid in
    let third = c.in_ok-push_dir-3.ensures.paid in
    omega (arith, all, first, second, third, c.in_err-push_dir-4.ensures.asked)

pub returns-in_err-push_dir-5-clause-asked : goal.returns-in_err-push_dir-5-clause-asked
returns-in_err-push_dir-5-clause-asked c =
    let all = chunks_counted (meaning_of c.args.m.now) in
    let first = c.in_ok-push_dir.ensures.paid in
    let second = c.in_ok-push_dir-2.ensures.paid in
    let third = c.in_ok-push_dir-3.ensures.paid in
    let fourth = c.in_ok-push_dir-4.ensures.paid in
    omega (arith, all, first, second, third, fourth, c.in_err-push_dir-5.ensures.asked)

pub returns-clause-asked : goal.returns-clause-asked
returns-clause-asked c =
    let all = chunks_counted (meaning_of c.args.m.now) in
    let first = c.in_ok-push_dir.ensures.paid in
    let second = c.in_ok-push_dir-2.ensures.paid in
    let third = c.in_ok-push_dir-3.ensures.paid in
    let fourth = c.in_ok-push_dir-4.ensures.paid in
    let fifth = c.in_ok-push_dir-5.ensures.paid in
    omega (arith, all, first, second, third, fourth, fifth, c.push_thumb.ensures.asked)

pub returns-clause-paid : goal.returns-clause-paid
returns-clause-paid c =
    let all = chunks_counted (meaning_of c.args.m.now) in
    let first = c.in_ok-push_dir.ensures.paid in
    let second = c.in_ok-push_dir-2.ensures.paid in
    let third = c.in_ok-push_dir-3.ensures.paid in
    let fourth = c.in_ok-push_dir-4.ensures.paid in
    let fifth = c.in_ok-push_dir-5.ensures.paid in
    on_ok c.push_thumb.result _ _ (λ paid. omega (arith, all, first, second, third, fourth, fifth, paid)) c.push_thumb.ensures.paid
