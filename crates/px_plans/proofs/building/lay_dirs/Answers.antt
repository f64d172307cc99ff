use Rattle.std.proofs.Common.{◌∙◌, arith}
use Rattle.px_meaning.specs.calls.Seen.{meaning_of}
use Rattle.px_plans.proofs.plans.Pieces.{on_ok, parts_five}
use Rattle.px_plans.proofs.plans.Sizes.{size_dirs}
use Rattle.px_plans.proofs.building.lay_dirs.Goals as goal

pub returns-clause-bytes : goal.returns-clause-bytes
returns-clause-bytes c =
    let b = c.lay_dir.ensures.len in
    let d = c.lay_dir-2.ensures.len ∙ b in
    let e = c.lay_dir-3.ensures.len ∙ d in
    let g = c.lay_dir-4.ensures.len ∙ e in
    on_ok c.lay_dir-5.result _ _ (parts_five c.args.layout.now (meaning_of c.args.layout.now.m.now) c.args.block.now c.lay_dir.new.block
    c.lay_dir-2.new.block c.lay_dir-3.new.block c.lay_dir-4.new.block c.lay_dir-5.new.block
    b d e g c.in_ok-lay_dir.ensures.bytes c.in_ok-lay_dir-2.ensures.bytes c.in_ok-lay_dir-3.ensures.bytes c.in_ok-lay_dir-4.ensures.bytes)
    c.lay_dir-5.ensures.bytes

pub returns-in_err-lay_dir-clause-asked : goal.returns-in_err-lay_dir-clause-asked
returns-in_err-lay_dir-clause-asked c =
    let all = size_dirs c.args.layout.now (meaning_of c.args.layout.now.m.now) in
    omega (arith, all, c.in_err-lay_dir.ensures.asked)

pub returns-in_err-lay_dir-2-clause-asked : goal.returns-in_err-lay_dir-2-clause-asked
returns-in_err-lay_dir-2-clause-asked c =
    let all = size_dirs c.args.layout.now (meaning_of c.args.layout.now.m.now) in
    let first = c.in_ok-lay_dir.ensures.paid in
    omega (arith, all, first, c.in_err-lay_dir-2.ensures.asked)

pub returns-in_err-lay_dir-3-clause-asked : goal.returns-in_err-lay_dir-3-clause-asked
returns-in_err-lay_dir-3-clause-asked c =
    let all = size_dirs c.args.layout.now (meaning_of c.args.layout.now.m.now) in
    let first = c.in_ok-lay_dir.ensures.paid in
    let second = c.in_ok-lay_dir-2.ensures.paid in
    omega (arith, all, first, second, c.in_err-lay_dir-3.ensures.asked)

pub returns-in_err-lay_dir-4-clause-asked : goal.returns-in_err-lay_dir-4-clause-asked
returns-in_err-lay_dir-4-clause-asked c =
    let all = size_dirs c.args.layout.now (meaning_of c.args.layout.now.m.now) in
    let first = c.in_ok-lay_dir.ensures.paid in
    let second = c.in_ok-lay_dir-2.ensures.paid in
    let third = c.in_ok-lay_dir-3.ensures.paid in
    omega (arith, all, first, second, third, c.in_err-lay_dir-4.ensures.asked)

pub returns-clause-asked : goal.returns-clause-asked
returns-clause-asked c =
    let all = size_dirs c.args.layout.now (meaning_of c.args.layout.now.m.now) in
    let first = c.in_ok-lay_dir.ensures.paid in
    let second = c.in_ok-lay_dir-2.ensures.paid in
    let third = c.in_ok-lay_dir-3.ensures.paid in
    let fourth = c.in_ok-lay_dir-4.ensures.paid in
    omega (arith, all, first, second, third, fourth, c.lay_dir-5.ensures.asked)

pub returns-clause-paid : goal.returns-clause-paid
returns-clause-paid c =
    let all = size_dirs c.args.layout.now (meaning_of c.args.layout.now.m.now) in
    let first = c.in_ok-lay_dir.ensures.paid in
    let second = c.in_ok-lay_dir-2.ensures.paid in
    let third = c.in_ok-lay_dir-3.ensures.paid in
    let fourth = c.in_ok-lay_dir-4.ensures.paid in
    on_ok c.lay_dir-5.result _ _ (λ paid. omega (arith, all, first, second, third, fourth, paid)) c.lay_dir-5.ensures.paid
