use Rattle.std.proofs.Common.{◌-◌, arith}
use Rattle.px_layout.specs.declared.entries.Step.TheVariants.{Here, Under}
use Rattle.px_layout.proofs.plans.EntryLists.{passes_some, pass_before, pass_here, pass_after}
use Rattle.px_layout.proofs.entries.pass.Goals as goal

pub returns-then-i-extra : goal.returns-then-i-extra
returns-then-i-extra c =
    passes_some (Under c.args.i) c.args.extra.now c.in-Some.extra c.args.i c.in-Some.is
    (λ xs. pass_before c.in-Some.extra xs c.args.i c.if-i-extra.true)

pub returns : goal.returns
returns c =
    passes_some (Under (c.args.i - 1)) c.args.extra.now c.in-Some.extra c.args.i c.in-Some.is
    (λ xs. pass_after c.in-Some.extra xs c.args.i (let a = c.if-i-extra.false in let b = c.if-i-extra-2.false in omega arith))

pub returns-then-i-extra-2 : goal.returns-then-i-extra-2
returns-then-i-extra-2 c =
    passes_some (Here c.in-Some.extra.tag c.in-Some.extra.item) c.args.extra.now c.in-Some.extra c.args.i c.in-Some.is
    (λ xs. pass_here c.in-Some.extra xs c.args.i c.if-i-extra-2.true)
