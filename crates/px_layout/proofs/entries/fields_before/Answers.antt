use Rattle.std.proofs.Common.{◌+◌, ◌-◌, ◌/◌, arith}
use Rattle.px_layout.proofs.plans.EntryLists.{rank_le, rank_after, rank_before, rank_fields}
use Rattle.px_layout.proofs.entries.fields_before.Goals as goal

pub loop-low-init : goal.loop-low-init
loop-low-init c =
    let n = c.len-high.ensures.value in
    let r = rank_le c.args.tag c.args.fields.now in
    record { order = omega arith; inside = omega arith; least = omega arith; most = omega arith }

pub loop-low-preserved-then-here-tag : goal.loop-low-preserved-then-here-tag
loop-low-preserved-then-here-tag c =
    let m = c.loop-low.low + (c.loop-low.high - c.loop-low.low) / 2 in
    let r = rank_after c.args.tag c.args.fields.now m _ c.len-high.ensures.order c.at-here.ensures c.if-here-tag.true in
    let i = c.loop-low.invariant in
    let t = c.loop-low-test.true in
    record { order = omega arith; inside = i.inside; least = r; most = i.most }

pub loop-low-preserved : goal.loop-low-preserved
loop-low-preserved c =
    let m = c.loop-low.low + (c.loop-low.high - c.loop-low.low) / 2 in
    let r = rank_before c.args.tag c.args.fields.now m _ c.at-here.ensures c.if-here-tag.false in
    let i = c.loop-low.invariant in
    let t = c.loop-low-test.true in
    let a = i.inside in
    record { order = omega arith; inside = omega arith; least = i.least; most = r }

pub returns-clause-rank : goal.returns-clause-rank
returns-clause-rank c =
    let i = c.loop-low.invariant in
    let a = i.order in let b = i.least in let d = i.most in
    let t = c.loop-low-test.false in
    let f = rank_fields c.args.tag c.args.fields.now in
    omega arith
