use Rattle.std.proofs.Common.{◌≡◌, ◌-◌, ℕ, length, drop, subst, refl, arith}
use Rattle.px_layout.specs.Laid.{strip_contents}
use Rattle.px_plans.specs.calls.Building.{PutsOver, at_places}
use Rattle.px_plans.proofs.plans.Pieces.{strip_inside, strips_more, one_as}
use Rattle.px_plans.proofs.building.lay_strips.Goals as goal

pub put_at-requires : goal.put_at-requires
put_at-requires c =
    let s = strip_inside c.args.layout.now (length c.args.block.now) (c.loop-i.i - 1) c.args.strips.now c.at.result.now c.at.ensures
    c.requires.inside in
    let a = c.loop-i.auto.block in
    let p = c.place_of-at.ensures in
    omega arith

pub loop-i-preserved : goal.loop-i-preserved
loop-i-preserved c =
    strips_more c.args.layout.now c.args.block.now c.loop-i.block c.put_at.new.block c.args.strips.now (c.loop-i.i - 1) c.loop-i.i
    c.at.result.now
    (let t = c.loop-i-test.true in omega arith) c.at.ensures c.loop-i.auto.block c.loop-i.invariant
    (one_as c.args.layout.now c.loop-i.block c.put_at.new.block c.place_of-at.result _ c.at.result.now c.at.result.now
    c.place_of-at.ensures refl c.put_at.ensures.bytes)

pub returns-clause-bytes : goal.returns-clause-bytes
returns-clause-bytes c =
    let z : c.loop-i.i ≡ 0 = let t = c.loop-i-test.false in omega arith in
    subst (λ (i : ℕ). PutsOver c.args.block.now c.loop-i.block (at_places c.args.layout.now (strip_contents i (drop i c.args.strips.now))))
    z c.loop-i.invariant
