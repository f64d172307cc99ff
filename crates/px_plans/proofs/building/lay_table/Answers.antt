use Rattle.std.proofs.Common.{ℕ, List, length, ◌∙◌, ap, arith}
use Rattle.px_plans.proofs.plans.Pieces.{one_as}
use Rattle.px_plans.proofs.building.lay_table.Goals as goal

pub put_at-requires : goal.put_at-requires
put_at-requires c =
    let n = ap (λ (x : List ℕ). length x) (c.deref.ensures.value ∙ c.in_ok-bytes.ensures.bytes) in
    let p = c.place_of.ensures in
    let r = c.requires.inside in
    omega arith

pub returns-clause-bytes : goal.returns-clause-bytes
returns-clause-bytes c =
    one_as c.args.layout.now c.args.block.now c.put_at.new.block c.place_of.result _ c.deref.result.now _ c.place_of.ensures
    (c.deref.ensures.value ∙ c.in_ok-bytes.ensures.bytes) c.put_at.ensures.bytes
