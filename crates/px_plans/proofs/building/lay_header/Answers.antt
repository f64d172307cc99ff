use Rattle.std.proofs.Common.{ℕ, List, length, ◌∙◌, ap, refl, arith}
use Rattle.px_plans.specs.calls.Layouts.{plan_of_layout}
use Rattle.px_layout.specs.lemmas.SizeLaws.{length_header}
use Rattle.px_plans.proofs.plans.Pieces.{one_as}
use Rattle.px_plans.proofs.building.lay_header.Goals as goal

pub put_at-requires : goal.put_at-requires
put_at-requires c =
    let n = ap (λ (x : List ℕ). length x) (c.deref.ensures.value ∙ c.in_ok-bytes.ensures.bytes) in
    let h = length_header (plan_of_layout c.args.layout.now) c.args.layout.now.order c.args.layout.now.filler in
    let r = c.requires in
    omega arith

pub returns-clause-bytes : goal.returns-clause-bytes
returns-clause-bytes c =
    one_as c.args.layout.now c.args.block.now c.put_at.new.block 0 0 c.deref.result.now _ refl (c.deref.ensures.value
    ∙ c.in_ok-bytes.ensures.bytes) c.put_at.ensures.bytes
