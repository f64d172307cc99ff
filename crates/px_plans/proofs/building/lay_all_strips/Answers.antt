use Rattle.std.proofs.Common.{ℕ, List, Option, subst, sym}
use Rattle.px_layout.specs.Laid.{all_strip_contents}
use Rattle.px_plans.specs.calls.Building.{PutsOver, at_places}
use Rattle.px_plans.proofs.building.lay_all_strips.Goals as goal

pub returns-in-Some-clause-bytes : goal.returns-in-Some-clause-bytes
returns-in-Some-clause-bytes c =
    subst (λ (s : Option (List (List ℕ))). PutsOver c.args.block.now c.lay_strips.new.block
    (at_places c.args.layout.now (all_strip_contents s))) (sym c.in-Some.is) c.lay_strips.ensures.bytes
