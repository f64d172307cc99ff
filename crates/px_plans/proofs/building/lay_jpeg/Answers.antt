use Rattle.std.proofs.Common.{ℕ, List, Option, option_map, subst, sym, ap, refl}
use Rattle.px_layout.specs.Laid.{jpeg_contents}
use Rattle.px_plans.specs.calls.Building.{PutsOver, at_places}
use Rattle.px_plans.proofs.plans.Pieces.{one_as}
use Rattle.px_plans.proofs.building.lay_jpeg.Goals as goal

pub returns-in-Some-clause-bytes : goal.returns-in-Some-clause-bytes
returns-in-Some-clause-bytes c =
    subst (λ (j : Option (List ℕ)). PutsOver c.args.block.now c.put_at.new.block (at_places c.args.layout.now (jpeg_contents j)))
    (sym (ap (option_map (λ x. x.now)) c.in-Some.is))
    (one_as c.args.layout.now c.args.block.now c.put_at.new.block c.place_of.result _ c.in-Some.bytes.now c.in-Some.bytes.now
    c.place_of.ensures refl c.put_at.ensures.bytes)
