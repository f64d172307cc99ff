use Rattle.std.proofs.Common.{drop}
use Rattle.px_layout.specs.Laid.{strip_contents}
use Rattle.px_plans.specs.calls.Building.{PutsOver, at_places}
use Rattle.px_plans.proofs.building.lay_strips.Given as goal

-- the strips from i on are in the block
abbrev pub invariant-loop-i : goal.invariant-loop-i
invariant-loop-i l = PutsOver l.initial.block l.block (at_places l.layout (strip_contents l.i (drop l.i l.strips)))
