use Rattle.std.proofs.Common.{[], ◌∷◌}
use Rattle.px_bytes.specs.Range.{range}
use Rattle.px_bytes.specs.lemmas.RangeLaws.{agrees_none}
use Rattle.px_plans.proofs.legal.are_apart.Goals as goal

pub returns-clause-free : goal.returns-clause-free
returns-clause-free c =
    let listed = c.in_ok-add_in.ensures.listed [] (agrees_none _ c.in_ok-claimed.ensures.none) in
    c.claim_all.ensures.free (range 0 8 ∷ []) (listed.1 listed.0)
