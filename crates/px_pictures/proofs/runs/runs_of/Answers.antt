use Rattle.std.proofs.Common.{ℕ, List, sym, subst}
use Rattle.px_pictures.specs.calls.Runs.{CanCut}
use Rattle.px_pictures.proofs.Cutting.{front_cuts}
use Rattle.px_pictures.proofs.runs.runs_of.Goals as goal

pub invariant_of-result : goal.invariant_of-result
invariant_of-result c =
    subst (λ (b : List ℕ). CanCut b c.args.octets.now c.pieces_left.result) (sym c.bytes.ensures)
    (front_cuts c.args.front.now.octets c.args.octets.now c.args.front.now.parts c.pieces_left.result c.requires.inside c.requires.joined
    c.pieces_left.ensures)
