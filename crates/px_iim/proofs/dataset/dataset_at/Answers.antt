use Rattle.std.proofs.Common.{◌≡◌, ℕ, List, Some, subst}
use Rattle.px_bytes.specs.Checks.{first_false}
use Rattle.px_iim.specs.Check.{dataset_checks}
use Rattle.px_iim.proofs.dataset.dataset_at.Goals as goal

pub returns-in-Err : goal.returns-in-Err
returns-in-Err c =
    rw c.at.ensures (subst (λ (x : List ℕ). first_false (dataset_checks c.args.at x) ≡ Some (c.in-Err.cause, c.args.at)) c.rest.ensures
    (c.in-Err.ensures c.args.at))
