use Rattle.std.proofs.Common.{◌≡◌, ℕ, List, false, true, sym, subst}
use Rattle.px_xmp.specs.calls.Crowded.{has, IsInRun}
use Rattle.px_xmp.proofs.LongLaws.{run_on}
use Rattle.px_xmp.proofs.crowded.has_long_run.Goals as goal

pub loop-rest-preserved : goal.loop-rest-preserved
loop-rest-preserved c n h =
    let y = c.loop-rest.rest.now in
    let (m, at) = c.loop-rest.invariant n h in
    let front = c.split_at.ensures.front in
    let (k, is) = run_on 640 y m at (λ bare signs.
    c.has_sign_alone.ensures c.if-has_sign_alone.false (subst (λ (z : List ℕ). has 60 z ≡ false) (sym front) bare)
    (subst (λ (z : List ℕ). has 61 z ≡ true) (sym front) signs)) in
    (k, subst (λ (z : List ℕ). IsInRun 640 z k) (sym c.split_at.ensures.back) is)
