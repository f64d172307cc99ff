use Rattle.std.proofs.Common.{ℕ, List, length, ap, arith}
use Rattle.px_engine.proofs.Judged.{read_as}
use Rattle.px_engine.proofs.Ended.{kind_of_checks}
use Rattle.px_engine.specs.Asking.{block_request}
use Rattle.px_engine.proofs.Asked.{run_within}
use Rattle.px_engine.proofs.stream.check_in.Goals as goal

pub returns-clause-done : goal.returns-clause-done
returns-clause-done g c =
    kind_of_checks c.check_of_in.result _ _ c.deref.result.now _ (read_as _ _ _ _ c.deref.ensures.value c.in_ok-file.ensures.found)
    c.check_of_in.ensures.kind c.check_of_in.ensures.no_meaning

pub returns-clause-asked : goal.returns-clause-asked
returns-clause-asked g c =
    let same = ap (λ (f : List ℕ). block_request (length f)) c.deref.ensures.value in
    run_within _ _ _ _ _ _ c.in_ok-file.ensures.found c.in_ok-file.ensures.asked (omega (arith, same, c.check_of_in.ensures.asked))
