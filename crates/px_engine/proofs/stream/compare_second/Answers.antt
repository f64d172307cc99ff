use Rattle.std.proofs.Common.{ℕ, List, length, ap, arith}
use Rattle.std.proofs.lemmas.Result.{err_from_is_err_and}
use Rattle.px_engine.specs.calls.Seen.{said_view}
use Rattle.px_engine.proofs.Judged.{read_fails, read_as}
use Rattle.px_engine.proofs.Compared.{second_read, second_counted, compared_alloc_failure}
use Rattle.px_engine.specs.Asking.{block_request}
use Rattle.px_engine.proofs.Asked.{run_within}
use Rattle.px_engine.proofs.stream.compare_second.Goals as goal

pub returns-in_err-file-clause-done : goal.returns-in_err-file-clause-done
returns-in_err-file-clause-done g c =
    let p = err_from_is_err_and c.from_residual.result c.from_residual.ensures.1 in
    let e = c.in_err-file.field-0.0 in
    rw (p.1, p.2) (c.in_err-file.ensures.side, read_fails e.fault _ c.in_err-file.ensures.fault)

pub returns-clause-done : goal.returns-clause-done
returns-clause-done g c =
    second_read c.same_second.result (said_view c.args.meaning.now) _ _ c.deref.result.now _
    (read_as _ _ _ _ c.deref.ensures.value c.in_ok-file.ensures.found) c.same_second.ensures.same

pub returns-clause-reads : goal.returns-clause-reads
returns-clause-reads g c =
    second_counted c.same_second.result (said_view c.args.meaning.now) c.deref.result.now _ _ _ c.in_ok-file.ensures.count
    c.same_second.ensures.same

pub returns-clause-memory : goal.returns-clause-memory
returns-clause-memory g c = compared_alloc_failure c.same_second.result _ _ _ c.in_ok-file.ensures.memory c.same_second.ensures.memory

pub returns-clause-asked : goal.returns-clause-asked
returns-clause-asked g c =
    let same = ap (λ (f : List ℕ). block_request (length f)) c.deref.ensures.value in
    run_within _ _ _ _ _ _ c.in_ok-file.ensures.found c.in_ok-file.ensures.asked (omega (arith, same, c.same_second.ensures.asked))
