use Rattle.std.proofs.Common.{◌∙◌, ℕ, List, length, ap, arith}
use Rattle.std.proofs.lemmas.Result.{err_from_is_err_and}
use Rattle.px_engine.specs.Prints.{listing}
use Rattle.px_engine.specs.calls.Seen.{said_view}
use Rattle.px_engine.proofs.Judged.{read_as}
use Rattle.px_engine.proofs.Ended.{later_alloc_failure}
use Rattle.px_engine.proofs.Printed.{writes_text_prints, not_printed, no_text_alloc_failure}
use Rattle.px_engine.specs.Asking.{block_request}
use Rattle.px_engine.proofs.Asked.{run_within}
use Rattle.px_engine.proofs.stream.show_in.Goals as goal

pub returns-clause-done : goal.returns-clause-done
returns-clause-done g c = writes_text_prints listing c.write_listing-done.result _ _ c.deref.result.now (said_view c.in_ok-meaning.meaning) _ _ _ _
    (read_as _ _ _ _ c.deref.ensures.value c.in_ok-file.ensures.found) c.in_ok-meaning.ensures.meaning c.write_listing-done.ensures.text

pub returns-in_err-meaning-clause-done : goal.returns-in_err-meaning-clause-done
returns-in_err-meaning-clause-done g c =
    let p = err_from_is_err_and c.from_residual-in_err-meaning.result c.from_residual-in_err-meaning.ensures.1 in
    rw (p.1, p.2) (not_printed (Unit {0}) listing c.in_err-meaning.field-0.0 _ _ c.deref.result.now _ _
    (read_as _ _ _ _ c.deref.ensures.value c.in_ok-file.ensures.found) c.in_err-meaning.ensures.no_meaning)

pub returns-clause-memory : goal.returns-clause-memory
returns-clause-memory g c =
    no_text_alloc_failure c.write_listing-done.result _ _ _ _ _ _ _ (c.in_ok-meaning.ensures.memory ∙ c.in_ok-file.ensures.memory)
    c.write_listing-done.ensures.text

pub returns-in_err-meaning-clause-memory : goal.returns-in_err-meaning-clause-memory
returns-in_err-meaning-clause-memory g c =
    let p = err_from_is_err_and c.from_residual-in_err-meaning.result c.from_residual-in_err-meaning.ensures.1 in
    rw (p.1, p.2) (later_alloc_failure c.in_err-meaning.field-0.0 _ _ _ c.in_ok-file.ensures.memory c.in_err-meaning.ensures.memory)

pub returns-in_err-meaning-clause-asked : goal.returns-in_err-meaning-clause-asked
returns-in_err-meaning-clause-asked g c =
    let same = ap (λ (f : List ℕ). block_request (length f)) c.deref.ensures.value in
    run_within _ _ _ _ _ _ c.in_ok-file.ensures.found c.in_ok-file.ensures.asked (omega (arith, same, c.in_err-meaning.ensures.asked))

pub returns-clause-asked : goal.returns-clause-asked
returns-clause-asked g c =
    let same = ap (λ (f : List ℕ). block_request (length f)) c.deref.ensures.value in
    run_within _ _ _ _ _ _ c.in_ok-file.ensures.found c.in_ok-file.ensures.asked (omega (arith, same, c.in_ok-meaning.ensures.asked))
