use Rattle.std.proofs.Common.{◌∙◌, ℕ, List, length, ap, arith}
use Rattle.std.proofs.lemmas.Result.{err_from_is_err_and}
use Rattle.px_engine.specs.calls.Seen.{said_view}
use Rattle.px_engine.proofs.Judged.{known_meaning, known_stops, read_as, consumes_none}
use Rattle.px_engine.proofs.Ended.{first_stops, later_alloc_failure}
use Rattle.px_engine.proofs.Compared.{compares_from_second, not_asked, compares_untouched, compares_counts_sides, compared_alloc_failure}
use Rattle.px_engine.specs.Asking.{block_request}
use Rattle.px_engine.proofs.Asked.{run_within}
use Rattle.px_engine.proofs.stream.compare_in.Goals as goal

pub returns-in_err-meaning-clause-lost_too : goal.returns-in_err-meaning-clause-lost_too
returns-in_err-meaning-clause-lost_too g c = consumes_none _

pub returns-in_err-meaning-clause-untouched : goal.returns-in_err-meaning-clause-untouched
returns-in_err-meaning-clause-untouched g c =
    let p = err_from_is_err_and c.from_residual-in_err-meaning.result c.from_residual-in_err-meaning.ensures.1 in
    rw (p.1, p.2) (not_asked c.in_err-meaning.field-0.0 c.args.second.now c.in_err-meaning.ensures.side)

pub returns-in_err-meaning-clause-done : goal.returns-in_err-meaning-clause-done
returns-in_err-meaning-clause-done g c =
    let p = err_from_is_err_and c.from_residual-in_err-meaning.result c.from_residual-in_err-meaning.ensures.1 in
    let e = c.in_err-meaning.field-0.0 in
    rw (p.1, p.2) (first_stops e _ _ c.in_err-meaning.ensures.side
    (known_stops _ _ c.deref.result.now _ e.fault (read_as _ _ _ _ c.deref.ensures.value c.in_ok-file.ensures.found)
    c.in_err-meaning.ensures.no_meaning))

pub returns-in_err-meaning-clause-memory : goal.returns-in_err-meaning-clause-memory
returns-in_err-meaning-clause-memory g c =
    let p = err_from_is_err_and c.from_residual-in_err-meaning.result c.from_residual-in_err-meaning.ensures.1 in
    rw (p.1, p.2) (later_alloc_failure c.in_err-meaning.field-0.0.fault _ _ _ c.in_ok-file.ensures.memory c.in_err-meaning.ensures.memory)

pub returns-clause-done : goal.returns-clause-done
returns-clause-done g c =
    compares_from_second c.compare_second-same.result _ _ (said_view c.in_ok-meaning.meaning)
    (known_meaning _ _ c.deref.result.now _ (read_as _ _ _ _ c.deref.ensures.value c.in_ok-file.ensures.found) c.in_ok-meaning.ensures.meaning)
    c.compare_second-same.ensures.done

pub returns-clause-untouched : goal.returns-clause-untouched
returns-clause-untouched g c = compares_untouched c.compare_second-same.result _ _ _ _ c.compare_second-same.ensures.done

pub returns-clause-reads : goal.returns-clause-reads
returns-clause-reads g c =
    compares_counts_sides c.compare_second-same.result _ _ _ _ _ _ c.in_ok-file.ensures.count c.compare_second-same.ensures.done
    c.compare_second-same.ensures.reads

pub returns-clause-memory : goal.returns-clause-memory
returns-clause-memory g c =
    compared_alloc_failure c.compare_second-same.result _ _ _ (c.in_ok-meaning.ensures.memory ∙ c.in_ok-file.ensures.memory)
    c.compare_second-same.ensures.memory

pub returns-in_err-meaning-clause-asked : goal.returns-in_err-meaning-clause-asked
returns-in_err-meaning-clause-asked g c =
    let same = ap (λ (f : List ℕ). block_request (length f)) c.deref.ensures.value in
    let first =
    run_within _ _ _ _ _ c.judge_side.new.memory.asked c.in_ok-file.ensures.found c.in_ok-file.ensures.asked
    (omega (arith, same, c.in_err-meaning.ensures.asked)) in
    omega (arith, first)

pub returns-clause-asked : goal.returns-clause-asked
returns-clause-asked g c =
    let same = ap (λ (f : List ℕ). block_request (length f)) c.deref.ensures.value in
    let first =
    run_within _ _ _ _ _ c.judge_side.new.memory.asked c.in_ok-file.ensures.found c.in_ok-file.ensures.asked
    (omega (arith, same, c.in_ok-meaning.ensures.asked)) in
    omega (arith, first, c.compare_second-same.ensures.asked)
