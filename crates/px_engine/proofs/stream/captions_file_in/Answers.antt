use Rattle.std.proofs.lemmas.Result.{err_from_is_err_and}
use Rattle.px_engine.specs.Prints.{caption_text}
use Rattle.px_engine.specs.calls.Seen.{said_view}
use Rattle.px_engine.proofs.Printed.{writes_text_prints, not_printed, no_text_alloc_failure, text_reads_nothing, fault_reads_nothing}
use Rattle.px_engine.proofs.stream.captions_file_in.Goals as goal

pub returns-clause-done : goal.returns-clause-done
returns-clause-done g c = λ left left_now read. writes_text_prints caption_text c.write_captions-done.result left left_now c.args.file.now
    (said_view c.in_ok-meaning.meaning) _ _ _ _ read c.in_ok-meaning.ensures.meaning c.write_captions-done.ensures.text

pub returns-in_err-meaning-clause-done : goal.returns-in_err-meaning-clause-done
returns-in_err-meaning-clause-done g c =
    let p = err_from_is_err_and c.from_residual.result c.from_residual.ensures.1 in
    rw (p.1, p.2) (λ left left_now read. not_printed (Unit {0}) caption_text c.in_err-meaning.field-0.0 left left_now c.args.file.now _ _
    read c.in_err-meaning.ensures.no_meaning)

pub returns-clause-reads : goal.returns-clause-reads
returns-clause-reads g c = text_reads_nothing c.write_captions-done.result _ _ _ _ _ c.write_captions-done.ensures.text

pub returns-in_err-meaning-clause-reads : goal.returns-in_err-meaning-clause-reads
returns-in_err-meaning-clause-reads g c =
    let p = err_from_is_err_and c.from_residual.result c.from_residual.ensures.1 in
    rw (p.1, p.2) (fault_reads_nothing c.in_err-meaning.field-0.0 _ _ c.in_err-meaning.ensures.no_meaning)

pub returns-clause-memory : goal.returns-clause-memory
returns-clause-memory g c =
    no_text_alloc_failure c.write_captions-done.result _ _ _ _ _ _ _ c.in_ok-meaning.ensures.memory c.write_captions-done.ensures.text
