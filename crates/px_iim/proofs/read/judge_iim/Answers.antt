use Rattle.std.proofs.Common.{◌≤◌, ◌∙◌, ℕ, List, [], option_map, length, Err, ap, arith}
use Rattle.std.proofs.lemmas.Result.{err_from_is_err_and}
use Rattle.px_bytes.specs.declared.Refusal.{Refusal}
use Rattle.px_bytes.specs.declared.Refusal.TheVariants.{Content, OutOfMemory}
use Rattle.px_bytes.specs.declared.Cause.TheVariants.{TooLong}
use Rattle.px_bytes.specs.Checks.{Refuses, ContentOnly}
use Rattle.px_bytes.specs.Parts.{limit}
use Rattle.px_iim.specs.Group.{gather}
use Rattle.px_iim.specs.Check.{iim_checks}
use Rattle.px_iim.specs.calls.Reading.{RefusesIim}
use Rattle.px_iim.specs.lemmas.RecordLaws.{iim_of_computes}
use Rattle.px_iim.specs.lemmas.FaultLaws.{first_is_fault, fault_place_le_limit}
use Rattle.px_iim.proofs.reading.Steps.{checks_past, iim_of_within}
use Rattle.px_iim.proofs.reading.Walked.{datasets_is}
use Rattle.px_iim.proofs.reading.Refusals.{first_fault_refuses}
use Rattle.px_iim.proofs.read.judge_iim.Goals as goal

pub returns-then-bytes-clause-judged : goal.returns-then-bytes-clause-judged
returns-then-bytes-clause-judged c = rw c.at.ensures (checks_past c.args.bytes.now c.if-bytes.true)

pub returns-then-bytes-clause-is_fault : goal.returns-then-bytes-clause-is_fault
returns-then-bytes-clause-is_fault c =
    rw c.at.ensures (λ b. first_fault_refuses c.args.bytes.now b TooLong limit (checks_past c.args.bytes.now c.if-bytes.true) (omega arith))

refuses_content : (e : Refusal) (x : List ℕ) (refused : ℕ) → length x ≤ limit → Refuses e (iim_checks x) → ContentOnly {X = ℕ} (Err e)
    → RefusesIim x refused e
refuses_content (Content c p) x b l h k = first_fault_refuses x b c p h (fault_place_le_limit x c p (first_is_fault x c p h) l)
refuses_content OutOfMemory x b l h k = absurd k

pub returns-in_err-survey-clause-is_fault : goal.returns-in_err-survey-clause-is_fault
returns-in_err-survey-clause-is_fault c = λ b.
    let p = err_from_is_err_and c.from_residual.result c.from_residual.ensures.1 in
    rw (p.1, p.2) (refuses_content c.in_err-survey.field-0.0 c.args.bytes.now b c.if-bytes.false c.in_err-survey.ensures.judged
    c.in_err-survey.ensures.content)

pub returns-clause-judged : goal.returns-clause-judged
returns-clause-judged c =
    let x = c.args.bytes.now in
    let (clean, read) = c.in_ok-survey.ensures.judged in
    let (ds, s, n, a, b, o) = read in
    let meaning = iim_of_within x c.if-bytes.false ∙ ap (option_map (gather [])) (datasets_is x ∙ s) in
    (clean, (gather [] ds, (iim_of_computes x (gather [] ds)).1 meaning))
