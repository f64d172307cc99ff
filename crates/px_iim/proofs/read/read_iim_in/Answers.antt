use Rattle.std.proofs.Common.{◌≡◌, ℕ, ◌≤◌, Some, List, length, Result, Ok, Err, IfOk, IfErr, arith}
use Rattle.px_bytes.specs.declared.Refusal.{Refusal}
use Rattle.px_bytes.specs.declared.Refusal.TheVariants.{Content, OutOfMemory}
use Rattle.px_bytes.specs.declared.Cause.TheVariants.{TooLong}
use Rattle.px_bytes.specs.Checks.{Judges, CountsAllocFailureInBlockBy}
use Rattle.px_bytes.specs.lemmas.CheckLaws.{Judges_good}
use Rattle.px_bytes.specs.Numbers.{AreBytes}
use Rattle.px_bytes.specs.Parts.{limit}
use Rattle.px_iim.specs.Group.{Record, IsRecord}
use Rattle.px_iim.specs.Record.{SaysIim, iim_of}
use Rattle.px_iim.specs.Check.{iim_checks}
use Rattle.px_iim.specs.lemmas.RecordLaws.{iim_of_computes, meaning_is_record}
use Rattle.px_iim.specs.lemmas.FaultLaws.{first_is_fault, fault_place_le_limit}
use Rattle.px_iim.specs.calls.Reading.{RefusesIim}
use Rattle.px_iim.proofs.reading.Steps.{checks_past}
use Rattle.px_iim.proofs.reading.Refusals.{first_fault_refuses}
use Rattle.px_iim.proofs.read.read_iim_in.Goals as goal

judges_refuses_iim : {X : Type 0} (r : Result X Refusal) (x : List ℕ) (good : X → Type 0) (old new : ℕ) → length x ≤ limit
    → Judges r (iim_checks x) good → CountsAllocFailureInBlockBy r old new → IfErr r (RefusesIim x new)
judges_refuses_iim (Ok i) x good old new l j m = tt
judges_refuses_iim (Err (Content c p)) x good old new l j m = first_fault_refuses x new c p j
    (fault_place_le_limit x c p (first_is_fault x c p j) l)
judges_refuses_iim (Err OutOfMemory) x good old new l j m = omega (arith, m)

judges_is_record : (r : Result Record Refusal) (x : List ℕ) → AreBytes x → Judges r (iim_checks x) (λ i. iim_of x ≡ Some i)
    → IfOk r IsRecord
judges_is_record (Ok i) x b j = meaning_is_record x i b ((iim_of_computes x i).1 j.1)
judges_is_record (Err e) x b j = tt

pub returns-then-bytes-clause-judged : goal.returns-then-bytes-clause-judged
returns-then-bytes-clause-judged c = rw c.at.ensures (checks_past c.args.bytes.now c.if-bytes.true)

pub returns-then-bytes-clause-is_fault : goal.returns-then-bytes-clause-is_fault
returns-then-bytes-clause-is_fault c =
    rw c.at.ensures (first_fault_refuses c.args.bytes.now c.args.memory.now.failed_allocations TooLong limit
    (checks_past c.args.bytes.now c.if-bytes.true)
    (omega arith))

pub returns-clause-judged : goal.returns-clause-judged
returns-clause-judged c =
    let x = c.args.bytes.now in
    Judges_good c.read_groups.result (iim_checks x) (λ i. iim_of x ≡ Some i) (SaysIim x) (λ i e. (iim_of_computes x i).1 e)
    c.read_groups.ensures.judged

pub returns-clause-is_fault : goal.returns-clause-is_fault
returns-clause-is_fault c =
    let x = c.args.bytes.now in
    judges_refuses_iim c.read_groups.result x (λ i. iim_of x ≡ Some i) c.args.memory.now.failed_allocations
    c.read_groups.new.memory.failed_allocations
    c.if-bytes.false
    c.read_groups.ensures.judged c.read_groups.ensures.memory

pub returns-clause-whole : goal.returns-clause-whole
returns-clause-whole c = judges_is_record c.read_groups.result c.args.bytes.now
    (λ k. (c.type_inv.bytes k).fits) c.read_groups.ensures.judged
