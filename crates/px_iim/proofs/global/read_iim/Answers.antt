use Rattle.std.proofs.Common.{ℕ, List, Result, Ok, Err, IfErr}
use Rattle.px_bytes.specs.declared.Refusal.{Refusal}
use Rattle.px_iim.specs.calls.Reading.{RefusesIim}
use Rattle.px_iim.proofs.global.read_iim.Goals as goal

some_refused : {X : Type 0} (r : Result X Refusal) (x : List ℕ) (b : ℕ) → IfErr r (RefusesIim x b)
    → IfErr r (λ e. (refused : ℕ) × RefusesIim x refused e)
some_refused (Ok i) x b h = tt
some_refused (Err e) x b h = (b, h)

pub returns-clause-is_fault : goal.returns-clause-is_fault
returns-clause-is_fault c = some_refused c.read_iim_in.result c.args.bytes.now c.read_iim_in.new.memory.failed_allocations c.read_iim_in.ensures.is_fault
