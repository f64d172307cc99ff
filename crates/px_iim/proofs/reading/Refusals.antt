-- A refusal of a block names one of its faults.
use Rattle.std.proofs.Common.{◌≡◌, ℕ, ◌≤◌, Option, Some, None, List, refl}
use Rattle.px_bytes.specs.declared.Refusal.TheVariants.{Content}
use Rattle.px_bytes.specs.declared.Cause.{Cause}
use Rattle.px_bytes.specs.Parts.{limit}
use Rattle.px_iim.specs.Group.{Record}
use Rattle.px_iim.specs.Record.{SaysIim, iim_of}
use Rattle.px_iim.specs.Check.{FirstIimFault}
use Rattle.px_iim.specs.lemmas.RecordLaws.{iim_of_computes}
use Rattle.px_iim.specs.lemmas.FaultLaws.{first_is_fault, fault_excludes_meaning}
use Rattle.px_iim.specs.calls.Reading.{RefusesIim}

no_meaning_iim_of_none : (x : List ℕ) → ((i : Record) → SaysIim x i → ⊥) → iim_of x ≡ None
no_meaning_iim_of_none x h = go (iim_of x) refl where
  go : (o : Option Record) → iim_of x ≡ o → iim_of x ≡ None
  go None e = e
  go (Some i) e = absurd (h i ((iim_of_computes x i).1 e))

pub first_fault_refuses : (x : List ℕ) (refused : ℕ) (c : Cause) (p : ℕ) → FirstIimFault x c p → p ≤ limit → RefusesIim x refused (Content c p)
first_fault_refuses x refused c p f l =
    let s = first_is_fault x c p f in
    let none = λ (i : Record) (t : SaysIim x i). fault_excludes_meaning x c p i s t in
    (s, l, no_meaning_iim_of_none x none, none)
