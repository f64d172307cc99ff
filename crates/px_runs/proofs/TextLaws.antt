-- A text that was printed, and the lines after it.
use Rattle.std.proofs.Common.{◌≡◌, ◌≢◌, ◌∙◌, refl, sym, subst, inl, inr, ℕ, List, Option, None, Result, Ok, Err}
use Rattle.std.specs.Prelude.{⊤}
use Rattle.std.specs.Io.KnownBytes.{Appends}
use Rattle.px_bytes.specs.Devices.{AppendsPrefix, Calls, CanCountFailure, FailsOnce}
use Rattle.px_engine.specs.declared.Fault.{Fault}
use Rattle.px_engine.specs.declared.Fault.TheVariants.{Refused, NormalTooLong, OutOfMemory, ReadFailed, WriteFailed}
use Rattle.px_engine.specs.Files.{Said}
use Rattle.px_engine.specs.Runs.{CountsWrites}
use Rattle.px_engine.specs.Prints.{Prints}
use Rattle.px_runs.specs.Lines.{ReportsFault}
use Rattle.px_runs.specs.Endings.{ReportsText}
use Rattle.px_runs.specs.calls.Reporting.{ReportsPrinted}
use Rattle.px_runs.proofs.LineLaws.{device}

-- a fault that is reported when nothing of the text was written
fault_text_moved : (e : Fault) (status : ℕ) (calls mid now : Calls) (old shown new : Option (List ℕ)) → mid ≡ calls → shown ≡ old
    → ReportsFault e None status (device mid now shown new) → ReportsFault e None status (device calls now old new)
fault_text_moved e status calls mid now old shown new count same t =
    subst (λ (x : Calls). ReportsFault e None status (device x now old new)) count
    (subst (λ (z : Option (List ℕ)). ReportsFault e None status (device mid now z new)) same t)

pub text_reported : (text : Said → List ℕ) (r : Result ⊤ Fault) (file : Option (List ℕ)) (status : ℕ) (calls mid now : Calls)
    (old shown new : Option (List ℕ))
    → Prints text r file old shown → CountsWrites r calls mid → ReportsPrinted r status (device mid now shown new)
    → ReportsText text r file status (device calls now old new)
text_reported text (Ok x) file status calls mid now old shown new p w t =
    (p.0, p.1, t.0, t.1.0 ∙ w, subst (λ (z : Option (List ℕ)). Appends old z (text p.0)) (sym t.1.1) p.2)
text_reported text (Err WriteFailed) file status calls mid now old shown new p w t = elim t [
  | inl q ↦ (
    p.0,
    p.1,
    q.1,
    subst (FailsOnce calls) (sym q.2.0) w,
    subst (λ (z : Option (List ℕ)). AppendsPrefix old z (text p.0)) (sym q.2.1) p.2,
  )
  | inr q ↦ absurd (q.0 refl)
]
text_reported text (Err (Refused cause place)) file status calls mid now old shown new p w t = elim t [
  | inl q ↦ let bad : Refused cause place ≡ WriteFailed = q.0 in absurd (cc)
  | inr q ↦ (p.0, fault_text_moved (Refused cause place) status calls mid now old shown new w p.1 q.1)
]
text_reported text (Err OutOfMemory) file status calls mid now old shown new p w t = elim t [
  | inl q ↦ let bad : OutOfMemory ≡ WriteFailed = q.0 in absurd (cc)
  | inr q ↦ (tt, fault_text_moved OutOfMemory status calls mid now old shown new w p.1 q.1)
]
text_reported text (Err ReadFailed) file status calls mid now old shown new p w t = elim t [
  | inl q ↦ let bad : ReadFailed ≡ WriteFailed = q.0 in absurd (cc)
  | inr q ↦ (tt, fault_text_moved ReadFailed status calls mid now old shown new w p.1 q.1)
]
text_reported text (Err NormalTooLong) file status calls mid now old shown new p w t = absurd p.0

-- a fault of anything but the writer left the writer's count unchanged
counts_before : (e : Fault) (calls mid : Calls) → e ≢ WriteFailed → CountsWrites {A = ⊤} (Err e) calls mid → mid ≡ calls
counts_before WriteFailed calls mid other w = absurd (other refl)
counts_before (Refused cause place) calls mid other w = w
counts_before NormalTooLong calls mid other w = w
counts_before OutOfMemory calls mid other w = w
counts_before ReadFailed calls mid other w = w

-- so the writer can be called for a line
pub counts_writes_space : (r : Result ⊤ Fault) (calls mid : Calls) → CountsWrites r calls mid → CanCountFailure calls
    → (e : Fault) → r ≡ Err e → e ≢ WriteFailed → CanCountFailure mid
counts_writes_space r calls mid w few e is other =
    let now : CountsWrites {A = ⊤} (Err e) calls mid = subst (λ (x : Result ⊤ Fault). CountsWrites x calls mid) is w in
    subst CanCountFailure (sym (counts_before e calls mid other now)) few
