-- The headline of the program's runs, from that of the engine's.
use Rattle.std.proofs.Common.{◌≡◌, ◌∙◌, ◌<◌, ℕ, zero, suc, Bool, true, false, List, Option, Some, None, Result, Ok, Err, inl, inr, refl, sym}
use Rattle.std.proofs.Common.{subst, arith}
use Rattle.std.specs.Prelude.{⊤}
use Rattle.px_engine.specs.declared.CompareFault.{CompareFault}
use Rattle.px_engine.specs.declared.Fault.{Fault}
use Rattle.px_engine.specs.declared.Fault.TheVariants.{Refused, NormalTooLong, OutOfMemory, ReadFailed, WriteFailed}
use Rattle.px_engine.specs.declared.Side.{Side}
use Rattle.px_engine.specs.Runs.{Normalises, Compares}
use Rattle.px_engine.specs.Headline.{Headline, RunsDecide, ComparingDecides}
use Rattle.px_bytes.specs.Devices.{Device, no_calls}
use Rattle.px_bytes.specs.Allocations.{MemoryCounts}
use Rattle.px_runs.specs.declared.job.Job.TheVariants as job
use Rattle.px_runs.specs.Lines.{Reports, ReportsFault}
use Rattle.px_runs.specs.Endings.{ReportsWritten, ReportsCompared}
use Rattle.px_runs.specs.Programs.{EndsBeside, EndsClosed, EndsForm, EndsJob, EndsMade, ReportsClosed}
use Rattle.px_runs.specs.Laws.{FormsDecide, ComparisonDecides, OutputsDecide}

-- the status is the given one, or 4
status_not_reported : (n : ℕ) (line : List ℕ) (status : ℕ) (lines : Device) → 1 < n → status < 2 → Reports n line status lines → ⊥
status_not_reported expected line status lines p q (inl t) = let e = t.0 in absurd (omega arith)
status_not_reported expected line status lines p q (inr t) = let e = t.0 in absurd (omega arith)

-- no fault has status 0 or 1
no_fault : (e : Fault) (file : Option Side) (status : ℕ) (lines : Device) → status < 2 → ReportsFault e file status lines → ⊥
no_fault (Refused cause place) file status lines q t = status_not_reported _ _ status lines (omega arith) q t
no_fault NormalTooLong file status lines q t = status_not_reported _ _ status lines (omega arith) q t
no_fault OutOfMemory file status lines q t = status_not_reported _ _ status lines (omega arith) q t
no_fault ReadFailed file status lines q t = status_not_reported _ _ status lines (omega arith) q t
no_fault WriteFailed file status lines q t = status_not_reported _ _ status lines (omega arith) q t

-- a run with status 0 is done
written_normalises : (r : Result ℕ Fault) (file old new : Option (List ℕ)) (lines : Device) → Normalises r file old new
    → ReportsWritten r 0 lines
    → (n : ℕ) × Normalises (Ok n) file old new
written_normalises (Ok n) file old new lines x t = (n, x)
written_normalises (Err e) file old new lines x t = absurd (no_fault e _ 0 lines (omega arith) t)

pub forms_decide : RunsDecide → FormsDecide
forms_decide law f g reader out lines other_reader other_out other_lines a b c d p q x y =
    let h = written_normalises x.0 (Some f) out.old out.new lines (subst (λ o. Normalises x.0 o out.old out.new) p x.1) x.5 in
    let k = written_normalises y.0 (Some g) other_out.old other_out.new other_lines
    (subst (λ o. Normalises y.0 o other_out.old other_out.new) q y.1) y.5 in
    law f g h.0 k.0 out.old out.new other_out.old other_out.new h.1 k.1

-- status 0 or 1 is no other
status_apart : {A B : Type 0} (expected status : ℕ) → 1 < expected → status ≡ expected → (status ≡ 0 → A) × (status ≡ 1 → B)
status_apart expected status p e = (λ q. absurd (omega arith), λ q. absurd (omega arith))

-- a comparison that ends with status 0 or 1 has a result
status_compared : (law : ComparingDecides) (r : Result Bool CompareFault) (f g m n : List ℕ) (lines : Device) (status : ℕ) → Headline f g m n
    → Compares r (Some f) (Some g) → ReportsCompared r status lines → (status ≡ 0 → m ≡ n) × (status ≡ 1 → m ≡ n → ⊥)
status_compared law (Ok true) f g m n lines status h c (inl t) = (
  λ _. (law f g m n true h c).0 refl,
  λ e. let d = t.0 in absurd (omega arith),
)
status_compared law (Ok false) f g m n lines status h c (inl t) = (
  λ e. let d = t.0 in absurd (omega arith),
  λ _ e. let clash : false ≡ true = (law f g m n false h c).1 e in absurd (cc),
)
status_compared law (Ok true) f g m n lines status h c (inr t) = status_apart 4 status (omega arith) t.0
status_compared law (Ok false) f g m n lines status h c (inr t) = status_apart 4 status (omega arith) t.0
status_compared law (Err x) f g m n lines status h c t =
    (λ e. absurd (no_fault x.fault _ status lines (omega arith) t), λ e. absurd (no_fault x.fault _ status lines (omega arith) t))

pub comparison_decides : ComparingDecides → ComparisonDecides
comparison_decides law f g m n first second lines a b status h p q x =
    status_compared law x.0 f g m n lines status h
    (subst (λ o. Compares x.0 o (Some g)) p (subst (λ o. Compares x.0 first.old o) q x.1)) x.4

-- with status 0 the writer was closed, after a job with status 0
closed_well : (closed : Result ⊤ Fault) (ended : ℕ) (lines : Device) → ReportsClosed closed ended 0 lines → (closed ≡ Ok tt) × (ended ≡ 0)
closed_well (Ok x) ended lines t = (refl, sym t.0)
closed_well (Err e) zero lines t = absurd (no_fault e None 0 lines (omega arith) (t.0 refl))
closed_well (Err e) (suc n) lines t = let p = (t.1 (λ z. absurd (omega (arith, z)))).0 in absurd (omega (arith, p))

closed_job : (bytes : Option (List ℕ)) (closed : Result ⊤ Fault) (allocs allocs_now : MemoryCounts) (out lines : Device)
    → EndsClosed bytes closed allocs allocs_now 0 out lines
    → (text : Device) × (closed ≡ Ok tt) × EndsJob job.Normalise bytes allocs allocs_now 0 out text
closed_job bytes closed allocs allocs_now out lines (ended, between, text, written, failed, reported) =
    let shown : Device = record { calls = lines.calls; calls_now = between; old = lines.old; new = text } in
    let well = closed_well closed ended (record { calls = between; calls_now = lines.calls_now; old = text; new = lines.new }) reported in
    (shown, well.0, subst (λ (n : ℕ). EndsJob job.Normalise bytes allocs allocs_now n out shown) well.1 written)

module _ {F R W : Type 0} (remaining : R → Option (List ℕ)) (contents : W → Option (List ℕ))
    (opens : F → List ℕ → Result R Fault → F → Type 0) (makes : F → List ℕ → R → Result (Option W) Fault → F → Type 0)
    (closes : F → W → Result ⊤ Fault → F → Type 0) where
  -- with status 0 OUT was made
  was_made : (out : List ℕ) (reader : R) (opened files_now : F) (allocs allocs_now : MemoryCounts) (lines : Device)
      → EndsBeside remaining contents opens makes closes out reader opened files_now allocs allocs_now 0 lines
      → EndsMade remaining contents opens makes closes out reader opened files_now allocs allocs_now 0 lines
  was_made out reader opened files_now allocs allocs_now lines (inl x) = x
  was_made out reader opened files_now allocs allocs_now lines (inr (inl x)) = absurd (no_fault x.0 None 0 lines (omega arith) x.2.1)
  was_made out reader opened files_now allocs allocs_now lines (inr (inr x)) = absurd (status_not_reported _ _ 0 lines (omega arith) (omega arith) x.1)

  -- and FILE was opened
  was_opened : (file out : List ℕ) (files files_now : F) (allocs allocs_now : MemoryCounts) (lines : Device)
      → EndsForm remaining contents opens makes closes file out files files_now allocs allocs_now 0 lines
      → (opened : F) × (reader : R) × opens files file (Ok reader) opened
      × EndsMade remaining contents opens makes closes out reader opened files_now allocs allocs_now 0 lines
  was_opened file out files files_now allocs allocs_now lines (inl x) = absurd (no_fault x.0 None 0 lines (omega arith) x.2.1)
  was_opened file out files files_now allocs allocs_now lines (inr x) =
      (x.0, x.1, x.2, was_made out x.1 x.0 files_now allocs allocs_now lines x.3)

  pub outputs_decide : FormsDecide → OutputsDecide remaining contents opens makes closes
  outputs_decide law f g file out other_file other_out files files_now other_files other_files_now allocs allocs_now other_allocs other_allocs_now
      lines other_lines had other_had x y =
      let a = was_opened file out files files_now allocs allocs_now lines x in
      let b = was_opened other_file other_out other_files other_files_now other_allocs other_allocs_now other_lines y in
      let wrote : Device = record { calls = no_calls; calls_now = a.3.3; old = contents a.3.1; new = contents a.3.2 } in
      let other_wrote : Device = record { calls = no_calls; calls_now = b.3.3; old = contents b.3.1; new = contents b.3.2 } in
      let j = closed_job (remaining a.1) a.3.4 allocs allocs_now wrote lines a.3.7 in
      let k = closed_job (remaining b.1) b.3.4 other_allocs other_allocs_now other_wrote other_lines b.3.7 in
      let h = law f g j.2.0 wrote j.0 k.2.0 other_wrote k.0 allocs allocs_now other_allocs other_allocs_now
      (j.2.1 ∙ had a.1 a.0 a.2) (k.2.1 ∙ other_had b.1 b.0 b.2) j.2.3 k.2.3 in
      let c = subst (λ (r : Result ⊤ Fault). closes a.3.0 a.3.2 r files_now) j.1 a.3.6 in
      let d = subst (λ (r : Result ⊤ Fault). closes b.3.0 b.3.2 r other_files_now) k.1 b.3.6 in
      (h.0, h.1, (a.0, a.3.0, a.1, a.3.1, a.3.2, a.3.5, c, h.2), (b.0, b.3.0, b.1, b.3.1, b.3.2, b.3.5, d, h.3), h.4)
