use Rattle.std.proofs.Common.{ℕ, List, Result, Ok, Err, IfOk, IfErr, refl, arith}
use Rattle.px_bytes.specs.declared.Refusal.{Refusal}
use Rattle.px_bytes.specs.declared.Refusal.TheVariants.{Content, OutOfMemory}
use Rattle.px_bytes.specs.Checks.{Judges, CountsAllocFailureInBlockBy}
use Rattle.px_bytes.specs.Numbers.{AreBytes}
use Rattle.px_iim.specs.Group.{Record}
use Rattle.px_iim.specs.Record.{SaysIim}
use Rattle.px_iim.specs.Check.{iim_checks}
use Rattle.px_iim.specs.calls.Reading.{RefusesIim}
use Rattle.px_iim.specs.lemmas.RecordLaws.{meaning_is_record}
use Rattle.px_engine.specs.declared.kind.BlockKind.TheVariants as kind
use Rattle.px_engine.specs.Files as files
use Rattle.px_engine.specs.Input.{IsRefusedIn}
use Rattle.px_engine.specs.calls.Kinds.{HasMeaningOfKind}
use Rattle.px_engine.proofs.Judged.{iim_has_meaning}
use Rattle.px_engine.proofs.meaning.judge_record.Goals as goal

judges_means_kind : (b : List ℕ) (r : Result (Unit {0}) Refusal) → AreBytes b → Judges r (iim_checks b) (λ u. (i : Record) × SaysIim b i)
    → IfOk r (λ u. HasMeaningOfKind kind.Iim b)
judges_means_kind b (Ok u) o j = let (i, s) = j.1 in (files.Iim i, iim_has_meaning b i s (meaning_is_record b i o s), refl)
judges_means_kind b (Err e) o j = tt

pub returns-clause-meaning : goal.returns-clause-meaning
returns-clause-meaning c =
    judges_means_kind c.args.bytes.now c.judge_iim.result (λ k. (c.type_inv.bytes k).fits) c.judge_iim.ensures.judged

iim_no_meaning_block : (b : List ℕ) → ((i : Record) → SaysIim b i → ⊥) → (s : files.Said) → files.MeansAs kind.Iim b s → ⊥
iim_no_meaning_block b h (files.Exif m) x = x
iim_no_meaning_block b h (files.Iim i) x = h i x

judges_refuses_kind : (b : List ℕ) (n : ℕ) (r : Result (Unit {0}) Refusal) → Judges r (iim_checks b) (λ u. (i : Record) × SaysIim b i)
    → IfErr r (RefusesIim b n) → IfErr r (IsRefusedIn kind.Iim b n)
judges_refuses_kind b n (Ok u) j h = tt
judges_refuses_kind b n (Err (Content c p)) j h = record { first = j; is_fault = h.0; bounded = h.1; no_meaning = iim_no_meaning_block b h.3 }
judges_refuses_kind b n (Err OutOfMemory) j h = h

pub returns-clause-refused : goal.returns-clause-refused
returns-clause-refused c = λ n.
    judges_refuses_kind c.args.bytes.now n c.judge_iim.result c.judge_iim.ensures.judged (c.judge_iim.ensures.is_fault n)

refusal_alloc_failure : (b : List ℕ) (n : ℕ) (r : Result (Unit {0}) Refusal) → IfErr r (RefusesIim b 0) → CountsAllocFailureInBlockBy r n n
refusal_alloc_failure b n (Ok u) h = refl
refusal_alloc_failure b n (Err (Content c p)) h = refl
refusal_alloc_failure b n (Err OutOfMemory) h = absurd (omega arith)

pub returns-clause-memory : goal.returns-clause-memory
returns-clause-memory c = λ n. refusal_alloc_failure c.args.bytes.now n c.judge_iim.result (c.judge_iim.ensures.is_fault 0)
