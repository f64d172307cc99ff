use Rattle.std.proofs.Common.{ℕ, List, Result, Ok, Err, IfOk}
use Rattle.px_bytes.specs.declared.Refusal.{Refusal}
use Rattle.px_bytes.specs.Checks.{Judges}
use Rattle.px_iim.specs.Group.{Record, IsRecord}
use Rattle.px_iim.specs.Record.{SaysIim}
use Rattle.px_iim.specs.Check.{iim_checks}
use Rattle.px_engine.specs.declared.kind.BlockKind.TheVariants as kind
use Rattle.px_engine.specs.Files as files
use Rattle.px_engine.specs.Input.{HasMeaningAs}
use Rattle.px_engine.proofs.Judged.{iim_has_meaning}
use Rattle.px_engine.proofs.meaning.read_record.Goals as goal

judges_meaning_in : (b : List ℕ) (r : Result Record Refusal) → Judges r (iim_checks b) (SaysIim b) → IfOk r IsRecord
    → IfOk r (λ i. HasMeaningAs kind.Iim b (files.Iim i))
judges_meaning_in b (Ok i) j w = iim_has_meaning b i j.1 w
judges_meaning_in b (Err e) j w = tt

pub returns-clause-meaning : goal.returns-clause-meaning
returns-clause-meaning c = judges_meaning_in c.args.bytes.now c.read_iim_in.result c.read_iim_in.ensures.judged c.read_iim_in.ensures.whole
