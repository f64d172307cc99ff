-- The relations between two runs of the program: on files with the bytes f and g, and on files that are opened and made by their names.
use Rattle.std.specs.Prelude.{◌≡◌, ⊤, ℕ, List, Option, Some, Result, Ok}
use Rattle.std.specs.Io.KnownBytes.{Appends}
use Rattle.px_engine.specs.declared.Fault.{Fault}
use Rattle.px_engine.specs.Headline.{Headline}
use Rattle.px_bytes.specs.Devices.{Device}
use Rattle.px_bytes.specs.Allocations.{MemoryCounts}
use Rattle.px_runs.specs.declared.job.Job.TheVariants.{Normalise}
use Rattle.px_runs.specs.Lines.{Took}
use Rattle.px_runs.specs.Endings.{Ends, EndsCompare}
use Rattle.px_runs.specs.Programs.{EndsForm}

-- Two runs of `normalise` with status 0 wrote the two normal forms of the headline, each of them whole.
abbrev pub FormsDecide : Type 0
FormsDecide = (f g : List ℕ) (reader out lines other_reader other_out other_lines : Device)
    (allocs allocs_now other_allocs other_allocs_now : MemoryCounts) → reader.old ≡ Some f → other_reader.old ≡ Some g
    → Ends Normalise reader out lines allocs allocs_now 0
    → Ends Normalise other_reader other_out other_lines other_allocs other_allocs_now 0
    → (m n : List ℕ) × Took out m × Took other_out n × Headline f g m n

-- For two files with normal forms, `compare` returns status 0 only if these are equal, and 1 only if they differ.
abbrev pub ComparisonDecides : Type 0
ComparisonDecides = (f g m n : List ℕ) (first second lines : Device) (allocs allocs_now : MemoryCounts) (status : ℕ) → Headline f g m n
    → first.old ≡ Some f → second.old ≡ Some g → EndsCompare first second lines allocs allocs_now status
    → (status ≡ 0 → m ≡ n) × (status ≡ 1 → m ≡ n → ⊥)

module _ {F R W : Type 0} (remaining : R → Option (List ℕ)) (contents : W → Option (List ℕ))
    (opens : F → List ℕ → Result R Fault → F → Type 0) (makes : F → List ℕ → R → Result (Option W) Fault → F → Type 0)
    (closes : F → W → Result ⊤ Fault → F → Type 0) where
  -- the file of that name has these bytes: each reader that opening it returns has them
  abbrev pub HasBytes : F → List ℕ → List ℕ → Type 0
  HasBytes files name bytes =
      (reader : R) (opened : F) → opens files name (Ok reader) opened → remaining reader ≡ Some bytes

  -- the file of that name was created or emptied, took these bytes and no more, and was closed
  abbrev pub Received : F → List ℕ → List ℕ → Type 0
  Received files_now name bytes = (opened made : F) × (reader : R) × (out out_now : W) × makes opened name reader (Ok (Some out)) made
      × closes made out_now (Ok tt) files_now × Appends (contents out) (contents out_now) bytes

  -- After two runs of `normalise FILE OUT` with status 0, each OUT has received the normal form of its FILE, and the headline holds of
  -- the two forms.
  abbrev pub OutputsDecide : Type 0
  OutputsDecide = (f g file out other_file other_out : List ℕ) (files files_now other_files other_files_now : F)
      (allocs allocs_now other_allocs other_allocs_now : MemoryCounts) (lines other_lines : Device)
      → HasBytes files file f → HasBytes other_files other_file g
      → EndsForm remaining contents opens makes closes file out files files_now allocs allocs_now 0 lines
      → EndsForm remaining contents opens makes closes other_file other_out other_files other_files_now other_allocs other_allocs_now 0
      other_lines
      → (m n : List ℕ) × Received files_now out m × Received other_files_now other_out n × Headline f g m n

  -- The same where the bytes of files are known: `has_file` are those of a file of a name, and `has_written` those of the file that was
  -- closed last.
  abbrev pub KnownOutputsDecide : (F → List ℕ → List ℕ → Type 0) → (F → List ℕ → Type 0) → Type 0
  KnownOutputsDecide has_file has_written = (f g file out other_file other_out : List ℕ) (files files_now other_files other_files_now : F)
      (allocs allocs_now other_allocs other_allocs_now : MemoryCounts) (lines other_lines : Device)
      → has_file files file f → has_file other_files other_file g
      → EndsForm remaining contents opens makes closes file out files files_now allocs allocs_now 0 lines
      → EndsForm remaining contents opens makes closes other_file other_out other_files other_files_now other_allocs other_allocs_now 0
      other_lines
      → (m n : List ℕ) × has_written files_now m × has_written other_files_now n × Headline f g m n
