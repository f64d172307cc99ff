-- The calls that a run makes on files, as a list.
use Rattle.std.specs.Prelude.{◌≡◌, ◌⊎◌, ◌++◌, ◌∷◌, [], ⊤, ℕ, List, Option, Result}
use Rattle.px_engine.specs.declared.Fault.{Fault}
use Rattle.px_words.specs.declared.Words.{Words}
use Rattle.px_words.specs.declared.Words.TheVariants as words
use Rattle.px_bytes.specs.Devices.{Device}
use Rattle.px_bytes.specs.Allocations.{MemoryCounts}
use Rattle.px_runs.specs.Programs.{EndsWords}

-- a call to open a file, to create or empty one, or to close a writer that has taken these bytes
pub data Call : Type 0 where
  Open : (name : List ℕ) → Call
  Make : (name : List ℕ) → Call
  Close : (bytes : Option (List ℕ)) → Call

-- The calls that a request may make. A request ends at the first call that fails, or that finds that OUT is FILE.
abbrev pub MayCall : Words → List Call → Type 0
MayCall (words.One what file) calls = calls ≡ Open file ∷ []
MayCall (words.Normalise file out) calls = (calls ≡ Open file ∷ []) ⊎ (calls ≡ Open file ∷ Make out ∷ [])
    ⊎ ((bytes : Option (List ℕ)) × (calls ≡ Open file ∷ Make out ∷ Close bytes ∷ []))
MayCall (words.Compare first second) calls = (calls ≡ Open first ∷ []) ⊎ (calls ≡ Open first ∷ Open second ∷ [])
MayCall _ calls = calls ≡ []

module _ {F R W : Type 0} (remaining : R → Option (List ℕ)) (contents : W → Option (List ℕ))
    (opens : F → List ℕ → Result R Fault → F → Type 0) (makes : F → List ℕ → R → Result (Option W) Fault → F → Type 0)
    (closes : F → W → Result ⊤ Fault → F → Type 0) where
  -- the files keep a list of the calls made on them: each call appends itself, whether it succeeds or not
  pub record IsLog (log : F → List Call) : Type 0 where
    pub opened : (f g : F) (name : List ℕ) (r : Result R Fault) → opens f name r g → log g ≡ log f ++ Open name ∷ []
    pub made : (f g : F) (name : List ℕ) (file : R) (r : Result (Option W) Fault) → makes f name file r g
        → log g ≡ log f ++ Make name ∷ []
    pub closed : (f g : F) (out : W) (r : Result ⊤ Fault) → closes f out r g → log g ≡ log f ++ Close (contents out) ∷ []

  -- over such files a run appends the calls of its request, and no other
  abbrev pub OnlyCalls : Type 0
  OnlyCalls = (log : F → List Call) → IsLog log → (asked : Words) (files files_now : F) (allocs allocs_now : MemoryCounts) (status : ℕ)
      (input out lines : Device)
      → EndsWords remaining contents opens makes closes asked files files_now allocs allocs_now status input out lines
      → (calls : List Call) × MayCall asked calls × (log files_now ≡ log files ++ calls)
