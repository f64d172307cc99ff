-- The result of reading a block, and the meaning of its refusal.
use Rattle.std.specs.Prelude.{◌≡◌, ◌<◌, ◌≤◌, ℕ, true, List, drop, Some, None, Result, Ok, Err}
use Rattle.px_bytes.specs.declared.Refusal.{Refusal}
use Rattle.px_bytes.specs.declared.Refusal.TheVariants.{Content, OutOfMemory}
use Rattle.px_bytes.specs.Checks.{first_false}
use Rattle.px_bytes.specs.Parts.{limit}
use Rattle.px_iim.specs.declared.dataset.Found.{Found}
use Rattle.px_iim.specs.DataSet.{DataSet}
use Rattle.px_iim.specs.Group.{Record}
use Rattle.px_iim.specs.Record.{SaysIim, iim_of, size, dataset, is_dataset}
use Rattle.px_iim.specs.Check.{dataset_checks, IimFault}

-- the DataSet that the reader found
abbrev pub found_view : Found → DataSet
found_view f = record { rec = f.rec; number = f.number; octets = f.octets.now }

-- x begins with this DataSet
pub record Reads (x : List ℕ) (f : Found) : Type 0 where
  pub there : is_dataset x ≡ true
  pub value : found_view f ≡ dataset x
  pub sized : f.size ≡ size x

-- the DataSet at an offset, or the first of its checks that fails
abbrev pub JudgesAt : Result Found Refusal → List ℕ → ℕ → Type 0
JudgesAt (Ok f) x at = Reads (drop at x) f
JudgesAt (Err (Content cause place)) x at = first_false (dataset_checks at (drop at x)) ≡ Some (cause, place)
JudgesAt (Err OutOfMemory) x at = ⊥

-- a refusal of content reports a fault of the block, at an offset up to the limit, and the block has no record; out of memory
-- means that an allocation failed
abbrev pub RefusesIim : List ℕ → ℕ → Refusal → Type 0
RefusesIim x refused (Content cause place) = IimFault x cause place × (place ≤ limit) × (iim_of x ≡ None) × ((i : Record) → SaysIim x i → ⊥)
RefusesIim x refused OutOfMemory = 0 < refused
