-- The head of a DataSet in the normal form, and lengths that grow with it.
use Rattle.std.specs.Prelude.{◌≡◌, ◌≤◌, ℕ, List, ◌∷◌, ◌++◌, length, take, Result, Ok}
use Rattle.std.specs.Prelude.{Err}
use Rattle.std.specs.List.{AllByRecursion}
use Rattle.px_bytes.specs.Parts.{limit}
use Rattle.px_iim.specs.DataSet.{marker}
use Rattle.px_iim.specs.Record.{normal_count}

-- the data of each item has at most `limit` bytes
abbrev pub AreShort : List (ℕ × List ℕ) → Type 0
AreShort items = AllByRecursion (λ x. length x.1 ≤ limit) items

-- a DataSet up to its data
unfoldable pub normal_head : ℕ → ℕ → ℕ → List ℕ
normal_head rec number n = marker ∷ rec ∷ number ∷ normal_count n

-- the bytes follow the old ones; if an allocation failed, perhaps only some of them
abbrev pub Grows : {A E : Type 0} → Result A E → List ℕ → List ℕ → List ℕ → Type 0
Grows (Ok x) old new octets = new ≡ old ++ octets
Grows (Err e) old new octets = take (length old) new ≡ old
