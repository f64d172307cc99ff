-- Indexes in a list of pairs by ascending tag.
use Rattle.std.specs.Prelude.{◌≡◌, ℕ, ◌<◌, ◌≤◌, List, length, map, slice_index}
use Rattle.px_meaning.specs.Tree.{Fields}

-- the tags of fields, in the order of the list
abbrev pub tags : Fields → List ℕ
tags fields = map (λ p. p.0) fields

-- the tags ascend
abbrev pub IsInOrder : Fields → Type 0
IsInOrder fields = (i j : ℕ) → i < j → j < length fields → slice_index (tags fields) i < slice_index (tags fields) j

-- the field at index i has the tag
pub record IsAt (fields : Fields) (tag i : ℕ) : Type 0 where
  pub inside : i < length fields
  pub same : slice_index (tags fields) i ≡ tag

-- the tag would be inserted at index i
pub record IsGapFor (fields : Fields) (tag i : ℕ) : Type 0 where
  pub inside : i ≤ length fields
  pub below : (k : ℕ) → k < i → slice_index (tags fields) k < tag
  pub above : (k : ℕ) → i ≤ k → k < length fields → tag < slice_index (tags fields) k
