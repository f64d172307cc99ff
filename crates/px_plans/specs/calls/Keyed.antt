-- Offsets by key, in a list of pairs by ascending key.
use Rattle.std.specs.Prelude.{◌≡◌, ℕ, ◌<◌, ◌≤◌, ◌==◌, if◌then◌else◌, Option, Some, None, List, [], ◌∷◌, length, map, slice_index}

-- the keys, in the order of the list
abbrev pub keys : List (ℕ × ℕ) → List ℕ
keys pairs = map (λ p. p.0) pairs

-- the keys ascend
abbrev pub IsInOrder : List (ℕ × ℕ) → Type 0
IsInOrder pairs = (i j : ℕ) → i < j → j < length pairs → slice_index (keys pairs) i < slice_index (keys pairs) j

-- the pair at index i has the key
pub record IsAt (pairs : List (ℕ × ℕ)) (key i : ℕ) : Type 0 where
  pub inside : i < length pairs
  pub same : slice_index (keys pairs) i ≡ key

-- the key would be inserted at index i
pub record IsGapFor (pairs : List (ℕ × ℕ)) (key i : ℕ) : Type 0 where
  pub inside : i ≤ length pairs
  pub below : (k : ℕ) → k < i → slice_index (keys pairs) k < key
  pub above : (k : ℕ) → i ≤ k → k < length pairs → key < slice_index (keys pairs) k

-- the offset at a key
abbrev pub offset_at : ℕ → List (ℕ × ℕ) → Option ℕ
offset_at key [] = None
offset_at key (p ∷ pairs) = if p.0 == key then Some p.1 else offset_at key pairs
