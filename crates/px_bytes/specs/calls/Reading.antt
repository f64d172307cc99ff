-- The result of a single read.
use Rattle.std.specs.Prelude.{◌≡◌, ◌⊎◌, ◌≤◌, ◌<◌, ◌+◌, ◌*◌, ◌/◌, ◌++◌, ℕ, Bool, true, false, List, Option, length}
use Rattle.std.specs.Io.KnownBytes.{Consumes, IsAtEnd}

-- the reader returned some bytes, at most `space`, which follow the earlier ones; or it is at its end
pub record GivesSome (old new : Option (List ℕ)) (had has : List ℕ) (space : ℕ) (some : Bool) : Type 0 where
  pub bytes : List ℕ
  pub given : Consumes old new bytes
  pub after : has ≡ had ++ bytes
  pub in_space : length bytes ≤ space
  pub is_some : some ≡ true → 0 < length bytes
  pub is_end : some ≡ false → IsAtEnd new

-- the most that the allocator is asked for, for a vector of so many bytes that were read
abbrev pub read_bytes : ℕ → ℕ
read_bytes len = 10 * len + len / 8

-- What the allocator was asked for since it had been asked for `before`, for a vector of `len` bytes that were read. It was asked for
-- each capacity that the vector had, one after another. As long as they double, together they are at most twice the last one; where
-- each is an eighth larger than the one before, nine times. The last one may be less, since none is larger than `most`.
pub record HasRead (most before len capacity asked : ℕ) : Type 0 where
  pub bytes : asked ≤ before + read_bytes len
  pub capacities : (most ≤ capacity) ⊎ ((asked ≤ before + 2 * capacity) ⊎ ((1048576 ≤ capacity) × (asked ≤ before + 9 * capacity)))
