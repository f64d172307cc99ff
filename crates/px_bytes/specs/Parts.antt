-- Parts of a block.
-- Example: of the block 10 20 30 40 50, the part of 2 bytes at offset 1 is 20 30, and its first two pieces of size 2 are
-- 10 20 and 30 40.
use Rattle.std.specs.Prelude.{ℕ, zero, suc, ◌+◌, List, [], ◌∷◌, length, take, drop, Option, Some, None, option_map, if◌then◌else◌, nat_le}
use Rattle.px_bytes.specs.declared.numbers.Order.{Order}
use Rattle.px_bytes.specs.Numbers.{number}

-- the greatest length of a block, in bytes
abbrev pub limit : ℕ
limit = 16777216

-- the n bytes of b at offset x, or fewer if b ends before
abbrev pub part : {A : Type 0} → List A → ℕ → ℕ → List A
part b x n = take n (drop x b)

-- the bytes, cut into n parts of one size
abbrev pub pieces : {A : Type 0} → ℕ → ℕ → List A → List (List A)
pieces zero size b = []
pieces (suc n) size b = take size b ∷ pieces n size (drop size b)

-- the `len` bytes at offset `at`, if the block contains them
abbrev pub part_of : List ℕ → ℕ → ℕ → Option (List ℕ)
part_of block at len = if nat_le (at + len) (length block) then Some (part block at len) else None

-- the number in the `width` bytes at offset `at`, if the block contains them
abbrev pub number_at : Order → ℕ → List ℕ → ℕ → Option ℕ
number_at order width block at = option_map (number order width) (part_of block at width)
