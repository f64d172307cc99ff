-- The bytes of a writer into memory, the number of its failed allocations, that of its flushes, and that of its bytes since.
use Rattle.std.specs.Prelude.{ℕ, List, length, min, ◌≤◌, ◌+◌, ◌*◌}

-- the bytes taken, the failed allocations, the flushes, and the bytes taken since the last flush
pub record Grown : Type 0 where
  pub taken : List ℕ
  pub failed_allocations : ℕ
  pub flushes : ℕ
  pub since : ℕ

-- the bytes that it asked for at most: four for each byte that was written, and for each call that failed twice the bytes that the
-- vector should have had then
abbrev pub grown_bytes : Grown → ℕ
grown_bytes g = 4 * length g.taken + g.failed_allocations * (2 * (length g.taken + 65536))

-- The same of its vector. A vector that lacks capacity has more bytes afterwards than the capacity that it had, and the new one is at
-- least twice as large. So all capacities together are at most twice the last one, and also four times the bytes.
abbrev pub HasGrown : ℕ → ℕ → ℕ → ℕ → Type 0
HasGrown len capacity failed_allocations asked = asked ≤ min (2 * capacity) (4 * len) + failed_allocations * (2 * (len + 65536))
