-- What a list of captions has paid for.
use Rattle.std.specs.Prelude.{ℕ, ◌+◌, ◌-◌, ◌*◌}
use Rattle.px_bytes.specs.Allocations.{MemoryCounts}

-- The bytes that the allocator was asked for, and those that the captions of a list have paid for and that it wasn't asked for yet. Each
-- caption pays for four: when a full list of n captions gets twice the capacity, the latter half of them has paid for all of it.
abbrev pub asked_and_paid : MemoryCounts → ℕ → ℕ → ℕ
asked_and_paid memory len capacity = memory.asked + 24 * (4 * len - 2 * capacity)
