-- What a list that doubles has paid for.
use Rattle.std.specs.Prelude.{ℕ, ◌+◌, ◌-◌, ◌*◌, Vec, vec_len, vec_capacity}
use Rattle.px_bytes.specs.Allocations.{MemoryCounts}

-- The bytes that the allocator was asked for, and those that the elements of a list, each of `size` bytes, have paid for and that it
-- wasn't asked for yet. Each element pays for four: when a full list gets twice the capacity, the latter half of it has paid for all
-- of it.
abbrev pub asked_and_paid : {X Z : Type 0} → ℕ → MemoryCounts → Vec X Z → ℕ
asked_and_paid size memory list = memory.asked + size * (4 * vec_len list - 2 * vec_capacity list)
