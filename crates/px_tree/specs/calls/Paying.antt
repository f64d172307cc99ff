-- How many bytes a call asks for: each call is paid by the bytes of the block that it newly claims.
use Rattle.std.specs.Prelude.{◌≤◌, ◌+◌, ℕ, max}
use Rattle.px_bytes.specs.Allocations.{MemoryCounts}
use Rattle.px_bytes.specs.Claimed.{Claims, reach, claimed_bytes}
use Rattle.px_tree.specs.Asking.{fields_request}

-- what claimed ranges pay for: the fields in so many bytes
unfoldable pub paid : Claims → ℕ
paid claimed = fields_request (claimed_bytes claimed.ranges)

-- a call asks for at most what its newly claimed bytes pay for, and so many bytes more
abbrev pub ClaimsPay : ℕ → MemoryCounts → MemoryCounts → Claims → Claims → Type 0
ClaimsPay more old new claimed now = new.asked + paid claimed ≤ old.asked + paid now + more

-- the length of the shortest block that the claimed ranges can be part of
unfoldable pub extent : Claims → ℕ
extent claimed = max (claimed_bytes claimed.ranges) (reach claimed.ranges)

-- a call claims only bytes below n
abbrev pub ClaimsBelow : ℕ → Claims → Claims → Type 0
ClaimsBelow n claimed now = extent now ≤ max n (extent claimed)
