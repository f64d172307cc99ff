-- The plan that contracts see of the program's plan, and the effect of placing a chunk.
use Rattle.std.specs.Prelude.{ℕ, if◌then◌else◌, Some, None}
use Rattle.px_layout.specs.declared.chunks.Chunk.{Chunk}
use Rattle.px_plans.specs.declared.plan.Plan.{Plan}
use Rattle.px_layout.specs.Chunks.{same_chunk}
use Rattle.px_layout.specs.Plans as spec
use Rattle.px_plans.specs.calls.Kept.{offset_in, paid_in}

-- the length of a plan, and the offset of each chunk
unfoldable pub plan_of : Plan → spec.Plan
plan_of p = record { length = p.len; offset = offset_in p.offsets }

-- the bytes that its chunks have paid for, and that the allocator wasn't asked for yet (`AskedAndPaid`); none in a new plan
unfoldable pub paid_of : Plan → ℕ
paid_of p = paid_in p.offsets

-- no chunk has an offset
abbrev pub bare : ℕ → spec.Plan
bare n = record { length = n; offset = λ c. None }

-- the plan with one more chunk
abbrev pub with_chunk : spec.Plan → Chunk → ℕ → spec.Plan
with_chunk plan c x = record { length = plan.length; offset = λ d. if same_chunk c d then Some x else plan.offset d }

-- the same chunks, in a block of n bytes
abbrev pub with_length : spec.Plan → ℕ → spec.Plan
with_length plan n = record { length = n; offset = plan.offset }
