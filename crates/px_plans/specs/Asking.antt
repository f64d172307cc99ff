-- How many bytes the calls ask for at most.
use Rattle.std.specs.Prelude.{ℕ, ◌+◌, ◌*◌}
use Rattle.px_bytes.specs.Claimed.{mark_bytes}

-- to list n chunks with their sizes, 16 bytes each: the list doubles, so that four times as many are asked for, whether all of them
-- fit or not
abbrev pub chunks_request : ℕ → ℕ
chunks_request n = 64 * n

-- to place n chunks in a plan, 8 bytes each: the lists double, so that four times as many are asked for
abbrev pub place_request : ℕ → ℕ
place_request n = 32 * n

-- to plan the normal form of a meaning with n chunks
abbrev pub plan_request : ℕ → ℕ
plan_request n = chunks_request n + place_request n

-- to judge the plan of a block of so many bytes for n chunks: to list them, and the marks of the claimed bytes
abbrev pub legal_request : ℕ → ℕ → ℕ
legal_request n bytes = chunks_request n + mark_bytes bytes

-- to lay out a block of n bytes: the block, and its header, tables and values, each of which is first made in a list that doubles;
-- and if an allocation fails, that one
abbrev pub write_request : ℕ → ℕ
write_request n = n + 6 * n + 131072
