-- How many bytes the calls ask for.
use Rattle.std.specs.Prelude.{ℕ, ◌*◌, max}

-- the bytes of a field in a directory: its tag, and its value, a part of the block
abbrev pub field_bytes : ℕ
field_bytes = 32

-- the bytes of a strip in a list: a part of the block
abbrev pub strip_bytes : ℕ
strip_bytes = 16

-- to add one to n fields at most: the whole new list, which has space for twice as many, and for at least four
abbrev pub field_request : ℕ → ℕ
field_request n = max 4 (2 * n) * field_bytes

-- the bytes asked for, as above, for n strips
abbrev pub strip_request : ℕ → ℕ
strip_request n = max 4 (2 * n) * strip_bytes
