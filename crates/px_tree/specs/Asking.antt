-- How many bytes the calls ask for at most.
use Rattle.std.specs.Prelude.{ℕ, ◌+◌, ◌*◌}
use Rattle.px_bytes.specs.Claimed.{mark_bytes}
use Rattle.px_iim.specs.Asking.{iim_request}

-- for the fields of a block of n bytes: an entry of twelve bytes has at most one, which takes 32 bytes
abbrev pub fields_request : ℕ → ℕ
fields_request n = 3 * n

-- to read a block of n bytes: its fields, the marks of the claimed bytes, and its record
abbrev pub exif_request : ℕ → ℕ
exif_request n = fields_request n + mark_bytes n + iim_request n
