-- Ranges of bytes: where each begins, and how many bytes it has. TIFF 6.0 section 7, "No Duplicate Pointers": no data is
-- referenced from more than one place.
-- Example: the range of 4 bytes at offset 8 has the offsets 8 to 11. So it shares a byte with that of 2 bytes at 11, and none
-- with that of 2 bytes at 12.
use Rattle.std.specs.Prelude.{◌≡◌, ℕ, ◌+◌, ◌<◌, ◌≤◌, nat_lt, Bool, true, not, ◌&&◌, List, [], ◌∷◌, ⊤}
use Rattle.std.specs.List.{list_all, AllByRecursion}
use Rattle.px_bytes.specs.Claimed.{IsFree}

-- a range: the offset of its first byte, and how many bytes it has
pub record Range : Type 0 where
  pub start : ℕ
  pub size : ℕ

-- the range of n bytes at the offset x
abbrev pub range : ℕ → ℕ → Range
range x n = record { start = x; size = n }

-- the byte at p is in the range
abbrev pub IsIn : ℕ → Range → Type 0
IsIn p r = (r.start ≤ p) × (p < r.start + r.size)

-- no byte is in both
abbrev pub Apart : Range → Range → Type 0
Apart r s = (p : ℕ) → IsIn p r → IsIn p s → ⊥

-- no two ranges of the list share a byte
abbrev pub AllApart : List Range → Type 0
AllApart [] = ⊤
AllApart (r ∷ rs) = AllByRecursion (Apart r) rs × AllApart rs

-- whether two ranges share a byte
abbrev pub shares : Range → Range → Bool
shares r s = nat_lt 0 r.size && nat_lt 0 s.size && nat_lt r.start (s.start + s.size) && nat_lt s.start (r.start + r.size)

-- whether r shares no byte with the ranges of the list
abbrev pub is_free : List Range → Range → Bool
is_free claimed r = list_all (λ s. not (shares r s)) claimed

-- the list of ranges leaves the same bytes free as the claimed ones
pub record Agrees (taken : List Range) (claimed : List (ℕ × ℕ)) : Type 0 where
  pub free : (s n : ℕ) → is_free taken (range s n) ≡ true → IsFree claimed s (s + n)
  pub all_free : (s n : ℕ) → IsFree claimed s (s + n) → is_free taken (range s n) ≡ true
