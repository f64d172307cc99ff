-- The ranges that a block claims: a list of pairs of start and end. No two ranges share a byte.
use Rattle.std.specs.Prelude.{◌≡◌, ◌⊎◌, ℕ, ◌<◌, ◌≤◌, ◌+◌, ◌-◌, ◌*◌, ◌/◌, min, max, List, [], ◌∷◌, Some}
use Rattle.std.specs.Ordering.{nat_cmp}
use Rattle.std.specs.Map.{lookup}
use Rattle.std.specs.BTreeMap.{is_at}

-- the claimed ranges, the last one first, and a number of bytes: for marks of the bytes before it nothing is asked for any more
pub record Claims : Type 0 where
  pub ranges : List (ℕ × ℕ)
  pub capacity : ℕ

-- the range from `start` up to `end` is claimed
abbrev pub IsClaimed : List (ℕ × ℕ) → ℕ → ℕ → Type 0
IsClaimed claimed start end = lookup (is_at (nat_cmp start)) claimed ≡ Some end

-- No byte is both from a up to b and from c up to d: the lesser end is at most the greater start (`gap-byte` and `byte-gap` of
-- RangeLaws prove that this is the same).
abbrev pub AreApartAt : ℕ → ℕ → ℕ → ℕ → Type 0
AreApartAt a b c d = min b d ≤ max a c

-- no claimed range has a byte from `start` up to `end`
abbrev pub IsFree : List (ℕ × ℕ) → ℕ → ℕ → Type 0
IsFree claimed start end = (s e : ℕ) → IsClaimed claimed s e → AreApartAt s e start end

-- some claimed range has a byte from `start` up to `end`
abbrev pub IsTaken : List (ℕ × ℕ) → ℕ → ℕ → Type 0
IsTaken claimed start end = (s : ℕ) × (e : ℕ) × IsClaimed claimed s e × (max s start < min e end)

-- each range has a byte, and no two share one
pub record AreApart (claimed : List (ℕ × ℕ)) : Type 0 where
  pub not_empty : (s e : ℕ) → IsClaimed claimed s e → s < e
  pub apart : (s e t f : ℕ) → IsClaimed claimed s e → IsClaimed claimed t f → s < t → e ≤ t

-- `new` is `old` and the range from `start` up to `end`
pub record Takes (old new : List (ℕ × ℕ)) (start end : ℕ) : Type 0 where
  pub here : IsClaimed new start end
  pub kept : (s e : ℕ) → IsClaimed old s e → IsClaimed new s e
  pub only : (s e : ℕ) → IsClaimed new s e → ((start ≡ s) × (e ≡ end)) ⊎ IsClaimed old s e

-- ---- how much is claimed

-- the greatest end of a claimed range, 0 without one
abbrev pub reach : List (ℕ × ℕ) → ℕ
reach [] = 0
reach (r ∷ claimed) = max r.1 (reach claimed)

-- the number of claimed bytes
abbrev pub claimed_bytes : List (ℕ × ℕ) → ℕ
claimed_bytes [] = 0
claimed_bytes (r ∷ claimed) = (r.1 - r.0) + claimed_bytes claimed

-- the bytes of marks for so many bytes of a block: eight for each 64, or a part of 64
abbrev pub mark_bytes : ℕ → ℕ
mark_bytes end = 8 * ((end + 63) / 64)
