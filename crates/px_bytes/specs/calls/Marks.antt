-- Marks as bits: n is marked if bit n % 64 of word n / 64 is set. After the last word nothing is marked.
use Rattle.std.specs.Prelude.{◌≡◌, ◌⊎◌, ℕ, ◌/◌, ◌%◌, ◌<◌, ◌≤◌, List, get_or}
use Rattle.std.specs.Int.{bit_at}

-- n is marked
abbrev pub Has : List ℕ → ℕ → Type 0
Has words n = bit_at (get_or words (n / 64) 0) (n % 64) ≡ 1

-- nothing from `start` up to `end` is marked
abbrev pub IsClear : List ℕ → ℕ → ℕ → Type 0
IsClear words start end = (n : ℕ) → start ≤ n → n < end → Has words n → ⊥

-- something from `start` up to `end` is marked
abbrev pub HasOne : List ℕ → ℕ → ℕ → Type 0
HasOne words start end = (n : ℕ) × (start ≤ n) × (n < end) × Has words n

-- the same marks, and perhaps more words
abbrev pub SameMarks : List ℕ → List ℕ → Type 0
SameMarks old new = (i : ℕ) → get_or new i 0 ≡ get_or old i 0

-- `new` is `old` with all from `start` up to `end` marked
pub record MarksRange (old new : List ℕ) (start end : ℕ) : Type 0 where
  pub here : (n : ℕ) → start ≤ n → n < end → Has new n
  pub kept : (n : ℕ) → Has old n → Has new n
  pub only : (n : ℕ) → Has new n → ((start ≤ n) × (n < end)) ⊎ Has old n
