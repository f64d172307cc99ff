-- Claimed ranges as marks: one bit for each byte.
use Rattle.std.specs.Prelude.{◌<◌, ◌≤◌, ◌+◌, ◌-◌, min, ℕ, List, [], ◌∷◌}
use Rattle.px_bytes.specs.Claimed.{IsClaimed}
use Rattle.px_bytes.specs.calls.Marks.{Has}

-- exactly the bytes of the claimed ranges are marked
pub record Marked (claimed : List (ℕ × ℕ)) (words : List ℕ) : Type 0 where
  pub marked : (s e n : ℕ) → IsClaimed claimed s e → s ≤ n → n < e → Has words n
  pub owned : (n : ℕ) → Has words n → (s : ℕ) × (e : ℕ) × IsClaimed claimed s e × (s ≤ n) × (n < e)

-- the claimed bytes below n, a byte of two ranges counted twice
abbrev pub below : ℕ → List (ℕ × ℕ) → ℕ
below n [] = 0
below n (r ∷ claimed) = (min r.1 n - r.0) + below n claimed

-- each byte is claimed at most once, and then it is marked
pub record Once (claimed : List (ℕ × ℕ)) (words : List ℕ) : Type 0 where
  pub most : (n : ℕ) → below (n + 1) claimed ≤ below n claimed + 1
  pub marked : (n : ℕ) → below n claimed < below (n + 1) claimed → Has words n
