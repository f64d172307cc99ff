-- What newly claimed bytes pay for.
use Rattle.std.proofs.Common.{◌≡◌, ◌≤◌, ◌<◌, ◌+◌, ℕ, List, [], ◌∷◌, max, inl, inr, refl, ap, ◌∙◌, arith}
use Rattle.std.proofs.lemmas.Bool.{cases_lt}
use Rattle.px_bytes.specs.Claimed.{Claims, reach, claimed_bytes}
use Rattle.px_tree.specs.Asking.{fields_request}
use Rattle.px_tree.specs.calls.Paying.{paid, extent}

reach_more : (claimed : List (ℕ × ℕ)) (start end : ℕ) → reach ((start, end) ∷ claimed) ≡ max end (reach claimed)
reach_more claimed start end = refl

claimed_more : (claimed : List (ℕ × ℕ)) (start len : ℕ) → claimed_bytes ((start, start + len) ∷ claimed) ≡ len + claimed_bytes claimed
claimed_more claimed start len = omega arith

-- ---- a range is claimed, unless it is empty

paid_more : (old new : Claims) (start len before after : ℕ) → new.ranges ≡ (start, start + len) ∷ old.ranges
    → after ≡ before → after + paid old + fields_request len ≡ before + paid new
unfolding paid
paid_more old new start len before after is asked =
    let claimed = ap claimed_bytes is ∙ claimed_more old.ranges start len in omega arith

-- nothing is claimed
pub paid_same : (old new : Claims) (before after : ℕ) → new ≡ old → after ≡ before → after + paid old ≡ before + paid new
paid_same old new before after is asked = let same = ap paid is in omega arith

pub paid_added : (old new : Claims) (start len before after : ℕ) → (len ≡ 0 → new ≡ old)
    → (0 < len → new.ranges ≡ (start, start + len) ∷ old.ranges) → after ≡ before
    → after + paid old + fields_request len ≡ before + paid new
paid_added old new start len before after none some asked = elim (cases_lt 0 len) [
  | inl l ↦ paid_more old new start len before after (some l) asked
  | inr l ↦ let same = paid_same old new before after (none (omega arith)) asked in omega arith
]

extent_more : (old new : Claims) (start len : ℕ) → new.ranges ≡ (start, start + len) ∷ old.ranges
    → claimed_bytes new.ranges ≤ reach new.ranges → extent new ≤ max (start + len) (extent old)
unfolding extent
extent_more old new start len is within = let reached = ap reach is ∙ reach_more old.ranges start (start + len) in omega arith

pub extent_same : (old new : Claims) (n : ℕ) → new ≡ old → extent new ≤ max n (extent old)
extent_same old new n is = let same = ap extent is in omega arith

pub extent_added : (old new : Claims) (start len : ℕ) → (len ≡ 0 → new ≡ old)
    → (0 < len → new.ranges ≡ (start, start + len) ∷ old.ranges) → (0 < len → claimed_bytes new.ranges ≤ reach new.ranges)
    → extent new ≤ max (start + len) (extent old)
extent_added old new start len none some within = elim (cases_lt 0 len) [
  | inl l ↦ extent_more old new start len (some l) (within l)
  | inr l ↦ extent_same old new (start + len) (none (omega arith))
]

-- ---- all that is claimed is in the block

pub paid_most : (claimed : Claims) (n : ℕ) → extent claimed ≤ n → paid claimed ≤ fields_request n
unfolding paid extent
paid_most claimed n below = omega arith

pub extent_none : (claimed : Claims) → claimed.ranges ≡ [] → extent claimed ≡ 0
unfolding extent
extent_none claimed is = let none = ap claimed_bytes is in let zero = ap reach is in omega arith

pub paid_none : (claimed : Claims) → claimed.ranges ≡ [] → paid claimed ≡ 0
unfolding paid
paid_none claimed is = ap (λ (ranges : List (ℕ × ℕ)). fields_request (claimed_bytes ranges)) is
