-- What the allocator is asked for when a vector gets one more element.
use Rattle.std.proofs.Common.{◌≡◌, ◌≤◌, ◌<◌, ◌+◌, ◌*◌, ℕ, max, inl, inr, arith}
use Rattle.std.proofs.lemmas.Bool.{cases_lt}
use Rattle.std.proofs.Math.Nat.{mul-le-mul_right}
use Rattle.px_bytes.specs.Allocations.{enlarged}

pub one_more : {A B : Type 0} (size len capacity n asked asked_now : ℕ) → len ≤ n → len ≤ capacity
    → (len + 1 ≤ capacity → A × B × (asked_now ≡ asked)) → (capacity < len + 1 → asked_now ≡ asked + enlarged capacity (len + 1) * size)
    → asked_now ≤ asked + max 4 (2 * n) * size
one_more size len capacity n asked asked_now few inside fits grows = elim (cases_lt capacity (len + 1)) [
  | inl l ↦
      let now = grows l in
      let most = mul-le-mul_right {m = enlarged capacity (len + 1)} {n = max 4 (2 * n)} size (omega arith) in
      omega (arith, now, most)
  | inr l ↦ let now = (fits l).2 in omega (arith, now)
]
