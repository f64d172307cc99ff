-- What one caption more in a list pays for.
use Rattle.std.proofs.Common.{◌≡◌, ◌≤◌, ◌<◌, ◌+◌, ◌-◌, ◌*◌, ℕ, inl, inr, arith, Result, Ok, Err, is_ok, if◌then◌else◌, OnOk}
use Rattle.std.proofs.lemmas.Bool.{cases_lt}
use Rattle.px_bytes.specs.Allocations.{enlarged}

pushed : {A : Type 0} (len capacity capacity_now asked asked_now : ℕ) → len ≤ capacity
    → (len + 1 ≤ capacity → A × (capacity_now ≡ capacity) × (asked_now ≡ asked))
    → (capacity < len + 1 → asked_now ≡ asked + enlarged capacity (len + 1) * 24)
    → (capacity < len + 1 → capacity_now ≡ enlarged capacity (len + 1))
    → asked_now + 24 * (4 * (len + 1) - 2 * capacity_now) ≤ asked + 24 * (4 * len - 2 * capacity) + 96
pushed len capacity capacity_now asked asked_now few fits grows larger = elim (cases_lt capacity (len + 1)) [
  | inl l ↦ let now = grows l in let wide = larger l in omega (arith, few, now, wide)
  | inr l ↦ let now = (fits l).2 in let same = (fits l).1 in omega (arith, few, now, same)
]

pub push_pays : {A B E : Type 0} (r : Result A E) (len capacity len_now capacity_now asked asked_now : ℕ) → len ≤ capacity
    → len_now ≡ (if is_ok r then len + 1 else len) → (len + 1 ≤ capacity → B × (capacity_now ≡ capacity) × (asked_now ≡ asked))
    → (capacity < len + 1 → asked_now ≡ asked + enlarged capacity (len + 1) * 24)
    → (capacity < len + 1 → OnOk r (capacity_now ≡ enlarged capacity (len + 1)))
    → OnOk r (asked_now + 24 * (4 * len_now - 2 * capacity_now) ≤ asked + 24 * (4 * len - 2 * capacity) + 96)
push_pays (Ok x) len capacity len_now capacity_now asked asked_now few longer fits grows larger =
    let paid = pushed len capacity capacity_now asked asked_now few fits grows larger in omega (arith, paid, longer)
push_pays (Err e) len capacity len_now capacity_now asked asked_now few longer fits grows larger = tt

pub push_asks : {A B : Type 0} (len capacity asked asked_now : ℕ) → len ≤ capacity → (len + 1 ≤ capacity → A × B × (asked_now ≡ asked))
    → (capacity < len + 1 → asked_now ≡ asked + enlarged capacity (len + 1) * 24)
    → asked_now ≤ asked + 24 * (4 * len - 2 * capacity) + 96
push_asks len capacity asked asked_now few fits grows = elim (cases_lt capacity (len + 1)) [
  | inl l ↦ let now = grows l in omega (arith, few, now)
  | inr l ↦ let now = (fits l).2 in omega (arith, few, now)
]
