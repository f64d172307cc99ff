-- What the allocator is asked for while a vector grows.
use Rattle.std.proofs.Common.{◌≡◌, ◌≤◌, ◌<◌, ◌+◌, ◌*◌, ℕ, inl, inr, arith}
use Rattle.std.proofs.lemmas.Bool.{cases_lt}
use Rattle.std.proofs.Math.Nat.{mul-le-mul_left}
use Rattle.px_bytes.specs.Allocations.{enlarged}
use Rattle.px_bytes.specs.calls.Grown.{HasGrown}
use Rattle.px_bytes.specs.calls.Reading.{HasRead}

-- ---- a vector that at least doubles

pub grown_more : (len more capacity capacity_now failed_allocations asked asked_now : ℕ) → HasGrown len capacity failed_allocations asked
    → capacity ≤ capacity_now → (len + more ≤ capacity → asked_now ≡ asked)
    → (capacity < len + more → asked_now ≡ asked + enlarged capacity (len + more) * 1)
    → (capacity < len + more → enlarged capacity (len + more) ≤ capacity_now)
    → HasGrown (len + more) capacity_now failed_allocations asked_now
grown_more len more capacity capacity_now failed_allocations asked asked_now had wider fits grows larger =
    let failed = mul-le-mul_left {m = 2 * (len + 65536)} {n = 2 * (len + more + 65536)} failed_allocations (omega arith) in
    elim (cases_lt capacity (len + more)) [
      | inl l ↦ let now = grows l in let most = larger l in omega (arith, had, wider, failed, now, most)
      | inr l ↦ let now = fits l in omega (arith, had, wider, failed, now)
    ]

-- ---- a vector that is made as long as it has to be

pub made_once : {A : Type 0} (capacity n asked asked_now : ℕ) → (n ≤ capacity → A × (asked_now ≡ asked))
    → (capacity < n → asked_now ≡ asked + n * 1) → asked_now ≤ asked + n
made_once capacity n asked asked_now fits grows = elim (cases_lt capacity n) [
  | inl l ↦ let now = grows l in omega (arith, now)
  | inr l ↦ let now = (fits l).1 in omega (arith, now)
]

-- ---- a vector that is read into

pub read_same : (most before len len_now capacity capacity_now asked asked_now : ℕ) → HasRead most before len capacity asked
    → len ≤ len_now → capacity ≤ capacity_now → asked_now ≡ asked → HasRead most before len_now capacity_now asked_now
read_same most before len len_now capacity capacity_now asked asked_now had longer wider same = record {
  bytes = let few = had.bytes in omega (arith, few, longer, same);
  capacities = elim had.capacities [
    | inl l ↦ inl (omega arith)
    | inr (inl l) ↦ inr (inl (omega arith))
    | inr (inr l) ↦ let long = l.0 in let few = l.1 in inr (inr (omega arith, omega arith))
  ];
}
