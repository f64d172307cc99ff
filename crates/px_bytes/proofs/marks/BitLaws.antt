-- Bits of a word from one index up to another, and a bit that is set in a word that isn't 0.
use Rattle.std.proofs.Common.{◌≡◌, ◌⊎◌, ℕ, zero, suc, ◌+◌, ◌-◌, ◌*◌, ◌/◌, ◌%◌, ◌^◌, ◌<◌, ◌≤◌, ap, ◌∙◌, arith, bit_and, bit_or, inl, inr}
use Rattle.std.proofs.Common.{pow_pos, pow_mono}
use Rattle.std.specs.Int.{bit_at}
use Rattle.std.proofs.lemmas.Bool.{cases_lt, cases_eq}
use Rattle.std.proofs.lemmas.Nat.{pow-add, div-mul-add}
use Rattle.std.proofs.lemmas.Nat.Bits.{bit_at_lowest, bit_at-suc, bit_at-lt, bit_at_and, bit_at_or}
use Rattle.std.proofs.lemmas.Nat.Bits.{bit_at_mask_above, bit_at_mask_below}
use Rattle.std.proofs.Math.Nat.{two-pow-succ}

pub shl_one : (n : ℕ) → n < 64 → 1 * 2 ^ n % 2 ^ 64 ≡ 2 ^ n
shl_one n l =
    let small : 2 ^ n < 2 ^ 64 = omega (arith, two-pow-succ n, pow_pos n, pow_mono {i = suc n} {j = 64} (omega arith)) in
    omega arith

-- the low bits of the greatest word
pub shr_ones : (n : ℕ) → n ≤ 64 → (2 ^ 64 - 1) / 2 ^ (64 - n) ≡ 2 ^ n - 1
shr_ones n l =
    ap (λ (x : ℕ). x / 2 ^ (64 - n)) whole ∙ div-mul-add (2 ^ n - 1) (2 ^ (64 - n)) (2 ^ (64 - n) - 1) (omega (arith, pow_pos (64 - n)))
  where
    product : (a b : ℕ) → 0 < a → 0 < b → a * b - 1 ≡ (a - 1) * b + (b - 1)
    product zero b p q = absurd (omega arith)
    product (suc a) b p q =
        let e : suc a * b ≡ a * b + b = omega arith in
        let f : (suc a - 1) * b ≡ a * b = ap (λ (x : ℕ). x * b) {x = suc a - 1} {y = a} (omega arith) in
        omega arith

    whole : 2 ^ 64 - 1 ≡ (2 ^ n - 1) * 2 ^ (64 - n) + (2 ^ (64 - n) - 1)
    whole =
        ap (λ (x : ℕ). x - 1) (ap (λ (x : ℕ). 2 ^ x) {x = 64} {y = n + (64 - n)} (omega arith) ∙ pow-add 2 n (64 - n))
        ∙ product (2 ^ n) (2 ^ (64 - n)) (pow_pos n) (pow_pos (64 - n))

-- the bits from `low` up to `high`, and no others
pub mask_only : (low high k : ℕ) → bit_at (2 ^ high - 2 ^ low) k ≡ 1 → (low ≤ k) × (k < high)
mask_only low high k h = (
  elim (cases_lt k low) [ inl l ↦ absurd (omega (arith, h, bit_at_mask_below low high k l)) | inr l ↦ l ],
  elim (cases_lt k high) [ inl l ↦ l | inr l ↦ absurd (omega (arith, h, bit_at_mask_above low high k l)) ],
)

-- a number that isn't 0 has a bit that is set
some_bit_of : (m fuel : ℕ) → m ≤ fuel → 0 < m → (k : ℕ) × (bit_at m k ≡ 1)
some_bit_of m zero l some = absurd (omega arith)
some_bit_of m (suc fuel) l some = elim (cases_eq (m % 2) 1) [
  | inl odd ↦ (0, bit_at_lowest m ∙ odd)
  | inr even ↦
      let half = some_bit_of (m / 2) fuel (omega arith) (omega arith) in
      (suc half.0, bit_at-suc m half.0 ∙ half.1)
]

pub some_bit : (m : ℕ) → 0 < m → (k : ℕ) × (bit_at m k ≡ 1)
some_bit m some = some_bit_of m m (omega arith) some

pub both_bits : (a b k : ℕ) → bit_at (bit_and a b) k ≡ 1 → (bit_at a k ≡ 1) × (bit_at b k ≡ 1)
both_bits a b k h =
    let e = bit_at_and a b k in let x = bit_at-lt a k in let y = bit_at-lt b k in (omega arith, omega arith)

pub either_bit : (a b k : ℕ) → bit_at (bit_or a b) k ≡ 1 → (bit_at a k ≡ 1) ⊎ (bit_at b k ≡ 1)
either_bit a b k h = let e = bit_at_or a b k in let x = bit_at-lt a k in let y = bit_at-lt b k in
    elim (cases_eq (bit_at a k) 1) [ inl i ↦ inl i | inr i ↦ inr (omega arith) ]

pub left_bit : (a b k : ℕ) → bit_at a k ≡ 1 → bit_at (bit_or a b) k ≡ 1
left_bit a b k h = let e = bit_at_or a b k in let y = bit_at-lt b k in omega arith

pub right_bit : (a b k : ℕ) → bit_at b k ≡ 1 → bit_at (bit_or a b) k ≡ 1
right_bit a b k h = let e = bit_at_or a b k in let y = bit_at-lt a k in omega arith
