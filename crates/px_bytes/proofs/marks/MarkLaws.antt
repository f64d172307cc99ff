-- Marks as bits of words: testing and setting those of one word.
use Rattle.std.proofs.Common.{◌≡◌, ◌≢◌, ◌⊎◌, inl, inr, ℕ, ◌+◌, ◌-◌, ◌*◌, ◌/◌, ◌%◌, ◌^◌, ◌<◌, ◌≤◌, List, length, get_or, set}
use Rattle.std.proofs.Common.{sym, ap, ◌∙◌, arith, bit_and}
use Rattle.std.specs.Int.{bit_at}
use Rattle.std.proofs.lemmas.Bool.{cases_lt, cases_eq}
use Rattle.std.proofs.lemmas.Nat.{div-add-mod', div-mul-add, mod-mul-add, mod_below}
use Rattle.std.proofs.lemmas.Nat.Bits.{bit_at-zero, bit_at_and, bit_at_mask_inside}
use Rattle.std.proofs.lemmas.List.{get_or-set_same, get_or-set_other}
use Rattle.px_bytes.specs.calls.Marks.{Has, IsClear, HasOne, MarksRange}
use Rattle.px_bytes.proofs.marks.BitLaws.{mask_only, some_bit, both_bits}

-- a mark's word and bit
pub word_div_mod : (n : ℕ) → (n / 64 * 64 + n % 64 ≡ n) × (n % 64 < 64)
word_div_mod n = (div-add-mod' n 64, mod_below n 64 (omega arith))

pub has_at : (words : List ℕ) (i k : ℕ) → k < 64 → bit_at (get_or words i 0) k ≡ 1 → Has words (i * 64 + k)
has_at words i k l h =
    let p : (i * 64 + k) / 64 ≡ i = div-mul-add i 64 k l in
    let q : (i * 64 + k) % 64 ≡ k = mod-mul-add i 64 k l in
    ap (λ (x : ℕ). bit_at (get_or words x 0) ((i * 64 + k) % 64)) p ∙ ap (λ (x : ℕ). bit_at (get_or words i 0) x) q ∙ h

-- a mark in a word that is known
bit_here : (words : List ℕ) (i n : ℕ) → n / 64 ≡ i → Has words n → bit_at (get_or words i 0) (n % 64) ≡ 1
bit_here words i n e h = ap (λ (x : ℕ). bit_at (get_or words x 0) (n % 64)) (sym e) ∙ h

-- an index between two of a word is in that word
in_word : (i low high n : ℕ) → high ≤ 64 → i * 64 + low ≤ n → n < i * 64 + high → (n / 64 ≡ i) × (low ≤ n % 64) × (n % 64 < high)
in_word i low high n bound from before = let s = word_div_mod n in let a = s.0 in let b = s.1 in (omega arith, omega arith, omega arith)

-- ---- whether marks of a word are set

pub clear_word : (words : List ℕ) (i low high : ℕ) → high ≤ 64 → bit_and (get_or words i 0) (2 ^ high - 2 ^ low) ≡ 0
    → IsClear words (i * 64 + low) (i * 64 + high)
clear_word words i low high bound none n from before h =
    let at = in_word i low high n bound from before in
    let a = bit_here words i n at.0 h in
    let b = bit_at_mask_inside low high (n % 64) at.1 at.2 in
    let both = bit_at_and (get_or words i 0) (2 ^ high - 2 ^ low) (n % 64) in
    let clear = ap (λ (x : ℕ). bit_at x (n % 64)) none ∙ bit_at-zero (n % 64) in
    omega (arith, a, b, both, clear)

pub marked_word : (words : List ℕ) (i low high : ℕ) → high ≤ 64 → bit_and (get_or words i 0) (2 ^ high - 2 ^ low) ≢ 0
    → HasOne words (i * 64 + low) (i * 64 + high)
marked_word words i low high bound some =
    let bit = some_bit (bit_and (get_or words i 0) (2 ^ high - 2 ^ low)) (omega arith) in
    let both = both_bits (get_or words i 0) (2 ^ high - 2 ^ low) bit.0 bit.1 in
    let inside = mask_only low high bit.0 both.1 in
    (i * 64 + bit.0, omega (arith, inside.0), omega (arith, inside.1), has_at words i bit.0 (omega (arith, inside.1)) both.0)

-- ---- more marks

-- a word with its bits from `low` up to `high` set and those that it had
pub put_word : (words : List ℕ) (i low high word : ℕ) → i < length words → high ≤ 64
    → ((k : ℕ) → low ≤ k → k < high → bit_at word k ≡ 1)
    → ((k : ℕ) → k < 64 → bit_at (get_or words i 0) k ≡ 1 → bit_at word k ≡ 1)
    → ((k : ℕ) → k < 64 → bit_at word k ≡ 1 → ((low ≤ k) × (k < high)) ⊎ (bit_at (get_or words i 0) k ≡ 1))
    → MarksRange words (set words i word) (i * 64 + low) (i * 64 + high)
put_word words i low high word inside bound all kept only = record {
  here = λ n from before. let at = in_word i low high n bound from before in has_here n at.0 (all (n % 64) at.1 at.2);
  kept = λ n h. elim (cases_eq (n / 64) i) [
    | inl e ↦ has_here n e (kept (n % 64) (word_div_mod n).1 (bit_here words i n e h))
    | inr ne ↦ ap (λ (x : ℕ). bit_at x (n % 64)) (get_or-set_other words i (n / 64) word 0 ne) ∙ h
  ];
  only = λ n h. elim (cases_eq (n / 64) i) [
    | inl e ↦
        let bit : bit_at word (n % 64) ≡ 1 = ap (λ (x : ℕ). bit_at x (n % 64)) (sym same) ∙ bit_here next i n e h in
        let s = (word_div_mod n).0 in
        elim (only (n % 64) (word_div_mod n).1 bit) [
          | inl l ↦ inl (omega (arith, l.0, e, s), omega (arith, l.1, e, s))
          | inr k ↦ inr (ap (λ (x : ℕ). bit_at (get_or words x 0) (n % 64)) e ∙ k)
        ]
    | inr ne ↦ inr (sym (ap (λ (x : ℕ). bit_at x (n % 64)) (get_or-set_other words i (n / 64) word 0 ne)) ∙ h)
  ];
}
  where
    next : List ℕ
    next = set words i word

    same : get_or next i 0 ≡ word
    same = get_or-set_same words i word 0 inside

    has_here : (n : ℕ) → n / 64 ≡ i → bit_at word (n % 64) ≡ 1 → Has next n
    has_here n e h = ap (λ (x : ℕ). bit_at (get_or next x 0) (n % 64)) e ∙ ap (λ (x : ℕ). bit_at x (n % 64)) same ∙ h

pub put_both : (one two three : List ℕ) (start mid low high end : ℕ) → start ≤ mid → mid ≡ low → low ≤ high → high ≡ end
    → MarksRange one two start mid → MarksRange two three low high → MarksRange one three start end
put_both one two three start mid low high end l meets m ends a b = record {
  here = λ n from before. elim (cases_lt n mid) [
    | inl early ↦ b.kept n (a.here n from early)
    | inr late ↦ b.here n (omega arith) (omega arith)
  ];
  kept = λ n h. b.kept n (a.kept n h);
  only = λ n h. elim (b.only n h) [
    | inl k ↦ let from = k.0 in let before = k.1 in inl (omega arith, omega arith)
    | inr k ↦ elim (a.only n k) [
      | inl j ↦ let from = j.0 in let before = j.1 in inl (from, omega arith)
      | inr j ↦ inr j
    ]
  ];
}
