-- Claimed bytes are counted once, so there are no more of them than bytes up to the last one.
use Rattle.std.proofs.Common.{◌≡◌, ◌≤◌, ◌<◌, ◌+◌, ◌*◌, ◌/◌, ◌%◌, ℕ, zero, suc, List, [], ◌∷◌, length, max, refl}
use Rattle.std.proofs.Common.{sym, subst, arith, inl, inr}
use Rattle.std.proofs.lemmas.Bool.{cases_lt}
use Rattle.std.proofs.lemmas.Nat.Bits.{bit_at-zero}
use Rattle.px_bytes.specs.Claimed.{reach, claimed_bytes, mark_bytes, AreApart}
use Rattle.px_bytes.specs.calls.Marks.{Has, IsClear, MarksRange}
use Rattle.px_bytes.specs.calls.Marked.{below, Once, Marked}

below_zero : (claimed : List (ℕ × ℕ)) → below 0 claimed ≡ 0
below_zero [] = refl
below_zero (r ∷ claimed) = let rest = below_zero claimed in omega arith

-- all claimed bytes are below the reach
below_reach : (claimed : List (ℕ × ℕ)) (n : ℕ) → reach claimed ≤ n → below n claimed ≡ claimed_bytes claimed
below_reach [] n l = refl
below_reach (r ∷ claimed) n l = let rest = below_reach claimed n (omega arith) in omega arith

below_most : (claimed : List (ℕ × ℕ)) (words : List ℕ) → Once claimed words → (n : ℕ) → below n claimed ≤ n
below_most claimed words once zero = let none = below_zero claimed in omega arith
below_most claimed words once (suc n) =
    let rest = below_most claimed words once n in
    let step = subst (λ (x : ℕ). below x claimed ≤ below n claimed + 1) {x = n + 1} {y = suc n} (omega arith) (once.most n) in
    omega arith

pub claimed_within : (claimed : List (ℕ × ℕ)) (words : List ℕ) → Once claimed words → claimed_bytes claimed ≤ reach claimed
claimed_within claimed words once =
    let all = below_reach claimed (reach claimed) (omega arith) in
    let most = below_most claimed words once (reach claimed) in
    omega arith

-- ---- what the marks of claimed ranges satisfy

abbrev pub AreKept : List (ℕ × ℕ) → List ℕ → Type 0
AreKept claimed words = AreApart claimed × Marked claimed words × Once claimed words × (8 * length words ≡ mark_bytes (reach claimed))

-- without a range nothing is marked
pub no_ranges : (claimed : List (ℕ × ℕ)) (words : List ℕ) → claimed ≡ [] → words ≡ [] → AreKept claimed words
no_ranges claimed words none empty =
    subst (λ (xs : List (ℕ × ℕ)). AreKept xs words) (sym none) (subst (λ (ws : List ℕ). AreKept [] ws) (sym empty) (
      record {
        not_empty = λ s e h. absurd (cc);
        apart = λ s e t f h i before. absurd (cc);
      },
      record {
        marked = λ s e n h from before. absurd (cc);
        owned = λ n h. let zero = bit_at-zero (n % 64) in absurd (omega (arith, h, zero));
      },
      record {
        most = λ n. omega arith;
        marked = λ n l. absurd (omega arith);
      },
      refl,
    ))

-- the words of marks after one range more
pub words_more : (old new : List (ℕ × ℕ)) (start end had has : ℕ) → 8 * had ≡ mark_bytes (reach old) → has ≡ max had ((end + 63) / 64)
    → new ≡ (start, end) ∷ old → 8 * has ≡ mark_bytes (reach new)
words_more old new start end had has before grown more =
    subst (λ (xs : List (ℕ × ℕ)). 8 * has ≡ mark_bytes (reach xs)) (sym more) (omega arith)

-- a range more, whose bytes were not marked
pub once_more : (old : List (ℕ × ℕ)) (start end : ℕ) (words put : List ℕ) → Once old words → start < end → IsClear words start end
    → MarksRange words put start end → Once ((start, end) ∷ old) put
once_more old start end words put once some clear puts = record { most = most; marked = marked }
  where
    -- the old ranges have no byte of the new one
    fresh : (n : ℕ) → start ≤ n → n < end → below (n + 1) old ≤ below n old
    fresh n from before = elim (cases_lt (below n old) (below (n + 1) old)) [
      | inl l ↦ absurd (clear n from before (once.marked n l))
      | inr l ↦ l
    ]

    most : (n : ℕ) → below (n + 1) ((start, end) ∷ old) ≤ below n ((start, end) ∷ old) + 1
    most n = elim (cases_lt n start) [
      | inl l ↦ let step = once.most n in omega arith
      | inr from ↦ elim (cases_lt n end) [
        | inl before ↦ let step = fresh n from before in omega arith
        | inr l ↦ let step = once.most n in omega arith
      ]
    ]

    marked : (n : ℕ) → below n ((start, end) ∷ old) < below (n + 1) ((start, end) ∷ old) → Has put n
    marked n more = elim (cases_lt n start) [
      | inl l ↦ puts.kept n (once.marked n (omega arith))
      | inr from ↦ elim (cases_lt n end) [
        | inl before ↦ puts.here n from before
        | inr l ↦ puts.kept n (once.marked n (omega arith))
      ]
    ]
