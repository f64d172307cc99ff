-- Ranges that share no byte, and the marks of their bytes.
use Rattle.std.proofs.Common.{◌≡◌, ◌≤◌, ◌<◌, ◌+◌, ℕ, Bool, true, false, cond, List, ◌∷◌}
use Rattle.std.proofs.Common.{min, max, Some, ◌⊎◌, inl, inr, refl, sym, ap, subst, ◌∙◌, arith}
use Rattle.std.proofs.lemmas.Bool.{cases_lt, false_from_ne_true}
use Rattle.std.specs.Ordering.{nat_cmp, is_eq}
use Rattle.std.specs.Cmp.{nat_cmp_is}
use Rattle.std.specs.declared.cmp.Ordering.TheVariants.{Less, Equal, Greater}
use Rattle.std.specs.Map.{lookup}
use Rattle.std.specs.BTreeMap.{is_at}
use Rattle.px_bytes.specs.Claimed.{IsClaimed, Takes, IsFree, IsTaken, AreApart}
use Rattle.px_bytes.specs.Range.{Range, range, is_free, Agrees}
use Rattle.px_bytes.specs.calls.Marks.{IsClear, HasOne, MarksRange}
use Rattle.px_bytes.specs.calls.Marked.{Marked}

-- ---- the marks decide

pub free_clear : (claimed : List (ℕ × ℕ)) (words : List ℕ) (start end : ℕ) → Marked claimed words → IsClear words start end
    → IsFree claimed start end
free_clear claimed words start end m clear s e holds = elim (cases_lt (max s start) (min e end)) [
  | inl l ↦ absurd (clear (max s start) (omega arith) (omega arith) (m.marked s e (max s start) holds (omega arith) (omega arith)))
  | inr l ↦ l
]

pub taken_marked : (claimed : List (ℕ × ℕ)) (words : List ℕ) (start end : ℕ) → Marked claimed words → HasOne words start end
    → IsTaken claimed start end
taken_marked claimed words start end m one =
    let owner = m.owned one.0 one.3 in
    let a = owner.3 in
    let b = owner.4 in
    let c = one.1 in
    let d = one.2 in
    (owner.0, owner.1, owner.2, omega arith)

-- and so does a list that agrees
pub not_free : (taken : List Range) (claimed : List (ℕ × ℕ)) (words : List ℕ) (start size : ℕ) → Agrees taken claimed → Marked claimed words
    → HasOne words start (start + size) → is_free taken (range start size) ≡ false
not_free taken claimed words start size agrees m one = false_from_ne_true (is_free taken (range start size)) (λ e.
    let t = taken_marked claimed words start (start + size) m one in
    let gap : min t.1 (start + size) ≤ max t.0 start = agrees.free start size e t.0 t.1 t.2 in
    let shared = t.3 in
    omega arith)

-- ---- one range more

is_eq_same : (s q : ℕ) → is_eq (nat_cmp s q) ≡ true → s ≡ q
is_eq_same s q h = elim (cases_lt s q) [
  | inl below ↦ let e : Less ≡ nat_cmp s q = nat_cmp_is s q Less below in let clash : false ≡ true = ap is_eq e ∙ h in absurd (cc)
  | inr from ↦ elim (cases_lt q s) [
    | inl above ↦ let e : Greater ≡ nat_cmp s q = nat_cmp_is s q Greater above in let clash : false ≡ true = ap is_eq e ∙ h in absurd (cc)
    | inr upto ↦ omega arith
  ]
]

is_eq_refl : (s : ℕ) → is_eq (nat_cmp s s) ≡ true
is_eq_refl s = sym (ap is_eq (nat_cmp_is s s Equal refl))

-- before the others
takes_front : (claimed new : List (ℕ × ℕ)) (start end : ℕ) → AreApart claimed → IsFree claimed start end → start < end
    → new ≡ (start, end) ∷ claimed → Takes claimed new start end
takes_front claimed new start end ok free some same = subst (λ (xs : List (ℕ × ℕ)). Takes claimed xs start end) (sym same) (record {
  here = ap (λ (b : Bool). cond b (Some end) (lookup (is_at (nat_cmp start)) claimed)) (is_eq_refl start);
  kept = λ s e h.
      let clear : min e end ≤ max s start = free s e h in
      let full : s < e = ok.not_empty s e h in
      ap (λ (b : Bool). cond b (Some end) (lookup (is_at (nat_cmp s)) claimed))
      (false_from_ne_true (is_eq (nat_cmp s start)) (λ e. let same = is_eq_same s start e in absurd (omega arith))) ∙ h;
  only = λ s e h. which s e (is_eq (nat_cmp s start)) refl h;
})
  where
    which : (s e : ℕ) (b : Bool) → is_eq (nat_cmp s start) ≡ b → cond b (Some end) (lookup (is_at (nat_cmp s)) claimed) ≡ Some e
        → ((start ≡ s) × (e ≡ end)) ⊎ IsClaimed claimed s e
    which s e true at h = inl (sym (is_eq_same s start at), cc)
    which s e false at h = inr h

-- claimed ranges and one more that is free
apart_with : (old new : List (ℕ × ℕ)) (start end : ℕ) → AreApart old → IsFree old start end → start < end → Takes old new start end
    → AreApart new
apart_with old new start end ok free some takes = record {
  not_empty = λ s e holds. elim (takes.only s e holds) [
    | inl h ↦ let a = h.0 in let b = h.1 in omega arith
    | inr h ↦ ok.not_empty s e h
  ];
  apart = λ s e t f p q before. elim (takes.only s e p) [
    | inl h ↦ elim (takes.only t f q) [
      | inl i ↦ let a = h.0 in let b = i.0 in absurd (omega arith)
      | inr i ↦
          let a = h.0 in
          let b = h.1 in
          let clear : min f end ≤ max t start = free t f i in
          let has : t < f = ok.not_empty t f i in
          omega arith
    ]
    | inr h ↦ elim (takes.only t f q) [
      | inl i ↦
          let a = i.0 in
          let b = i.1 in
          let clear : min e end ≤ max s start = free s e h in
          let has : s < e = ok.not_empty s e h in
          omega arith
      | inr i ↦ ok.apart s e t f h i before
    ]
  ];
}

-- and its marks
marked_with : (old new : List (ℕ × ℕ)) (start end : ℕ) (words put : List ℕ) → Marked old words → Takes old new start end
    → MarksRange words put start end → Marked new put
marked_with old new start end words put m takes puts = record {
  marked = λ s e n holds from before. elim (takes.only s e holds) [
    | inl h ↦ let a = h.0 in let b = h.1 in puts.here n (omega arith) (omega arith)
    | inr h ↦ puts.kept n (m.marked s e n h from before)
  ];
  owned = λ n h. elim (puts.only n h) [
    | inl l ↦ (start, end, takes.here, l.0, l.1)
    | inr k ↦ let owner = m.owned n k in (owner.0, owner.1, takes.kept owner.0 owner.1 owner.2, owner.3, owner.4)
  ];
}

-- the state after a call that has marked the bytes of a range and listed the range
pub record More (old new : List (ℕ × ℕ)) (start end : ℕ) (put : List ℕ) : Type 0 where
  pub free : IsFree old start end
  pub takes : Takes old new start end
  pub apart : AreApart new
  pub marked : Marked new put

pub one_more : (old new : List (ℕ × ℕ)) (start end : ℕ) (words put : List ℕ) → AreApart old → Marked old words → start < end
    → IsClear words start end → MarksRange words put start end → new ≡ (start, end) ∷ old → More old new start end put
one_more old new start end words put ok m some clear puts same =
    let free = free_clear old words start end m clear in
    let takes = takes_front old new start end ok free some same in
    record {
      free = free;
      takes = takes;
      apart = apart_with old new start end ok free some takes;
      marked = marked_with old new start end words put m takes puts;
    }
