-- The names of groups, compared.
use Rattle.std.proofs.Common.{◌≡◌, ◌<◌, ◌⊎◌, ◌==◌, ℕ, nat_lt, true, false, ◌&&◌, inl, inr, sym, arith, eqb-true, eq-eqb, ltb-true, lt-ltb}
use Rattle.std.proofs.lemmas.Bool.{and_parts, and_from, or_cases, or_left, or_right, false_from_ne_true}
use Rattle.px_iim.specs.Group.{Group, is_at, is_before}

pub at_parts : (rec number : ℕ) (g : Group) → is_at rec number g ≡ true → (g.rec ≡ rec) × (g.number ≡ number)
at_parts rec number g h = let p = and_parts (g.rec == rec) (g.number == number) h in (eqb-true g.rec rec p.0, eqb-true g.number number p.1)

pub at_true : (rec number : ℕ) (g : Group) → g.rec ≡ rec → g.number ≡ number → is_at rec number g ≡ true
at_true rec number g p q = and_from (g.rec == rec) (g.number == number) (eq-eqb g.rec rec p) (eq-eqb g.number number q)

pub at_false : (rec number : ℕ) (g : Group) → (g.rec ≡ rec → g.number ≡ number → ⊥) → is_at rec number g ≡ false
at_false rec number g h = false_from_ne_true (is_at rec number g) (λ t. let p = at_parts rec number g t in h p.0 p.1)

-- by record, then number
abbrev pub Before : ℕ → ℕ → ℕ → ℕ → Type 0
Before rec number other_rec other = (rec < other_rec) ⊎ ((rec ≡ other_rec) × (number < other))

pub before_parts : (rec number other_rec other : ℕ) → is_before rec number other_rec other ≡ true → Before rec number other_rec other
before_parts rec number other_rec other h = elim (or_cases (nat_lt rec other_rec) ((rec == other_rec) && nat_lt number other) h) [
  | inl t ↦ inl (ltb-true rec other_rec t)
  | inr t ↦ let p = and_parts (rec == other_rec) (nat_lt number other) t in inr (eqb-true rec other_rec p.0, ltb-true number other p.1)
]

pub before_true : (rec number other_rec other : ℕ) → Before rec number other_rec other → is_before rec number other_rec other ≡ true
before_true rec number other_rec other (inl l) = or_left (nat_lt rec other_rec) _ (lt-ltb rec other_rec l)
before_true rec number other_rec other (inr p) =
    or_right (nat_lt rec other_rec) _ (and_from (rec == other_rec) (nat_lt number other) (eq-eqb rec other_rec p.0)
    (lt-ltb number other p.1))

pub before_false : (rec number other_rec other : ℕ) → (Before rec number other_rec other → ⊥) → is_before rec number other_rec other ≡ false
before_false rec number other_rec other h =
    false_from_ne_true (is_before rec number other_rec other) (λ t. h (before_parts rec number other_rec other t))

pub before_trans : (a b c d e f : ℕ) → is_before a b c d ≡ true → is_before c d e f ≡ true → is_before a b e f ≡ true
before_trans a b c d e f h k = before_true a b e f (join (before_parts a b c d h) (before_parts c d e f k))
  where
    join : Before a b c d → Before c d e f → Before a b e f
    join (inl l) (inl m) = inl (omega arith)
    join (inl l) (inr m) = let q = m.0 in inl (omega arith)
    join (inr l) (inl m) = let q = l.0 in inl (omega arith)
    join (inr l) (inr m) = let q = l.0 in let r = m.0 in let s = l.1 in let t = m.1 in inr (omega arith, omega arith)

-- a name doesn't come before itself
pub before_apart : (a b c d : ℕ) → is_before a b c d ≡ true → a ≡ c → b ≡ d → ⊥
before_apart a b c d h p q = elim (before_parts a b c d h) [ inl l ↦ omega arith | inr l ↦ let m = l.1 in omega arith ]

-- the position of a name relative to a group
abbrev pub At : ℕ → ℕ → Group → Type 0
At rec number g = (is_at rec number g ≡ true) × (g.rec ≡ rec) × (g.number ≡ number)

abbrev pub Under : ℕ → ℕ → Group → Type 0
Under rec number g = (is_at rec number g ≡ false) × (is_before rec number g.rec g.number ≡ true)

abbrev pub Over : ℕ → ℕ → Group → Type 0
Over rec number g =
    (is_at rec number g ≡ false) × (is_before rec number g.rec g.number ≡ false) × (is_before g.rec g.number rec number ≡ true)

name_cases : (a b c d : ℕ) → ((a ≡ c) × (b ≡ d)) ⊎ (Before a b c d ⊎ Before c d a b)
name_cases a b c d = grind arith

pub group_cases : (rec number : ℕ) (g : Group) → At rec number g ⊎ (Under rec number g ⊎ Over rec number g)
group_cases rec number g = elim (name_cases rec number g.rec g.number) [
  | inl e ↦ inl (at_true rec number g (sym e.0) (sym e.1), sym e.0, sym e.1)
  | inr (inl u) ↦ inr (inl (at_false rec number g (λ p q. omega arith), before_true rec number g.rec g.number u))
  | inr (inr o) ↦ inr (inr (
    at_false rec number g (λ p q. omega arith),
    before_false rec number g.rec g.number (λ u. omega arith),
    before_true g.rec g.number rec number o,
  ))
]
