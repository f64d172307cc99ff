-- The name at the end of a namespace.
use Rattle.std.proofs.Common.{◌≡◌, ◌<◌, ◌+◌, ◌&&◌, ◌||◌, ℕ, Bool, true, false, suc, zero, if◌then◌else◌, List, [], ◌∷◌, ◌++◌, length, take, drop, get_or, refl, sym, ap, subst, ◌∙◌, arith, drop-drop}
use Rattle.std.proofs.Math.Seq.{take-add}
use Rattle.px_xmp_forms.specs.Labels.{is_name_start, is_name_char, are_name_chars, is_name, name_at_end, before_name}
use Rattle.px_xmp_forms.specs.calls.Ends.{before_start}

-- the end from an octet on has the name at the end, and before it is the same
abbrev pub HasEnd : ℕ → List ℕ → Type 0
HasEnd n x = (name_at_end x ≡ name_at_end (drop n x)) × (before_name x ≡ take n x ++ before_name (drop n x))

no_start : (o : ℕ) → is_name_char o ≡ false → is_name_start o ≡ false
no_start o h = first (is_name_start o) _ _ _ h
  where
    first : (a b c d : Bool) → (a || b || c || d) ≡ false → a ≡ false
    first true b c d e = absurd (cc)
    first false b c d e = refl

no_char : (x : List ℕ) (n : ℕ) (d : ℕ) → n < length x → is_name_char (get_or x n d) ≡ false → are_name_chars x ≡ false
no_char [] n d h e = absurd (omega (arith, h))
no_char (o ∷ x) zero d h e = ap (λ (b : Bool). b && are_name_chars x) e
no_char (o ∷ x) (suc n) d h e = both (is_name_char o) (are_name_chars x) (no_char x n d (omega (arith, h)) e)
  where
    both : (a b : Bool) → b ≡ false → (a && b) ≡ false
    both true b e = e
    both false b e = refl

chars_false : (s : Bool) (b : Bool) → b ≡ false → (s && b) ≡ false
chars_false true b e = e
chars_false false b e = refl

-- after an octet that no name has
pub end_after : (x : List ℕ) (n m d : ℕ) → n < length x → is_name_char (get_or x n d) ≡ false → m ≡ suc n → HasEnd m x
end_after [] n m d h e k = absurd (omega (arith, h))
end_after (o ∷ x) zero m d h e k =
    let none : is_name (o ∷ x) ≡ false = ap (λ (b : Bool). b && are_name_chars x) (no_start o e) in
    subst (λ (z : ℕ). HasEnd z (o ∷ x)) (sym k)
    (ap (λ (b : Bool). if b then o ∷ x else name_at_end x) none, ap (λ (b : Bool). if b then [] else o ∷ before_name x) none)
end_after (o ∷ x) (suc n) m d h e k =
    let none : is_name (o ∷ x) ≡ false = chars_false (is_name_start o) (are_name_chars x) (no_char x n d (omega (arith, h)) e) in
    let (name, before) = end_after x n (suc n) d (omega (arith, h)) e refl in
    subst (λ (z : ℕ). HasEnd z (o ∷ x)) (sym k) (
      ap (λ (b : Bool). if b then o ∷ x else name_at_end x) none ∙ name,
      ap (λ (b : Bool). if b then [] else o ∷ before_name x) none ∙ ap (λ (z : List ℕ). o ∷ z) before,
    )

-- of octets that names have, the name begins with the first that a name can begin with
pub name_found : (x : List ℕ) → are_name_chars x ≡ true → (name_at_end x ≡ drop (before_start x) x) × (before_name x ≡ take (before_start x) x)
name_found [] e = (refl, refl)
name_found (o ∷ x) e =
    let (name, before) = name_found x (second (is_name_char o) (are_name_chars x) e) in
    by_start (is_name_start o) (second (is_name_char o) (are_name_chars x) e) name before
  where
    second : (a b : Bool) → (a && b) ≡ true → b ≡ true
    second true b f = f
    second false b f = absurd (cc)

    by_start : (s : Bool) → are_name_chars x ≡ true → name_at_end x ≡ drop (before_start x) x → before_name x ≡ take (before_start x) x
        → ((if s && are_name_chars x then o ∷ x else name_at_end x) ≡ drop (if s then 0 else suc (before_start x)) (o ∷ x))
        × ((if s && are_name_chars x then [] else o ∷ before_name x) ≡ take (if s then 0 else suc (before_start x)) (o ∷ x))
    by_start true all name before =
        (ap (λ (b : Bool). if b then o ∷ x else name_at_end x) all, ap (λ (b : Bool). if b then [] else o ∷ before_name x) all)
    by_start false all name before = (name, ap (λ (z : List ℕ). o ∷ z) before)

-- the parts before and after the first that a name can begin with, in the part that has only octets that names have
pub parts_found : (x : List ℕ) (n k : ℕ) → HasEnd n x → are_name_chars (drop n x) ≡ true → k ≡ before_start (drop n x)
    → (take (n + k) x ≡ before_name x) × (drop (n + k) x ≡ name_at_end x)
parts_found x n k (name, before) all e =
    let (at_end, first) = name_found (drop n x) all in (
      take-add n k x ∙ ap (λ (z : List ℕ). take n x ++ z) (ap (λ (z : ℕ). take z (drop n x)) e ∙ sym first) ∙ sym before,
      sym (drop-drop k n x) ∙ ap (λ (z : ℕ). drop z (drop n x)) e ∙ sym at_end ∙ sym name,
    )
