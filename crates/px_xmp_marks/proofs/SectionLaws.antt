-- What is read as a section is one, and each is read.
use Rattle.std.proofs.Common.{◌≡◌, ◌≤◌, ◌+◌, ◌==◌, ℕ, suc, true, false, nat_eq, get_or, codes, List, [], ◌∷◌, ◌++◌, length, take, drop}
use Rattle.std.proofs.Common.{Option, Some, None, option_map, refl, sym, ap, subst, inl, inr, ◌∙◌, arith, eq-eqb, append_assoc, length-append}
use Rattle.std.proofs.lemmas.List.{take_at}
use Rattle.std.proofs.lemmas.Bool.{cases_Bool, cond-true, cond-false}
use Rattle.std.specs.List.{starts_with}
use Rattle.px_xmp_marks.specs.Sections.{find, section, HasNo, IsSection, SectionsAreRead, OnlySectionsAreRead}
use Rattle.px_xmp_marks.proofs.NameLaws.{some_same}
use Rattle.px_xmp_marks.proofs.TagLaws.{starts_from}

pub find_at : (w : List ℕ) (n : ℕ) (y : List ℕ) → 1 ≤ length y → starts_with nat_eq y w ≡ true → find w n y ≡ Some n
unfolding find
find_at w n [] h e = absurd (omega arith)
find_at w n (o ∷ y) h e = cond-true (starts_with nat_eq (o ∷ y) w) (Some n) (find w (suc n) y) e

pub find_on : (w : List ℕ) (n m : ℕ) (y : List ℕ) → m ≡ suc n → 1 ≤ length y → starts_with nat_eq y w ≡ false
    → find w n y ≡ find w m (drop 1 y)
unfolding find
find_on w n m [] s h e = absurd (omega arith)
find_on w n m (o ∷ y) s h e =
    cond-false (starts_with nat_eq (o ∷ y) w) (Some n) (find w (suc n) y) e ∙ ap (λ (j : ℕ). find w j y) (sym s)

-- the first place of w, and what is before it
pub record Found (w x : List ℕ) (n : ℕ) : Type 0 where
  pub whole : x ≡ take n x ++ (w ++ drop (length w) (drop n x))
  pub none : (a b : List ℕ) → x ≡ a ++ (w ++ b) → n ≤ length a
  pub size : length (take n x) ≡ n

pub find_found : (w : List ℕ) → ((b : List ℕ) → starts_with nat_eq (w ++ b) w ≡ true) → (j : ℕ) (x : List ℕ) (n : ℕ) → find w j x ≡ Some n
    → (k : ℕ) × (n ≡ j + k) × Found w x k
unfolding find
find_found w s j [] n h = absurd (cc)
find_found w s j (o ∷ x) n h = elim (cases_Bool (starts_with nat_eq (o ∷ x) w)) [
  | inl t ↦
      let same = some_same j n (sym (cond-true (starts_with nat_eq (o ∷ x) w) (Some j) (find w (suc j) x) t) ∙ h) in
      (0, omega (arith, same), record { whole = starts_from w (o ∷ x) t; none = λ a b e. omega arith; size = refl })
  | inr f ↦
      let (k, same, r) = find_found w s (suc j) x n (sym (cond-false (starts_with nat_eq (o ∷ x) w) (Some j) (find w (suc j) x) f) ∙ h) in (
        suc k,
        omega (arith, same),
        record {
          whole = ap (λ (z : List ℕ). o ∷ z) r.whole;
          none = λ a b e. after x k r.none f a b e;
          size = omega (arith, r.size);
        },
      )
]
  where
    after : (x : List ℕ) (k : ℕ) → ((a b : List ℕ) → x ≡ a ++ (w ++ b) → k ≤ length a) → starts_with nat_eq (o ∷ x) w ≡ false
        → (a b : List ℕ) → o ∷ x ≡ a ++ (w ++ b) → suc k ≤ length a
    after x k r f [] b e =
        let t : true ≡ false = sym (s b) ∙ ap (λ (z : List ℕ). starts_with nat_eq z w) (sym e) ∙ f in absurd (cc)
    after x k r f (c ∷ a) b e = let l = r a b (ap (λ (z : List ℕ). drop 1 z) e) in omega (arith, l)

pub numbers_differ : (a b : ℕ) → a ≡ b → (a == b) ≡ false → ⊥
numbers_differ a b e h = let t = eq-eqb a b e in absurd (cc)

-- ---- sections

abbrev section_end : List ℕ
section_end = codes "]]>"

section_here : (o : ℕ) (y rest : List ℕ) → HasNo section_end (o ∷ y) → starts_with nat_eq (o ∷ (y ++ (section_end ++ rest))) section_end ≡ false
section_here o y rest h = elim (cases_Bool (starts_with nat_eq (o ∷ (y ++ (section_end ++ rest))) section_end)) [
  | inr f ↦ f
  | inl t ↦ absurd (by_length o y h (starts_from section_end (o ∷ (y ++ (section_end ++ rest))) t))
]
  where
    by_length : (o : ℕ) (y : List ℕ) → HasNo section_end (o ∷ y)
        → o ∷ (y ++ (section_end ++ rest)) ≡ section_end ++ drop 3 (o ∷ (y ++ (section_end ++ rest))) → ⊥
    by_length o [] h e = numbers_differ 93 62 (ap (λ (z : List ℕ). get_or z 2 0) e) refl
    by_length o (d ∷ []) h e = numbers_differ 93 62 (ap (λ (z : List ℕ). get_or z 2 0) e) refl
    by_length o (d ∷ f ∷ y) h e =
        let a : o ≡ 93 = ap (λ (z : List ℕ). get_or z 0 0) e in
        let b : d ≡ 93 = ap (λ (z : List ℕ). get_or z 1 0) e in
        let c : f ≡ 62 = ap (λ (z : List ℕ). get_or z 2 0) e in
        h [] y (cc)

section_found : (j : ℕ) (y rest : List ℕ) → HasNo section_end y → find section_end j (y ++ (section_end ++ rest)) ≡ Some (j + length y)
unfolding find
section_found j [] rest h = ap Some (omega arith)
section_found j (o ∷ y) rest h =
    cond-false (starts_with nat_eq (o ∷ (y ++ (section_end ++ rest))) section_end) (Some j) (find section_end (suc j) (y ++ (section_end ++ rest)))
    (section_here o y rest h)
    ∙ section_found (suc j) y rest (λ a b e. h (o ∷ a) b (ap (λ (z : List ℕ). o ∷ z) e)) ∙ ap Some (omega arith)

pub sections_are_read : SectionsAreRead
unfolding section
sections_are_read x rest y (h, w) =
    let z = y ++ (section_end ++ rest) in
    let all : x ++ rest ≡ codes "<![CDATA[" ++ z =
    ap (λ (u : List ℕ). u ++ rest) w ∙ ap (λ (u : List ℕ). codes "<![CDATA[" ++ u) (append_assoc y section_end rest) in
    ap section all ∙ ap (option_map (λ (n : ℕ). take n z)) (section_found 0 y rest h ∙ ap Some (omega arith))
    ∙ ap Some (take_at y (section_end ++ rest) (length y) refl)

pub only_sections_are_read : OnlySectionsAreRead
unfolding section
only_sections_are_read x y h = elim (cases_Bool (starts_with nat_eq x (codes "<![CDATA["))) [
  | inl t ↦
      by_find x y (starts_from (codes "<![CDATA[") x t) (find section_end 0 (drop 9 x)) refl
      (sym (cond-true (starts_with nat_eq x (codes "<![CDATA[")) _ None t) ∙ h)
  | inr f ↦
      let e = sym (cond-false (starts_with nat_eq x (codes "<![CDATA[")) (option_map (λ n. take n (drop 9 x)) (find section_end 0 (drop 9 x))) None f) ∙ h in
      absurd (cc)
]
  where
    by_find : (x y : List ℕ) → x ≡ codes "<![CDATA[" ++ drop 9 x → (q : Option ℕ) → find section_end 0 (drop 9 x) ≡ q
        → option_map (λ (n : ℕ). take n (drop 9 x)) q ≡ Some y → (front rest : List ℕ) × (x ≡ front ++ rest) × IsSection front y
    by_find x y w None e h = absurd (cc)
    by_find x y w (Some n) e h =
        let z = drop 9 x in
        let same : take n z ≡ y = some_same (take n z) y h in
        let (k, at, r0) = find_found section_end (λ b. refl) 0 z n e in
        let P : ℕ → Type 0 = Found section_end z in
        let eq : k ≡ n = omega (arith, at) in
        let r : Found section_end z n = subst P eq r0 in
        let rest = drop 3 (drop n z) in
        let whole : x ≡ (codes "<![CDATA[" ++ (y ++ section_end)) ++ rest =
        w ∙ ap (λ (u : List ℕ). codes "<![CDATA[" ++ u) (r.whole ∙ ap (λ (u : List ℕ). u ++ (section_end ++ rest)) same
        ∙ sym (append_assoc y section_end rest)) in
        let len : length y ≡ n = ap length (sym same) ∙ r.size in (
          codes "<![CDATA[" ++ (y ++ section_end),
          rest,
          whole,
          (
            λ a b e.
                let again : z ≡ a ++ (section_end ++ (b ++ (section_end ++ rest))) =
                r.whole ∙ ap (λ (u : List ℕ). u ++ (section_end ++ rest)) (same ∙ e) ∙ append_assoc a (section_end ++ b) (section_end ++ rest) in
                let low = r.none a (b ++ (section_end ++ rest)) again in
                absurd (omega (arith, low, len, ap length e, length-append a (section_end ++ b))),
            refl,
          ),
        )
