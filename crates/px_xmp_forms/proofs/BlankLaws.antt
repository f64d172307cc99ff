-- White space at the start of the normal form of a text.
use Rattle.std.proofs.Common.{◌≡◌, ◌≤◌, ◌∙◌, ◌==◌, ◌&&◌, refl, ℕ, Bool, true, false, cond, List, [], ◌∷◌, codes, sym, ap, subst, drop}
use Rattle.std.proofs.Common.{length, length-append, ◌⊎◌, inl, inr, arith, eqb-true}
use Rattle.std.proofs.lemmas.Bool.{cases_Bool}
use Rattle.px_xmp_text.specs.Texts.{normal_text, normal_octet}
use Rattle.px_xmp_forms.specs.Forms.{is_space, is_white}
use Rattle.px_xmp_forms.specs.calls.Blanks.{BeginsWithSpace}

plain_octet : (a b c d : Bool) (x y z w v : List ℕ) → a ≡ false → b ≡ false → c ≡ false → d ≡ false
    → cond a x (cond b y (cond c z (cond d w v))) ≡ v
plain_octet true b c d x y z w v e f g h = absurd (cc)
plain_octet false true c d x y z w v e f g h = absurd (cc)
plain_octet false false true d x y z w v e f g h = absurd (cc)
plain_octet false false false true x y z w v e f g h = absurd (cc)
plain_octet false false false false x y z w v e f g h = refl

-- what holds of the four references and of an octet that is its own form holds of each
pub octet_cases : (P : ℕ → List ℕ → Type 0) → P 38 (codes "&amp;") → P 60 (codes "&lt;") → P 62 (codes "&gt;") → P 13 (codes "&#13;")
    → ((o : ℕ) → (o == 38) ≡ false → (o == 13) ≡ false → P o (o ∷ [])) → (o : ℕ) → P o (normal_octet o)
octet_cases P a b c d e o =
    let Q : ℕ → Type 0 = λ j. P j (normal_octet j) in
    elim (cases_Bool (o == 38)) [
      | inl p ↦ subst Q (sym (eqb-true o 38 p)) a
      | inr p ↦ elim (cases_Bool (o == 60)) [
        | inl q ↦ subst Q (sym (eqb-true o 60 q)) b
        | inr q ↦ elim (cases_Bool (o == 62)) [
          | inl r ↦ subst Q (sym (eqb-true o 62 r)) c
          | inr r ↦ elim (cases_Bool (o == 13)) [
            | inl s ↦ subst Q (sym (eqb-true o 13 s)) d
            | inr s ↦
                let same : normal_octet o ≡ o ∷ [] = plain_octet (o == 38) (o == 60) (o == 62) (o == 13) _ _ _ _ _ p q r s in
                subst (λ (z : List ℕ). P o z) (sym same) (e o p s)
          ]
        ]
      ]
    ]

-- ---- a form is read from its start

octet_some : (o : ℕ) → 1 ≤ length (normal_octet o)
octet_some o = octet_cases (λ o z. 1 ≤ length z) (omega arith) (omega arith) (omega arith) (omega arith) (λ o p q. omega arith) o

white_or_not : (o n : ℕ) (x t : List ℕ) → BeginsWithSpace x o t n
    → ((is_space o ≡ true) × (1 ≤ n) × (drop n x ≡ normal_text t)) ⊎ ((is_space o ≡ false) × (n ≡ 0))
white_or_not o n x t h = elim (cases_Bool (is_space o)) [
  | inl a ↦ let w = h.0 a in inl (a, w.0, w.1)
  | inr b ↦ inr (b, h.1 b)
]

-- what is left of a form begins with an octet that is no white space
pub blank_stops : (x u t : List ℕ) (n : ℕ) → x ≡ normal_text u → is_white u ≡ is_white t → 1 ≤ length x
    → ((o : ℕ) (s : List ℕ) → x ≡ normal_text (o ∷ s) → BeginsWithSpace x o s n) → n ≡ 0 → false ≡ is_white t
blank_stops x [] t n e w l h z = absurd (omega (arith, ap length e))
blank_stops x (o ∷ u) t n e w l h z = elim (white_or_not o n x u (h o u e)) [
  | inl a ↦ absurd (omega (arith, a.1))
  | inr b ↦ sym (ap (λ (p : Bool). p && is_white u) b.0) ∙ w
]

-- or with white space
pub blank_goes_on : (x u t : List ℕ) (n : ℕ) → x ≡ normal_text u → is_white u ≡ is_white t → 1 ≤ length x
    → ((o : ℕ) (s : List ℕ) → x ≡ normal_text (o ∷ s) → BeginsWithSpace x o s n) → (n ≡ 0 → ⊥)
    → (v : List ℕ) × (drop n x ≡ normal_text v) × (is_white v ≡ is_white t)
blank_goes_on x [] t n e w l h z = absurd (omega (arith, ap length e))
blank_goes_on x (o ∷ u) t n e w l h z = elim (white_or_not o n x u (h o u e)) [
  | inl a ↦ (u, a.2, sym (ap (λ (p : Bool). p && is_white u) a.0) ∙ w)
  | inr b ↦ absurd (z b.1)
]

-- or nothing is left
pub blank_ends : (x u t : List ℕ) → x ≡ normal_text u → is_white u ≡ is_white t → length x ≤ 0 → true ≡ is_white t
blank_ends x [] t e w l = w
blank_ends x (o ∷ u) t e w l = absurd (omega (arith, ap length e, octet_some o, length-append (normal_octet o) (normal_text u)))
