-- Bytes FF at the start, and the marker's code after them.
use Rattle.std.proofs.Common.{◌≡◌, ◌≢◌, ◌≤◌, ◌+◌, ◌==◌, ℕ, zero, suc, inl, inr, List, [], ◌∷◌, ◌++◌, length, drop}
use Rattle.std.proofs.Common.{refl, sym, ap, ◌∙◌, arith, eqb-true, eq-eqb}
use Rattle.std.proofs.lemmas.Bool.{cond-true, cond-false, cases_Bool, eqb-false, ne_eqb}
use Rattle.px_jpeg.specs.Head.{AreFill}
use Rattle.px_jpeg.specs.Reading.{marks, after}

pub marks_other : (o : ℕ) (x : List ℕ) → o ≢ 255 → marks (o ∷ x) ≡ 0
marks_other o x h = cond-false (o == 255) (suc (marks x)) 0 (ne_eqb o 255 h)

-- after fill bytes
pub marks_fill : (fill y : List ℕ) → AreFill fill → marks (fill ++ y) ≡ length fill + marks y
marks_fill [] y h = omega arith
marks_fill (o ∷ fill) y h = cond-true (o == 255) (suc (marks (fill ++ y))) 0 (eq-eqb o 255 h.0) ∙ ap suc (marks_fill fill y h.1)
    ∙ omega arith

-- ---- a marker at the start

-- some bytes FF, the last of which is the marker's
pub record Filled (x : List ℕ) (k : ℕ) : Type 0 where
  pub fill : List ℕ
  pub filled : AreFill fill
  pub long : length fill ≡ k
  pub whole : x ≡ fill ++ 255 ∷ drop (suc k) x

pub filled_from_marks : (k : ℕ) (x : List ℕ) → marks x ≡ suc k → Filled x k
filled_from_marks k [] h = absurd (omega arith)
filled_from_marks zero (o ∷ x) h = elim (cases_Bool (o == 255)) [
  | inl t ↦ let e = eqb-true o 255 t in record { fill = []; filled = tt; long = refl; whole = ap (λ (n : ℕ). n ∷ x) e }
  | inr f ↦ let e = cond-false (o == 255) (suc (marks x)) 0 f in absurd (omega arith)
]
filled_from_marks (suc k) (o ∷ x) h = elim (cases_Bool (o == 255)) [
  | inl t ↦
      let e = eqb-true o 255 t in
      let m = cond-true (o == 255) (suc (marks x)) 0 t in
      let r = filled_from_marks k x (omega arith) in
      record { fill = o ∷ r.fill; filled = (e, r.filled); long = ap suc r.long; whole = ap (λ (y : List ℕ). o ∷ y) r.whole }
  | inr f ↦ let e = cond-false (o == 255) (suc (marks x)) 0 f in absurd (omega arith)
]

-- if nothing follows the bytes FF, they are all
pub all_fill : (x : List ℕ) → length x ≤ marks x → AreFill x
all_fill [] h = tt
all_fill (o ∷ x) h = elim (cases_Bool (o == 255)) [
  | inl t ↦ let m = cond-true (o == 255) (suc (marks x)) 0 t in (eqb-true o 255 t, all_fill x (omega arith))
  | inr f ↦ let e = cond-false (o == 255) (suc (marks x)) 0 f in absurd (omega arith)
]

pub fill_all : (x : List ℕ) → AreFill x → length x ≤ marks x
fill_all [] h = omega arith
fill_all (o ∷ x) h = let m = cond-true (o == 255) (suc (marks x)) 0 (eq-eqb o 255 h.0) in let r = fill_all x h.1 in omega arith

-- what follows them is no FF
pub after_other : (x y : List ℕ) (c : ℕ) → after x ≡ c ∷ y → c ≢ 255
after_other [] y c h = absurd (cc)
after_other (o ∷ x) y c h = elim (cases_Bool (o == 255)) [
  | inl t ↦ after_other x y c (sym (ap (λ (n : ℕ). drop n (o ∷ x)) (cond-true (o == 255) (suc (marks x)) 0 t)) ∙ h)
  | inr f ↦
      let e : ◌≡◌ {A = List ℕ} (o ∷ x) (c ∷ y) = sym (ap (λ (n : ℕ). drop n (o ∷ x)) (cond-false (o == 255) (suc (marks x)) 0 f)) ∙ h in
      let same : o ≡ c = cc in
      λ q. eqb-false o 255 f (same ∙ q)
]
