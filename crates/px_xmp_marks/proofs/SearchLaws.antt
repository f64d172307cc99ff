-- What a search finds is what a walk over the octets finds.
use Rattle.std.proofs.Common.{◌≡◌, ◌<◌, ◌≤◌, ◌+◌, ◌==◌, ◌&&◌, ◌||◌, ℕ, zero, suc, Bool, true, false, not, nat_eq, get_or, codes}
use Rattle.std.proofs.Common.{List, [], ◌∷◌, length, drop, take, Option, Some, None, is_some, if◌then◌else◌, refl, sym, ap, ◌∙◌, arith, eq-eqb}
use Rattle.std.proofs.lemmas.Bool.{cases_Bool, cond-true, cond-false, or_parts, eqb-true, eqb-false}
use Rattle.std.specs.Cmp.Lexicographic.{pointwise}
use Rattle.std.specs.List.{list_any, starts_with}
use Rattle.memchr.specs.Find.{Nowhere, NoneBefore, Passes, IsFirstByte, is_byte, is_byte2}
use Rattle.px_xmp_marks.specs.Reading.{run, quoted_len}
use Rattle.px_xmp_marks.specs.Sections.{find}

-- a test fails at an octet where it does not hold
fails : (b : Bool) → (b ≡ true → ⊥) → b ≡ false
fails true h = absurd (h refl)
fails false h = refl

-- ---- one octet

pub run_all : (m : ℕ) (x : List ℕ) → Nowhere (Passes (is_byte m) x) 0 (length x) → run (λ o. not (o == m)) x ≡ length x
run_all m [] h = refl
run_all m (o ∷ x) h =
    let f = fails (o == m) (h 0 (omega arith) (omega arith)) in
    cond-true (not (o == m)) (suc (run (λ o. not (o == m)) x)) 0 (ap not f)
    ∙ ap suc (run_all m x (λ k l r p. h (suc k) (omega arith) (omega (arith, r)) p))

pub run_to : (m k : ℕ) (x : List ℕ) → k < length x → Nowhere (Passes (is_byte m) x) 0 k → Passes (is_byte m) x k
    → run (λ o. not (o == m)) x ≡ k
run_to m k [] l h p = absurd (omega (arith, l))
run_to m zero (o ∷ x) l h p = cond-false (not (o == m)) (suc (run (λ o. not (o == m)) x)) 0 (ap not p)
run_to m (suc k) (o ∷ x) l h p =
    let f = fails (o == m) (h 0 (omega arith) (omega arith)) in
    cond-true (not (o == m)) (suc (run (λ o. not (o == m)) x)) 0 (ap not f)
    ∙ ap suc (run_to m k x (omega (arith, l)) (λ j low high q. h (suc j) (omega arith) (omega (arith, high)) q) p)

-- ---- the end of a value

pub quote_found : (q n k : ℕ) (x : List ℕ) → k < length x → Nowhere (Passes (is_byte2 q 60) x) 0 k → get_or x k 0 ≡ q
    → quoted_len q n x ≡ Some (n + k)
unfolding quoted_len
quote_found q n k [] l h e = absurd (omega (arith, l))
quote_found q n zero (o ∷ x) l h e =
    cond-true (o == q) (Some n) (if o == 60 then None else quoted_len q (suc n) x) (eq-eqb o q e) ∙ ap Some (omega arith)
quote_found q n (suc k) (o ∷ x) l h e =
    let f = fails (o == q || o == 60) (h 0 (omega arith) (omega arith)) in
    let parts = or_parts (o == q) (o == 60) f in
    cond-false (o == q) (Some n) (if o == 60 then None else quoted_len q (suc n) x) parts.0
    ∙ cond-false (o == 60) None (quoted_len q (suc n) x) parts.1
    ∙ quote_found q (suc n) k x (omega (arith, l)) (λ j low high p. h (suc j) (omega arith) (omega (arith, high)) p) e ∙ ap Some (omega arith)

pub open_tag_found : (q n k : ℕ) (x : List ℕ) → k < length x → Nowhere (Passes (is_byte2 q 60) x) 0 k → Passes (is_byte2 q 60) x k
    → (get_or x k 0 ≡ q → ⊥) → quoted_len q n x ≡ None
unfolding quoted_len
open_tag_found q n k [] l h p e = absurd (omega (arith, l))
open_tag_found q n zero (o ∷ x) l h p e =
    let f : (o == q) ≡ false = fails (o == q) (λ t. e (eqb-true o q t)) in
    cond-false (o == q) (Some n) (if o == 60 then None else quoted_len q (suc n) x) f
    ∙ cond-true (o == 60) None (quoted_len q (suc n) x) (sym (ap (λ (b : Bool). b || o == 60) f) ∙ p)
open_tag_found q n (suc k) (o ∷ x) l h p e =
    let f = fails (o == q || o == 60) (h 0 (omega arith) (omega arith)) in
    let parts = or_parts (o == q) (o == 60) f in
    cond-false (o == q) (Some n) (if o == 60 then None else quoted_len q (suc n) x) parts.0
    ∙ cond-false (o == 60) None (quoted_len q (suc n) x) parts.1
    ∙ open_tag_found q (suc n) k x (omega (arith, l)) (λ j low high q. h (suc j) (omega arith) (omega (arith, high)) q) p e

pub none_found : (q n : ℕ) (x : List ℕ) → Nowhere (Passes (is_byte2 q 60) x) 0 (length x) → quoted_len q n x ≡ None
unfolding quoted_len
none_found q n [] h = refl
none_found q n (o ∷ x) h =
    let f = fails (o == q || o == 60) (h 0 (omega arith) (omega arith)) in
    let parts = or_parts (o == q) (o == 60) f in
    cond-false (o == q) (Some n) (if o == 60 then None else quoted_len q (suc n) x) parts.0
    ∙ cond-false (o == 60) None (quoted_len q (suc n) x) parts.1
    ∙ none_found q (suc n) x (λ k low high p. h (suc k) (omega arith) (omega (arith, high)) p)

-- ---- the end of a section

pub no_section_end : (n : ℕ) (x : List ℕ) → list_any (λ o. o == 93) x ≡ false → is_some (find (codes "]]>") n x) ≡ false
unfolding find
no_section_end n [] h = refl
no_section_end n (o ∷ x) h =
    let parts = or_parts (o == 93) (list_any (λ o. o == 93) x) h in
    ap is_some (cond-false (starts_with nat_eq (o ∷ x) (codes "]]>")) (Some n) (find (codes "]]>") (suc n) x) (other o x parts.0))
    ∙ no_section_end (suc n) x parts.1
  where
    other : (o : ℕ) (x : List ℕ) → (o == 93) ≡ false → starts_with nat_eq (o ∷ x) (codes "]]>") ≡ false
    other o x f =
        ap (λ (b : Bool). b && pointwise nat_eq (codes "]>") (take 2 x))
        (fails (93 == o) (λ t. eqb-false o 93 f (sym (eqb-true 93 o t))))
