-- Texts and values without references are found by one search.
use Rattle.std.proofs.Common.{◌≡◌, ◌<◌, ◌≤◌, ◌==◌, ◌&&◌, ◌||◌, ◌+◌, ℕ, zero, suc, Bool, true, false, not, cond, codes, is_none, is_some, get_or}
use Rattle.std.proofs.Common.{List, [], ◌∷◌, length, take, Option, Some, None, option_and_then, refl, sym, ap, ◌∙◌, arith, eq-eqb, zero-add}
use Rattle.std.proofs.lemmas.Bool.{or_right, or_parts, cond-true, cond-false}
use Rattle.std.specs.List.{list_any}
use Rattle.memchr.specs.Find.{Nowhere, Passes, is_byte3}
use Rattle.px_xmp_text.specs.Texts.{first_fault}
use Rattle.px_xmp_text.specs.Laws.{NoFaultUnlessReference}
use Rattle.px_xmp_text.specs.declared.pieces.TextKind.TheVariants.{CharacterData, AttributeValue}
use Rattle.px_xmp_marks.specs.Reading.{is_space, space_len, eq_len, value_len}
use Rattle.px_xmp_marks.specs.Sections.{find}
use Rattle.px_xmp_marks.specs.Marks.{data_len, text_len}
use Rattle.px_xmp_marks.proofs.SearchLaws.{run_all, run_to, quote_found, no_section_end}

-- what passes nowhere is in no octet
nowhere_any : (f : ℕ → Bool) (k : ℕ) (x : List ℕ) → k ≤ length x → Nowhere (Passes f x) 0 k → list_any f (take k x) ≡ false
nowhere_any f zero x l h = refl
nowhere_any f (suc k) [] l h = refl
nowhere_any f (suc k) (o ∷ x) l h =
    neither (f o) (list_any f (take k x)) (h 0 (omega arith) (omega arith))
    (nowhere_any f k x (omega (arith, l)) (λ j low high p. h (suc j) (omega arith) (omega (arith, high)) p))
  where
    neither : (a b : Bool) → (a ≡ true → ⊥) → b ≡ false → (a || b) ≡ false
    neither true b n e = absurd (n refl)
    neither false b n e = e

or_left : (a b : Bool) → a ≡ true → (a || b) ≡ true
or_left true b e = refl
or_left false b e = absurd (cc)

-- ---- values

-- an equals sign that no white space follows
pub tight_eq : (x : List ℕ) → 2 ≤ length x → get_or x 0 0 ≡ 61 → not (is_space (get_or x 1 0)) ≡ true → eq_len x ≡ Some 1
unfolding eq_len
tight_eq [] l e s = absurd (omega (arith, l))
tight_eq (o ∷ []) l e s = absurd (omega (arith, l))
tight_eq (o ∷ p ∷ y) l e s =
    ap (λ (k : ℕ). eq_len (k ∷ p ∷ y)) e
    ∙ ap (λ (n : ℕ). Some (0 + 1 + n)) (cond-false (is_space p) (suc (space_len y)) 0 (fails (is_space p) s))
  where
    fails : (b : Bool) → not b ≡ true → b ≡ false
    fails true h = absurd (cc)
    fails false h = refl

pub plain_value : NoFaultUnlessReference → (q k : ℕ) (x : List ℕ) → k < length x → Nowhere (Passes (is_byte3 q 60 38) x) 0 k
    → get_or x k 0 ≡ q → value_len q x ≡ Some k
unfolding value_len
plain_value law q k x l h e =
    let checked = λ (n : ℕ). cond (is_none (first_fault AttributeValue (take n x))) (Some n) None in
    let none = nowhere_any (λ o. o == 38) k x (omega (arith, l)) (λ j low high p. h j low high (or_right (get_or x j 0 == q || get_or x j 0 == 60) (get_or x j 0 == 38) p)) in
    let found = quote_found q 0 k x l (λ j low high p. h j low high (or_left (get_or x j 0 == q || get_or x j 0 == 60) (get_or x j 0 == 38) p)) e in
    ap (option_and_then checked) (found ∙ ap Some (zero-add k))
    ∙ cond-true (is_none (first_fault AttributeValue (take k x))) (Some k) None (ap is_none (law AttributeValue (take k x) none))

-- ---- texts

-- a `]` or an `&`
abbrev pub is_special : ℕ → Bool
is_special o = o == 93 || o == 38

widened : (a b c : Bool) → (b || c) ≡ true → ((a || b) || c) ≡ true
widened true b c e = refl
widened false b c e = e

pub special_nowhere : (k : ℕ) (x : List ℕ) → k ≤ length x → Nowhere (Passes (is_byte3 60 93 38) x) 0 k → list_any is_special (take k x) ≡ false
special_nowhere k x l h =
    nowhere_any is_special k x l (λ j low high p. h j low high (widened (get_or x j 0 == 60) (get_or x j 0 == 93) (get_or x j 0 == 38) p))

-- the search stops at `<`
pub plain_to : (k : ℕ) (x : List ℕ) → k < length x → Nowhere (Passes (is_byte3 60 93 38) x) 0 k → get_or x k 0 ≡ 60 → k ≡ data_len x
plain_to k x l h e =
    sym (run_to 60 k x l (λ j low high p. h j low high (or_left (get_or x j 0 == 60 || get_or x j 0 == 93) (get_or x j 0 == 38)
    (or_left (get_or x j 0 == 60) (get_or x j 0 == 93) p))) (eq-eqb (get_or x k 0) 60 e))

-- it stops nowhere
pub plain_all : (x : List ℕ) → Nowhere (Passes (is_byte3 60 93 38) x) 0 (length x) → length x ≡ data_len x
plain_all x h =
    sym (run_all 60 x (λ j low high p. h j low high (or_left (get_or x j 0 == 60 || get_or x j 0 == 93) (get_or x j 0 == 38)
    (or_left (get_or x j 0 == 60) (get_or x j 0 == 93) p))))

any_parts : (x : List ℕ) → list_any is_special x ≡ false → (list_any (λ o. o == 93) x ≡ false) × (list_any (λ o. o == 38) x ≡ false)
any_parts [] h = (refl, refl)
any_parts (o ∷ x) h =
    let here = or_parts (is_special o) (list_any is_special x) h in
    let now = or_parts (o == 93) (o == 38) here.0 in
    let later = any_parts x here.1 in
    (neither (o == 93) _ now.0 later.0, neither (o == 38) _ now.1 later.1)
  where
    neither : (a b : Bool) → a ≡ false → b ≡ false → (a || b) ≡ false
    neither true b n e = absurd (cc)
    neither false b n e = e

none_from : (q : Option ℕ) → is_some q ≡ false → is_none q ≡ true
none_from None e = refl
none_from (Some n) e = absurd (cc)

both_true : (a b : Bool) → a ≡ true → b ≡ true → (a && b) ≡ true
both_true true b e f = f
both_true false b e f = absurd (cc)

pub plain_text : NoFaultUnlessReference → (n : ℕ) (x : List ℕ) → n ≡ data_len x → (n == 0) ≡ false → list_any is_special (take n x) ≡ false
    → text_len x ≡ Some n
unfolding text_len
plain_text law n x e some h =
    let parts = any_parts (take n x) h in
    let good = both_true (is_none (find (codes "]]>") 0 (take n x))) (is_none (first_fault CharacterData (take n x)))
    (none_from (find (codes "]]>") 0 (take n x)) (no_section_end 0 (take n x) parts.0)) (ap is_none (law CharacterData (take n x) parts.1)) in
    let of = λ (k : ℕ). cond (k == 0) None (cond (is_none (find (codes "]]>") 0 (take k x)) && is_none (first_fault CharacterData (take k x))) (Some k) None) in
    ap of (sym e) ∙ cond-false (n == 0) None (cond (is_none (find (codes "]]>") 0 (take n x)) && is_none (first_fault CharacterData (take n x))) (Some n) None) some
    ∙ cond-true (is_none (find (codes "]]>") 0 (take n x)) && is_none (first_fault CharacterData (take n x))) (Some n) None good
