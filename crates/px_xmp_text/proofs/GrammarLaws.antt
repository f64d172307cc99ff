-- What is read as a reference is one, and every reference is read.
use Rattle.std.proofs.Common.{◌≡◌, ◌<◌, ◌≤◌, ◌+◌, ◌*◌, ◌==◌, ◌&&◌, ◌||◌, ℕ, zero, suc, Bool, true, false, cond, List, [], ◌∷◌, ◌++◌, length, drop, take}
use Rattle.std.proofs.Common.{Option, Some, None, option_and_then, refl, sym, ap, subst, ◌∙◌, inl, inr, arith, eqb-true, ne_eqb, leb-true, leb-false, ltb-true, nat_le, nat_lt, nat_eq, codes, length-append, append_assoc}
use Rattle.std.proofs.lemmas.Bool.{cases_Bool, cond-true, cond-false}
use Rattle.std.specs.List.{starts_with}
use Rattle.std.specs.Cmp.Lexicographic.{pointwise}
use Rattle.px_xmp_text.specs.References.{Counted, is_char, digit_value, digits, character_reference, entity_reference, or_else, reference, if_char}
use Rattle.px_xmp_text.specs.Grammar.{AreDigits, number_of, IsCharacterReference, IsEntityReference, IsReference, ReferencesAreRead, OnlyReferencesAreRead}

-- ---- tests

leb_no : (a b : ℕ) → b < a → nat_le a b ≡ false
leb_no a b h = elim (cases_Bool (nat_le a b)) [ inl t ↦ absurd (omega (arith, leb-true a b t)) | inr f ↦ f ]

ltb_no : (a b : ℕ) → b ≤ a → nat_lt a b ≡ false
ltb_no a b h = elim (cases_Bool (nat_lt a b)) [ inl t ↦ absurd (omega (arith, ltb-true a b t)) | inr f ↦ f ]

and_both : (a b : Bool) → (a && b) ≡ true → (a ≡ true) × (b ≡ true)
and_both true b h = (refl, h)
and_both false b h = absurd (cc)

six : (a b c x y z : Bool) (P : Type 0) → (a ≡ true → P) → (b ≡ true → P) → (c ≡ true → P) → (x ≡ true → P) → (y ≡ true → P) → (z ≡ true → P)
    → (a || b || c || x || y || z) ≡ true → P
six true b c x y z P f g h i j k e = f refl
six false true c x y z P f g h i j k e = g refl
six false false true x y z P f g h i j k e = h refl
six false false false true y z P f g h i j k e = i refl
six false false false false true z P f g h i j k e = j refl
six false false false false false true P f g h i j k e = k refl
six false false false false false false P f g h i j k e = absurd (cc)

-- a character has a number up to this one
char_most : (n : ℕ) → is_char n ≡ true → n ≤ 1114111
char_most n h =
    six (n == 9) (n == 10) (n == 13) (nat_le 32 n && nat_le n 55295) (nat_le 57344 n && nat_le n 65533) (nat_le 65536 n && nat_le n 1114111)
    (n ≤ 1114111) (λ e. omega (arith, eqb-true n 9 e)) (λ e. omega (arith, eqb-true n 10 e)) (λ e. omega (arith, eqb-true n 13 e))
    (λ e. omega (arith, leb-true n 55295 (and_both (nat_le 32 n) (nat_le n 55295) e).1))
    (λ e. omega (arith, leb-true n 65533 (and_both (nat_le 57344 n) (nat_le n 65533) e).1))
    (λ e. leb-true n 1114111 (and_both (nat_le 65536 n) (nat_le n 1114111) e).1) h

-- an octet that is no digit is none of these
no_digit : (o c d : ℕ) → digit_value o ≡ None → digit_value c ≡ Some d → (c == o) ≡ false
no_digit o c d n h = ne_eqb c o (λ e. let f : Some d ≡ None = sym h ∙ ap digit_value e ∙ n in absurd (cc))

-- ---- every reference is read

number_grows : (base v : ℕ) (ds : List ℕ) → ((j : ℕ) → j ≤ j * base) → v ≤ number_of base v ds
number_grows base v [] g = omega arith
number_grows base v (d ∷ ds) g =
    let a = g v in
    let b = number_grows base (v * base + d) ds g in omega arith

digits_read : (base v n : ℕ) (octets values rest : List ℕ) → ((j : ℕ) → j ≤ j * base) → AreDigits base octets values
    → 1 ≤ n + length octets → number_of base v values ≤ 1114111
    → digits base v n (octets ++ 59 ∷ rest) ≡ Some (number_of base v values, n + length octets)
unfolding digits
digits_read base v zero [] [] rest g h s m = absurd (omega arith)
digits_read base v (suc n) [] [] rest g h s m =
    cond-false (suc n == 0) None (Some (v, suc n)) (ne_eqb (suc n) 0 (λ e. omega arith)) ∙ ap (λ (j : ℕ). Some (v, j)) (omega arith)
digits_read base v n [] (d ∷ ds) rest g h s m = absurd h
digits_read base v n (c ∷ x) [] rest g h s m = absurd h
digits_read base v n (c ∷ x) (d ∷ ds) rest g h s m =
    let w : ℕ = v * base + d in
    let low = number_grows base w ds g in
    let F : ℕ → Option Counted = λ e. cond (nat_le base e) None (cond (nat_lt 1114111 (v * base + e)) None (digits base (v * base + e) (suc n)
    (x ++ 59 ∷ rest))) in
    let a = cond-false (c == 59) (cond (n == 0) None (Some (v, n))) (option_and_then F (digit_value c)) (no_digit 59 c d refl h.0) in
    let b : option_and_then F (digit_value c) ≡ F d = ap (option_and_then F) h.0 in
    let e = cond-false (nat_le base d) None (cond (nat_lt 1114111 w) None (digits base w (suc n) (x ++ 59 ∷ rest))) (leb_no base d h.1) in
    let f = cond-false (nat_lt 1114111 w) None (digits base w (suc n) (x ++ 59 ∷ rest)) (ltb_no 1114111 w (omega arith)) in
    a ∙ b ∙ e ∙ f ∙ digits_read base w (suc n) x ds rest g h.2 (omega arith) m ∙ ap (λ (j : ℕ). Some (number_of base w ds, j)) (omega arith)

decimal_reads : (c : ℕ) (y : List ℕ) (d : ℕ) → digit_value c ≡ Some d → reference (38 ∷ 35 ∷ c ∷ y) ≡ option_and_then (if_char 2) (digits 10 0 0 (c ∷ y))
unfolding reference entity_reference character_reference
decimal_reads c y d h =
    let t : (120 == c) ≡ false = ne_eqb 120 c (λ e. let f : Some d ≡ None = sym h ∙ ap digit_value (sym e) in absurd (cc)) in
    ap (λ (b : Bool). cond (b && true) (option_and_then (if_char 3) (digits 16 0 0 y)) (option_and_then (if_char 2) (digits 10 0 0 (c ∷ y)))) t

hexadecimal_reads : (y : List ℕ) → reference (38 ∷ 35 ∷ 120 ∷ y) ≡ option_and_then (if_char 3) (digits 16 0 0 y)
unfolding reference entity_reference character_reference
hexadecimal_reads y = refl

char_reads : (head n size : ℕ) → is_char n ≡ true → if_char head (n, size) ≡ Some (n, head + size + 1)
char_reads head n size h = cond-true (is_char n) (Some (n, head + size + 1)) None h

-- ---- what is read is a reference

starts_from : (p x : List ℕ) → starts_with nat_eq x p ≡ true → x ≡ p ++ drop (length p) x
starts_from [] x h = refl
starts_from (a ∷ p) [] h = absurd (cc)
starts_from (a ∷ p) (b ∷ x) h =
    let c = and_both (nat_eq a b) (pointwise nat_eq p (take (length p) x)) h in
    let d = eqb-true a b c.0 in
    let e = starts_from p x c.1 in cc

record Digits (base v n : ℕ) (x : List ℕ) (found : Counted) : Type 0 where
  octets : List ℕ
  values : List ℕ
  rest : List ℕ
  are : AreDigits base octets values
  more : 1 ≤ n + length octets
  count : n + length octets ≡ found.1
  number : found.0 ≡ number_of base v values
  whole : x ≡ octets ++ 59 ∷ rest

some_back : (p q : Counted) → Some p ≡ Some q → p ≡ q
some_back p q h = cc

at_end : (base v n c : ℕ) (x : List ℕ) (found : Counted) → c ≡ 59 → cond (n == 0) None (Some (v, n)) ≡ Some found
    → Digits base v n (c ∷ x) found
at_end base v zero c x found e h = absurd (cc)
at_end base v (suc n) c x found e h =
    let same = some_back (v, suc n) found (sym (cond-false (suc n == 0) None (Some (v, suc n)) (ne_eqb (suc n) 0 (λ e. omega arith))) ∙ h) in
    record {
      octets = [];
      values = [];
      rest = x;
      are = tt;
      more = omega arith;
      count = omega (arith, ap (λ (p : Counted). p.1) same);
      number = ap (λ (p : Counted). p.0) (sym same);
      whole = ap (λ (j : ℕ). j ∷ x) e;
    }

digits_found : (base v n : ℕ) (x : List ℕ) (found : Counted) → digits base v n x ≡ Some found → Digits base v n x found
unfolding digits
digits_found base v n [] found h = absurd (cc)
digits_found base v n (c ∷ x) found h = elim (cases_Bool (c == 59)) [
  | inl t ↦ at_end base v n c x found (eqb-true c 59 t) (sym (cond-true (c == 59) _ _ t) ∙ h)
  | inr f ↦ by_digit base v n c x found (digit_value c) refl (λ w m e. digits_found base w m x found e) (sym (cond-false (c == 59) _ _ f) ∙ h)
]
  where
    by_digit : (base v n c : ℕ) (x : List ℕ) (found : Counted) (q : Option ℕ) → digit_value c ≡ q
        → ((w m : ℕ) → digits base w m x ≡ Some found → Digits base w m x found)
        → option_and_then (λ d. cond (nat_le base d) None (cond (nat_lt 1114111 (v * base + d)) None (digits base (v * base + d) (suc n) x))) q
        ≡ Some found → Digits base v n (c ∷ x) found
    by_digit base v n c x found None e ih h = absurd (cc)
    by_digit base v n c x found (Some d) e ih h = elim (cases_Bool (nat_le base d)) [
      | inl t ↦ let g = sym (cond-true (nat_le base d) None _ t) ∙ h in absurd (cc)
      | inr f ↦
          let g = sym (cond-false (nat_le base d) None _ f) ∙ h in elim (cases_Bool (nat_lt 1114111 (v * base + d))) [
            | inl t ↦ let k = sym (cond-true (nat_lt 1114111 (v * base + d)) None _ t) ∙ g in absurd (cc)
            | inr s ↦
                let k = sym (cond-false (nat_lt 1114111 (v * base + d)) None _ s) ∙ g in
                let r = ih (v * base + d) (suc n) k in record {
                  octets = c ∷ r.octets;
                  values = d ∷ r.values;
                  rest = r.rest;
                  are = (e, leb-false base d f, r.are);
                  more = omega arith;
                  count = omega (arith, r.count);
                  number = r.number;
                  whole = ap (λ (z : List ℕ). c ∷ z) r.whole;
                }
          ]
    ]

-- ---- one reference

decimal_read : (octets values rest : List ℕ) (n : ℕ) → AreDigits 10 octets values → 1 ≤ length octets → n ≡ number_of 10 0 values
    → is_char n ≡ true → reference (38 ∷ 35 ∷ ((octets ++ 59 ∷ []) ++ rest)) ≡ Some (n, 3 + length octets)
decimal_read [] values rest n h s e a = absurd (omega arith)
decimal_read (c ∷ x) [] rest n h s e a = absurd h
decimal_read (c ∷ x) (d ∷ ds) rest n h s e a =
    let m = subst (λ (j : ℕ). j ≤ 1114111) e (char_most n a) in
    ap (λ (z : List ℕ). reference (38 ∷ 35 ∷ z)) (append_assoc (c ∷ x) (59 ∷ []) rest) ∙ decimal_reads c (x ++ 59 ∷ rest) d h.0
    ∙ ap (option_and_then (if_char 2)) (digits_read 10 0 0 (c ∷ x) (d ∷ ds) rest (λ j. omega arith) h (omega arith) m)
    ∙ ap (λ (j : ℕ). if_char 2 (j, 0 + length (c ∷ x))) (sym e) ∙ char_reads 2 n (0 + length (c ∷ x)) a
    ∙ ap (λ (j : ℕ). Some (n, j)) (omega arith)

hexadecimal_read : (octets values rest : List ℕ) (n : ℕ) → AreDigits 16 octets values → 1 ≤ length octets → n ≡ number_of 16 0 values
    → is_char n ≡ true → reference (38 ∷ 35 ∷ 120 ∷ ((octets ++ 59 ∷ []) ++ rest)) ≡ Some (n, 4 + length octets)
hexadecimal_read octets values rest n h s e a =
    let m = subst (λ (j : ℕ). j ≤ 1114111) e (char_most n a) in
    ap (λ (z : List ℕ). reference (38 ∷ 35 ∷ 120 ∷ z)) (append_assoc octets (59 ∷ []) rest) ∙ hexadecimal_reads (octets ++ 59 ∷ rest)
    ∙ ap (option_and_then (if_char 3)) (digits_read 16 0 0 octets values rest (λ j. omega arith) h (omega arith) m)
    ∙ ap (λ (j : ℕ). if_char 3 (j, 0 + length octets)) (sym e) ∙ char_reads 3 n (0 + length octets) a
    ∙ ap (λ (j : ℕ). Some (n, j)) (omega arith)

and_reads : (rest : List ℕ) → reference (codes "&amp;" ++ rest) ≡ Some (38, 5)
unfolding reference entity_reference
and_reads rest = refl

less_reads : (rest : List ℕ) → reference (codes "&lt;" ++ rest) ≡ Some (60, 4)
unfolding reference entity_reference
less_reads rest = refl

more_reads : (rest : List ℕ) → reference (codes "&gt;" ++ rest) ≡ Some (62, 4)
unfolding reference entity_reference
more_reads rest = refl

quote_reads : (rest : List ℕ) → reference (codes "&quot;" ++ rest) ≡ Some (34, 6)
unfolding reference entity_reference
quote_reads rest = refl

mark_reads : (rest : List ℕ) → reference (codes "&apos;" ++ rest) ≡ Some (39, 6)
unfolding reference entity_reference
mark_reads rest = refl

same_read : (x y rest : List ℕ) (n m : ℕ) → x ≡ y → n ≡ m → reference (y ++ rest) ≡ Some (m, length y) → reference (x ++ rest) ≡ Some (n, length x)
same_read x y rest n m e f h =
    ap (λ (z : List ℕ). reference (z ++ rest)) e ∙ h ∙ ap (λ (j : ℕ). Some (j, length y)) (sym f)
    ∙ ap (λ (z : List ℕ). Some (n, length z)) (sym e)

entity_read : (x rest : List ℕ) (n : ℕ) → IsEntityReference x n → reference (x ++ rest) ≡ Some (n, length x)
entity_read x rest n (inl h) = same_read x (codes "&amp;") rest n 38 h.0 h.1 (and_reads rest)
entity_read x rest n (inr (inl h)) = same_read x (codes "&lt;") rest n 60 h.0 h.1 (less_reads rest)
entity_read x rest n (inr (inr (inl h))) = same_read x (codes "&gt;") rest n 62 h.0 h.1 (more_reads rest)
entity_read x rest n (inr (inr (inr (inl h)))) = same_read x (codes "&quot;") rest n 34 h.0 h.1 (quote_reads rest)
entity_read x rest n (inr (inr (inr (inr h)))) = same_read x (codes "&apos;") rest n 39 h.0 h.1 (mark_reads rest)

pub references_are_read : ReferencesAreRead
references_are_read x rest n (inl h) = entity_read x rest n h
references_are_read x rest n (inr (inl r)) =
    let l = length-append r.octets (59 ∷ []) in
    let k = ap length r.whole in
    ap (λ (z : List ℕ). reference (z ++ rest)) r.whole ∙ decimal_read r.octets r.values rest n r.digits r.some r.number r.allowed
    ∙ ap (λ (j : ℕ). Some (n, j)) (omega arith)
references_are_read x rest n (inr (inr r)) =
    let l = length-append r.octets (59 ∷ []) in
    let k = ap length r.whole in
    ap (λ (z : List ℕ). reference (z ++ rest)) r.whole ∙ hexadecimal_read r.octets r.values rest n r.digits r.some r.number r.allowed
    ∙ ap (λ (j : ℕ). Some (n, j)) (omega arith)

-- ---- found

abbrev Found : List ℕ → ℕ → ℕ → Type 0
Found x n size = (spelled rest : List ℕ) × (x ≡ spelled ++ rest) × (size ≡ length spelled) × IsReference spelled n

record Numbered (mark : List ℕ) (base : ℕ) (x : List ℕ) (n size : ℕ) : Type 0 where
  spelled : List ℕ
  rest : List ℕ
  whole : x ≡ spelled ++ rest
  count : size ≡ length spelled
  is : IsCharacterReference mark base spelled n

numbered_found : (mark x : List ℕ) (head base n size : ℕ) → x ≡ mark ++ drop head x → length mark ≡ head
    → option_and_then (if_char head) (digits base 0 0 (drop head x)) ≡ Some (n, size) → Numbered mark base x n size
numbered_found mark x head base n size w l h = by_found mark x head base n size w l (digits base 0 0 (drop head x)) refl h
  where
    by_char : (mark x : List ℕ) (head base n size : ℕ) (f : Counted) → x ≡ mark ++ drop head x → length mark ≡ head
        → Digits base 0 0 (drop head x) f → (b : Bool) → is_char f.0 ≡ b → cond {A = Option Counted} b (Some (f.0, head + f.1 + 1)) None ≡ Some (n, size)
        → Numbered mark base x n size
    by_char mark x head base n size f w l r false c h = absurd (cc)
    by_char mark x head base n size f w l r true c h =
        let same = some_back (f.0, head + f.1 + 1) (n, size) h in
        let number : f.0 ≡ n = ap (λ (p : Counted). p.0) same in
        let count : head + f.1 + 1 ≡ size = ap (λ (p : Counted). p.1) same in
        let a = length-append mark (r.octets ++ 59 ∷ []) in
        let b = length-append r.octets (59 ∷ []) in
        record {
          spelled = mark ++ (r.octets ++ 59 ∷ []);
          rest = r.rest;
          whole = w ∙ ap (λ (z : List ℕ). mark ++ z) (r.whole ∙ sym (append_assoc r.octets (59 ∷ []) r.rest))
              ∙ sym (append_assoc mark (r.octets ++ 59 ∷ []) r.rest);
          count = omega (arith, r.count);
          is = record {
            octets = r.octets;
            values = r.values;
            digits = r.are;
            some = omega (arith, r.more);
            number = sym number ∙ r.number;
            allowed = ap is_char (sym number) ∙ c;
            whole = refl;
          };
        }

    by_found : (mark x : List ℕ) (head base n size : ℕ) → x ≡ mark ++ drop head x → length mark ≡ head → (q : Option Counted)
        → digits base 0 0 (drop head x) ≡ q → option_and_then (if_char head) q ≡ Some (n, size) → Numbered mark base x n size
    by_found mark x head base n size w l None e h = absurd (cc)
    by_found mark x head base n size w l (Some f) e h =
        by_char mark x head base n size f w l (digits_found base 0 0 (drop head x) f e) (is_char f.0) refl h

entity_found : (x : List ℕ) (n size : ℕ) → entity_reference x ≡ Some (n, size) → (spelled rest : List ℕ) × (x ≡ spelled ++ rest)
    × (size ≡ length spelled) × IsEntityReference spelled n
unfolding entity_reference
entity_found x n size h = elim (cases_Bool (starts_with nat_eq x (codes "&amp;"))) [
  | inl t ↦
      let s = some_back (38, 5) (n, size) (sym (cond-true (starts_with nat_eq x (codes "&amp;")) _ _ t) ∙ h) in
      (codes "&amp;", drop 5 x, starts_from (codes "&amp;") x t, ap (λ (p : Counted). p.1) (sym s), inl (refl, ap (λ (p : Counted). p.0) (sym s)))
  | inr f ↦
      let h1 = sym (cond-false (starts_with nat_eq x (codes "&amp;")) _ _ f) ∙ h in elim (cases_Bool (starts_with nat_eq x (codes "&lt;"))) [
        | inl t ↦
            let s = some_back (60, 4) (n, size) (sym (cond-true (starts_with nat_eq x (codes "&lt;")) _ _ t) ∙ h1) in
            (codes "&lt;", drop 4 x, starts_from (codes "&lt;") x t, ap (λ (p : Counted). p.1) (sym s), inr (inl (refl, ap (λ (p : Counted). p.0) (sym s))))
        | inr f ↦
            let h2 = sym (cond-false (starts_with nat_eq x (codes "&lt;")) _ _ f) ∙ h1 in elim (cases_Bool (starts_with nat_eq x (codes "&gt;"))) [
              | inl t ↦
                  let s = some_back (62, 4) (n, size) (sym (cond-true (starts_with nat_eq x (codes "&gt;")) _ _ t) ∙ h2) in
                  (codes "&gt;", drop 4 x, starts_from (codes "&gt;") x t, ap (λ (p : Counted). p.1) (sym s), inr (inr (inl (refl, ap (λ (p : Counted). p.0) (sym s)))))
              | inr f ↦
                  let h3 = sym (cond-false (starts_with nat_eq x (codes "&gt;")) _ _ f) ∙ h2 in
                  elim (cases_Bool (starts_with nat_eq x (codes "&quot;"))) [
                    | inl t ↦
                        let s = some_back (34, 6) (n, size) (sym (cond-true (starts_with nat_eq x (codes "&quot;")) _ _ t) ∙ h3) in
                        (codes "&quot;", drop 6 x, starts_from (codes "&quot;") x t, ap (λ (p : Counted). p.1) (sym s), inr (inr (inr (inl (refl, ap (λ (p : Counted). p.0) (sym s))))))
                    | inr f ↦
                        let h4 = sym (cond-false (starts_with nat_eq x (codes "&quot;")) _ _ f) ∙ h3 in
                        elim (cases_Bool (starts_with nat_eq x (codes "&apos;"))) [
                          | inl t ↦
                              let s = some_back (39, 6) (n, size) (sym (cond-true (starts_with nat_eq x (codes "&apos;")) _ _ t) ∙ h4) in
                              (codes "&apos;", drop 6 x, starts_from (codes "&apos;") x t, ap (λ (p : Counted). p.1) (sym s), inr (inr (inr (inr (refl, ap (λ (p : Counted). p.0) (sym s))))))
                          | inr f ↦ let h5 = sym (cond-false (starts_with nat_eq x (codes "&apos;")) _ _ f) ∙ h4 in absurd (cc)
                        ]
                  ]
            ]
      ]
]

pub only_references_are_read : OnlyReferencesAreRead
unfolding reference character_reference
only_references_are_read x n size h = by_entity x n size (entity_reference x) refl h
  where
    by_number : (x : List ℕ) (n size : ℕ)
        → cond (starts_with nat_eq x (codes "&#x")) (option_and_then (if_char 3) (digits 16 0 0 (drop 3 x)))
        (cond (starts_with nat_eq x (codes "&#")) (option_and_then (if_char 2) (digits 10 0 0 (drop 2 x))) None) ≡ Some (n, size) → Found x n size
    by_number x n size h = elim (cases_Bool (starts_with nat_eq x (codes "&#x"))) [
      | inl t ↦
          let r = numbered_found (codes "&#x") x 3 16 n size (starts_from (codes "&#x") x t) refl
          (sym (cond-true (starts_with nat_eq x (codes "&#x")) _ _ t) ∙ h) in
          (r.spelled, r.rest, r.whole, r.count, inr (inr r.is))
      | inr f ↦
          let k = sym (cond-false (starts_with nat_eq x (codes "&#x")) _ _ f) ∙ h in elim (cases_Bool (starts_with nat_eq x (codes "&#"))) [
            | inl t ↦
                let r = numbered_found (codes "&#") x 2 10 n size (starts_from (codes "&#") x t) refl
                (sym (cond-true (starts_with nat_eq x (codes "&#")) _ _ t) ∙ k) in
                (r.spelled, r.rest, r.whole, r.count, inr (inl r.is))
            | inr f ↦ let m = sym (cond-false (starts_with nat_eq x (codes "&#")) _ _ f) ∙ k in absurd (cc)
          ]
    ]

    by_entity : (x : List ℕ) (n size : ℕ) (q : Option Counted) → entity_reference x ≡ q
        → or_else q (cond (starts_with nat_eq x (codes "&#x")) (option_and_then (if_char 3) (digits 16 0 0 (drop 3 x)))
        (cond (starts_with nat_eq x (codes "&#")) (option_and_then (if_char 2) (digits 10 0 0 (drop 2 x))) None)) ≡ Some (n, size) → Found x n size
    by_entity x n size None e h = by_number x n size h
    by_entity x n size (Some c) e h =
        let (spelled, rest, whole, count, is) = entity_found x n size (e ∙ h) in (spelled, rest, whole, count, inl is)

-- a reference has four octets or more, and is inside the octets
pub reference_size : (x : List ℕ) (n size : ℕ) → reference x ≡ Some (n, size) → (4 ≤ size) × (size ≤ length x)
reference_size x n size h =
    let (spelled, rest, whole, count, is) = only_references_are_read x n size h in
    let all = length-append spelled rest in
    let l = ap length whole in
    let m = spelled_size spelled n is in (omega arith, omega arith)
  where
    spelled_size : (y : List ℕ) (n : ℕ) → IsReference y n → 4 ≤ length y
    spelled_size y n (inl (inl h)) = let l = ap length h.0 in omega arith
    spelled_size y n (inl (inr (inl h))) = let l = ap length h.0 in omega arith
    spelled_size y n (inl (inr (inr (inl h)))) = let l = ap length h.0 in omega arith
    spelled_size y n (inl (inr (inr (inr (inl h))))) = let l = ap length h.0 in omega arith
    spelled_size y n (inl (inr (inr (inr (inr h))))) = let l = ap length h.0 in omega arith
    spelled_size y n (inr (inl r)) =
        let l = ap length r.whole in
        let m = length-append r.octets (59 ∷ []) in
        omega (arith, r.some)
    spelled_size y n (inr (inr r)) =
        let l = ap length r.whole in
        let m = length-append r.octets (59 ∷ []) in
        omega (arith, r.some)
