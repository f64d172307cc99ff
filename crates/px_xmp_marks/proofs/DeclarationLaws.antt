-- What is read as an XML declaration is one, and each is read.
use Rattle.std.proofs.Common.{◌≡◌, ◌≢◌, ◌≤◌, ◌+◌, ◌==◌, ◌&&◌, ◌||◌, ◌⊎◌, ℕ, zero, suc, Bool, true, false, cond, nat_eq, codes, List, [], ◌∷◌, ◌++◌, length, take, drop}
use Rattle.std.proofs.Common.{Option, Some, None, option_map, option_and_then, refl, sym, ap, subst, ◌∙◌, inl, inr, arith, eqb-true, append_assoc, length-append}
use Rattle.std.proofs.lemmas.List.{drop_at, take-append-drop, length-take-le}
use Rattle.std.proofs.lemmas.Bool.{cases_Bool, cond-true, cond-false, ne_eqb}
use Rattle.std.specs.List.{AllByRecursion, starts_with}
use Rattle.px_xmp_text.specs.Texts.{piece, or_at, fault_in}
use Rattle.px_xmp_text.specs.declared.pieces.TextKind.TheVariants.{AttributeValue}
use Rattle.px_xmp_marks.specs.Reading.{is_space, space_len, eq_len, att_value}
use Rattle.px_xmp_marks.specs.Grammar.{AreSpaces, IsAttValue}
use Rattle.px_xmp_marks.specs.Declarations.{every, is_digit, is_letter, is_version, is_encoding_char, is_encoding, is_standalone, Part, from_equals, after_name, part, if_passes, checked, size_of, value_of, standalone_part, encoding_part, version_part, end_len, rest_len, Declared, from_version, declaration, IsQuoted, IsPart, IsPerhaps, IsDeclaration, DeclarationsAreRead, OnlyDeclarationsAreRead}
use Rattle.px_xmp_marks.proofs.NameLaws.{Stops, run_all, run_is, some_same}
use Rattle.px_xmp_marks.proofs.AttributeLaws.{eq_reads, eq_found, att_value_reads, att_value_found}
use Rattle.px_xmp_marks.proofs.TagLaws.{starts_from, and_both}

-- ---- the values of a declaration have no references, and neither quotation marks nor `<`

abbrev Chars : List ℕ → Type 0
Chars v = AllByRecursion (λ o. is_encoding_char o ≡ true) v

is_not : (c o : ℕ) → is_encoding_char c ≡ false → is_encoding_char o ≡ true → o ≢ c
is_not c o f t e = let h : false ≡ true = sym f ∙ ap is_encoding_char (sym e) ∙ t in absurd (cc)

every_all : (f : ℕ → Bool) (x : List ℕ) → every f x ≡ true → AllByRecursion (λ o. f o ≡ true) x
every_all f [] h = tt
every_all f (o ∷ x) h = let b = and_both (f o) (every f x) h in (b.0, every_all f x b.1)

or_left : (a b : Bool) → a ≡ true → (a || b) ≡ true
or_left a b h = ap (λ (c : Bool). c || b) h

or_right : (a b : Bool) → b ≡ true → (a || b) ≡ true
or_right true b h = refl
or_right false b h = h

char_from : (o : ℕ) → (is_letter o || is_digit o) ≡ true → is_encoding_char o ≡ true
char_from o h = ap (λ (b : Bool). b || (o == 46) || (o == 95) || (o == 45)) h

digit_is_char : (o : ℕ) → is_digit o ≡ true → is_encoding_char o ≡ true
digit_is_char o h = char_from o (or_right (is_letter o) (is_digit o) h)

digits_are_chars : (x : List ℕ) → AllByRecursion (λ o. is_digit o ≡ true) x → Chars x
digits_are_chars [] p = tt
digits_are_chars (o ∷ x) p = (digit_is_char o p.0, digits_are_chars x p.1)

version_chars : (v : List ℕ) → is_version v ≡ true → Chars v
version_chars [] h = absurd (cc)
version_chars (a ∷ []) h = absurd (cc)
version_chars (a ∷ b ∷ []) h = absurd (cc)
version_chars (a ∷ b ∷ o ∷ x) h =
    let p = and_both ((a == 49) && (b == 46) && is_digit o) (every is_digit x) h in
    let q = and_both ((a == 49) && (b == 46)) (is_digit o) p.0 in
    let r = and_both (a == 49) (b == 46) q.0 in (
      ap is_encoding_char (eqb-true a 49 r.0),
      (ap is_encoding_char (eqb-true b 46 r.1), (digit_is_char o q.1, digits_are_chars x (every_all is_digit x p.1))),
    )

encoding_chars : (v : List ℕ) → is_encoding v ≡ true → Chars v
encoding_chars [] h = absurd (cc)
encoding_chars (o ∷ x) h =
    let p = and_both (is_letter o) (every is_encoding_char x) h in
    (char_from o (or_left (is_letter o) (is_digit o) p.0), every_all is_encoding_char x p.1)

standalone_chars : (v : List ℕ) → is_standalone v ≡ true → Chars v
standalone_chars [] h = absurd (cc)
standalone_chars (a ∷ []) h = absurd (cc)
standalone_chars (a ∷ b ∷ []) h =
    let p = and_both (a == 110) (b == 111) h in
    (ap is_encoding_char (eqb-true a 110 p.0), (ap is_encoding_char (eqb-true b 111 p.1), tt))
standalone_chars (a ∷ b ∷ c ∷ []) h =
    let p = and_both ((a == 121) && (b == 101)) (c == 115) h in
    let q = and_both (a == 121) (b == 101) p.0 in (
      ap is_encoding_char (eqb-true a 121 q.0),
      (ap is_encoding_char (eqb-true b 101 q.1), (ap is_encoding_char (eqb-true c 115 p.1), tt)),
    )
standalone_chars (a ∷ b ∷ c ∷ d ∷ x) h = absurd (cc)

and_false : (a b : Bool) → a ≡ false → (a && b) ≡ false
and_false a b h = ap (λ (c : Bool). c && b) h

or_false : (a b : Bool) → a ≡ false → b ≡ false → (a || b) ≡ false
or_false a b h k = ap (λ (c : Bool). c || b) h ∙ k

char_piece : (o : ℕ) (x : List ℕ) → is_encoding_char o ≡ true → piece AttributeValue (o ∷ x) ≡ Some (o ∷ [], 1)
unfolding piece
char_piece o x h =
    let n : (c : ℕ) → is_encoding_char c ≡ false → (o == c) ≡ false = λ c f. ne_eqb o c (is_not c o f h) in
    cond-false ((o == 38) && true) _ _ (and_false (o == 38) true (n 38 refl)) ∙ cond-false (o == 13) _ _ (n 13 refl)
    ∙ cond-false ((o == 9) || (o == 10)) _ _ (or_false (o == 9) (o == 10) (n 9 refl) (n 10 refl))

no_fault : (n at : ℕ) (v : List ℕ) → length v ≤ n → Chars v → fault_in n at AttributeValue v ≡ None
unfolding fault_in
no_fault n at [] l p = refl
no_fault zero at (o ∷ v) l p = absurd (omega (arith, l))
no_fault (suc n) at (o ∷ v) l p =
    ap (or_at at (λ (q : List ℕ × ℕ). fault_in n (at + q.1) AttributeValue (drop q.1 (o ∷ v)))) (char_piece o v p.0)
    ∙ no_fault n (at + 1) v (omega (arith, l)) p.1

inside : (q : ℕ) (v : List ℕ) → is_encoding_char q ≡ false → Chars v → AllByRecursion (λ o. (o ≢ q) × (o ≢ 60)) v
inside q [] f p = tt
inside q (o ∷ v) f p = ((is_not q o f p.0, is_not 60 o refl p.0), inside q v f p.1)

quote_is_none : (q : ℕ) → (q ≡ 34) ⊎ (q ≡ 39) → is_encoding_char q ≡ false
quote_is_none q (inl e) = ap is_encoding_char e
quote_is_none q (inr e) = ap is_encoding_char e

quote_is_no_space : (q : ℕ) → (q ≡ 34) ⊎ (q ≡ 39) → is_space q ≡ false
quote_is_no_space q (inl e) = ap is_space e
quote_is_no_space q (inr e) = ap is_space e

quoted_value : (x v : List ℕ) → Chars v → IsQuoted x v → IsAttValue x v
quoted_value x v p (q, m, w) = record {
  quote = q;
  is_quote = m;
  inside = inside q v (quote_is_none q m) p;
  references = no_fault (length v) 0 v (omega arith) p;
  whole = w;
}

-- ---- a part

-- the name of a part, which white space does not begin
record IsNameOfPart (w : List ℕ) : Type 0 where
  stops : (y : List ℕ) → Stops is_space (w ++ y)
  starts : (y : List ℕ) → starts_with nat_eq (w ++ y) w ≡ true

abbrev at_name : List ℕ → ℕ → List ℕ → Option Part
at_name w k y = cond (k == 0) None (cond (starts_with nat_eq y w) (after_name (k + length w) (drop (length w) y)) None)

part_reads : (w x rest v : List ℕ) → IsNameOfPart w → Chars v → IsPart w x v → part w (x ++ rest) ≡ Some (record { value = v; size = length x })
unfolding part
part_reads w x rest v n p i =
    let s = i.space in
    let e = i.equals in
    let q = i.quoted in
    let z = q ++ rest in
    let y = w ++ (e ++ z) in
    let (o, m, f) = i.value in
    let some = i.some in
    let quote : Stops is_space z = subst (λ (u : List ℕ). Stops is_space (u ++ rest)) (sym f) (quote_is_no_space o m) in
    let all : x ++ rest ≡ s ++ y =
    ap (λ (u : List ℕ). u ++ rest) i.whole ∙ append_assoc s (w ++ (e ++ q)) rest
    ∙ ap (λ (u : List ℕ). s ++ u) (append_assoc w (e ++ q) rest ∙ ap (λ (u : List ℕ). w ++ u) (append_assoc e q rest)) in
    let k : space_len (s ++ y) ≡ length s = run_all is_space s y i.spaced (n.stops (e ++ z)) in
    let j = length s + length w in
    let size : j + length e + (length v + 2) ≡ length x =
    omega (arith, ap length i.whole, ap length f, length-append s (w ++ (e ++ q)), length-append w (e ++ q), length-append e q, length-append v (o ∷ [])) in
    ap (part w) all ∙ ap (λ (u : ℕ). at_name w u (drop u (s ++ y))) k ∙ ap (at_name w (length s)) (drop_at s y (length s) refl)
    ∙ cond-false (length s == 0) None (cond (starts_with nat_eq y w) (after_name j (drop (length w) y)) None) (ne_eqb (length s) 0 (λ u. omega (arith, u, some)))
    ∙ cond-true (starts_with nat_eq y w) (after_name j (drop (length w) y)) None (n.starts (e ++ z))
    ∙ ap (after_name j) (drop_at w (e ++ z) (length w) refl) ∙ ap (option_and_then (from_equals j (e ++ z))) (eq_reads e z i.eq quote)
    ∙ ap (λ (u : List ℕ). option_map (λ (t : List ℕ). record { value = t; size = j + length e + (length t + 2) }) (att_value u)) (drop_at e z (length e) refl)
    ∙ ap (option_map (λ (t : List ℕ). record { value = t; size = j + length e + (length t + 2) })) (att_value_reads q rest v (quoted_value q v p i.value))
    ∙ ap (λ (u : ℕ). Some (record { value = v; size = u })) size

-- another part, or none, is at the start
other_part : (w s y : List ℕ) → AreSpaces s → Stops is_space y → starts_with nat_eq y w ≡ false → part w (s ++ y) ≡ None
unfolding part
other_part w s y p e f =
    let k : space_len (s ++ y) ≡ length s = run_all is_space s y p e in
    let g = after_name (length s + length w) (drop (length w) y) in
    ap (λ (u : ℕ). at_name w u (drop u (s ++ y))) k ∙ ap (at_name w (length s)) (drop_at s y (length s) refl)
    ∙ same (length s == 0) (cond (starts_with nat_eq y w) g None) (cond-false (starts_with nat_eq y w) g None f)
  where
    same : (b : Bool) (p : Option Part) → p ≡ None → cond b None p ≡ None
    same true p e = refl
    same false p e = e

-- what is read is a part
record FoundPart (w x : List ℕ) (p : Part) : Type 0 where
  front : List ℕ
  rest : List ℕ
  whole : x ≡ front ++ rest
  size : p.size ≡ length front
  is : IsPart w front p.value

part_found : (w x : List ℕ) (p : Part) → part w x ≡ Some p → FoundPart w x p
unfolding part
part_found w x p h =
    let k = space_len x in
    let y = drop k x in
    let g = after_name (k + length w) (drop (length w) y) in
    elim (cases_Bool (k == 0)) [
      | inl t ↦
          let e = sym (cond-true (k == 0) None (cond (starts_with nat_eq y w) g None) t) ∙ h in absurd (cc)
      | inr f ↦
          let h1 = sym (cond-false (k == 0) None (cond (starts_with nat_eq y w) g None) f) ∙ h in
          elim (cases_Bool (starts_with nat_eq y w)) [
            | inl t ↦ by_equals f (starts_from w y t) (eq_len (drop (length w) y)) refl (sym (cond-true (starts_with nat_eq y w) g None t) ∙ h1)
            | inr u ↦ let e = sym (cond-false (starts_with nat_eq y w) g None u) ∙ h1 in absurd (cc)
          ]
    ]
  where
    by_value : (k e : ℕ) → k ≡ space_len x → (k == 0) ≡ false → drop k x ≡ w ++ drop (length w) (drop k x)
        → eq_len (drop (length w) (drop k x)) ≡ Some e → (r : Option (List ℕ)) → att_value (drop e (drop (length w) (drop k x))) ≡ r
        → option_map (λ (t : List ℕ). record { value = t; size = k + length w + e + (length t + 2) }) r ≡ Some p → FoundPart w x p
    by_value k e d f c b None a g = absurd (cc)
    by_value k e d f c b (Some v) a g =
        let y = drop (length w) (drop k x) in
        let u = drop e y in
        let m = length v + 2 in
        let r = run_is is_space x in
        let P : ℕ → Type 0 = λ j. AreSpaces (take j x) × (j ≤ length x) in
        let s : P k = subst P (sym d) (r.passes, r.inside) in
        let i = eq_found y e b in
        let t = att_value_found u v a in
        let same = some_same (record { value = v; size = k + length w + e + m }) p g in
        let front = take k x ++ (w ++ (take e y ++ take m u)) in
        let rest = drop m u in
        let whole : x ≡ front ++ rest =
        sym (take-append-drop k x)
        ∙ ap (λ (z : List ℕ). take k x ++ z) (c ∙ ap (λ (z : List ℕ). w ++ z) (sym (take-append-drop e y) ∙ ap (λ (z : List ℕ). take e y ++ z) (sym (take-append-drop m u)) ∙ sym (append_assoc (take e y) (take m u) rest)) ∙ sym (append_assoc w (take e y ++ take m u) rest))
        ∙ sym (append_assoc (take k x) (w ++ (take e y ++ take m u)) rest) in
        let lk = length-take-le k x s.1 in
        let le = length-take-le e y i.inside in
        let lm = length-take-le m u t.inside in
        let found : FoundPart w x (record { value = v; size = k + length w + e + m }) = record {
          front = front;
          rest = rest;
          whole = whole;
          size = omega (arith, lk, le, lm, length-append (take k x) (w ++ (take e y ++ take m u)), length-append w (take e y ++ take m u), length-append (take e y) (take m u));
          is = record {
            space = take k x;
            equals = take e y;
            quoted = take m u;
            spaced = s.0;
            some = some_spaces k (length (take k x)) f lk;
            eq = i.is;
            value = (t.is.quote, t.is.is_quote, t.is.whole);
            whole = refl;
          };
        } in
        subst (FoundPart w x) same found
      where
        some_spaces : (k l : ℕ) → (k == 0) ≡ false → l ≡ k → 1 ≤ l
        some_spaces zero l f e = absurd (cc)
        some_spaces (suc k) l f e = omega (arith, e)

    by_equals : (space_len x == 0) ≡ false → drop (space_len x) x ≡ w ++ drop (length w) (drop (space_len x) x) → (r : Option ℕ)
        → eq_len (drop (length w) (drop (space_len x) x)) ≡ r
        → option_and_then (from_equals (space_len x + length w) (drop (length w) (drop (space_len x) x))) r ≡ Some p → FoundPart w x p
    by_equals f c None b g = absurd (cc)
    by_equals f c (Some e) b g =
        by_value (space_len x) e refl f c b (att_value (drop e (drop (length w) (drop (space_len x) x)))) refl g

-- ---- parts whose value passes a test

checked_reads : (w : List ℕ) (f : List ℕ → Bool) (x rest v : List ℕ) → IsNameOfPart w → ((u : List ℕ) → f u ≡ true → Chars u) → IsPart w x v → f v ≡ true
    → checked w f (x ++ rest) ≡ Some (record { value = v; size = length x })
unfolding checked
checked_reads w f x rest v n p i t =
    ap (option_and_then (if_passes f)) (part_reads w x rest v n (p v t) i) ∙ cond-true (f v) (Some (record { value = v; size = length x })) None t

other_checked : (w : List ℕ) (f : List ℕ → Bool) (s y : List ℕ) → AreSpaces s → Stops is_space y → starts_with nat_eq y w ≡ false → checked w f (s ++ y) ≡ None
unfolding checked
other_checked w f s y p e g = ap (option_and_then (if_passes f)) (other_part w s y p e g)

checked_found : (w : List ℕ) (f : List ℕ → Bool) (x : List ℕ) (p : Part) → checked w f x ≡ Some p → FoundPart w x p × (f p.value ≡ true)
unfolding checked
checked_found w f x p h = by_part (part w x) refl h
  where
    by_part : (q : Option Part) → part w x ≡ q → option_and_then (if_passes f) q ≡ Some p → FoundPart w x p × (f p.value ≡ true)
    by_part None e h = absurd (cc)
    by_part (Some q) e h = elim (cases_Bool (f q.value)) [
      | inl t ↦
          let P : Part → Type 0 = λ r. FoundPart w x r × (f r.value ≡ true) in
          subst P (some_same q p (sym (cond-true (f q.value) (Some q) None t) ∙ h)) (part_found w x q e, t)
      | inr u ↦ let e = sym (cond-false (f q.value) (Some q) None u) ∙ h in absurd (cc)
    ]

-- a part that may be missing
perhaps_reads : (w : List ℕ) (f : List ℕ → Bool) (x rest : List ℕ) (v : Option (List ℕ)) → IsNameOfPart w → ((u : List ℕ) → f u ≡ true → Chars u)
    → IsPerhaps w f x v → checked w f rest ≡ None
    → (p : Option Part) × (checked w f (x ++ rest) ≡ p) × (size_of p ≡ length x) × (value_of p ≡ v)
perhaps_reads w f x rest None n p i e = (None, ap (λ (u : List ℕ). checked w f (u ++ rest)) i ∙ e, ap length (sym i), refl)
perhaps_reads w f x rest (Some v) n p i e = (
  Some (record { value = v; size = length x }),
  checked_reads w f x rest v n p i.0 i.1,
  refl,
  refl,
)

record FoundPerhaps (w : List ℕ) (f : List ℕ → Bool) (x : List ℕ) (p : Option Part) : Type 0 where
  front : List ℕ
  rest : List ℕ
  whole : x ≡ front ++ rest
  size : size_of p ≡ length front
  is : IsPerhaps w f front (value_of p)

perhaps_found : (w : List ℕ) (f : List ℕ → Bool) (x : List ℕ) (p : Option Part) → checked w f x ≡ p → FoundPerhaps w f x p
perhaps_found w f x None h = record { front = []; rest = x; whole = refl; size = refl; is = refl }
perhaps_found w f x (Some p) h =
    let (r, t) = checked_found w f x p h in
    record { front = r.front; rest = r.rest; whole = r.whole; size = r.size; is = (r.is, t) }

-- ---- the end

end_reads : (s rest : List ℕ) → AreSpaces s → end_len (s ++ (codes "?>" ++ rest)) ≡ Some (length s + 2)
unfolding end_len
end_reads s rest p =
    let y = codes "?>" ++ rest in
    ap (λ (k : ℕ). cond (starts_with nat_eq (drop k (s ++ y)) (codes "?>")) (Some (k + 2)) None) (run_all is_space s y p refl)
    ∙ ap (λ (u : List ℕ). cond (starts_with nat_eq u (codes "?>")) (Some (length s + 2)) None) (drop_at s y (length s) refl)

end_found : (x : List ℕ) (n : ℕ) → end_len x ≡ Some n → (s rest : List ℕ) × AreSpaces s × (x ≡ s ++ (codes "?>" ++ rest)) × (n ≡ length s + 2)
unfolding end_len
end_found x n h =
    let k = space_len x in
    let y = drop k x in
    let r = run_is is_space x in
    elim (cases_Bool (starts_with nat_eq y (codes "?>"))) [
      | inl t ↦
          let same = some_same (k + 2) n (sym (cond-true (starts_with nat_eq y (codes "?>")) (Some (k + 2)) None t) ∙ h) in
          let len = length-take-le k x r.inside in (
            take k x,
            drop 2 y,
            r.passes,
            sym (take-append-drop k x) ∙ ap (λ (u : List ℕ). take k x ++ u) (starts_from (codes "?>") y t),
            omega (arith, same, len),
          )
      | inr f ↦ let e = sym (cond-false (starts_with nat_eq y (codes "?>")) (Some (k + 2)) None f) ∙ h in absurd (cc)
    ]

-- ---- the whole declaration

version_name : IsNameOfPart (codes "version")
version_name = record { stops = λ y. refl; starts = λ y. refl }

encoding_name : IsNameOfPart (codes "encoding")
encoding_name = record { stops = λ y. refl; starts = λ y. refl }

standalone_name : IsNameOfPart (codes "standalone")
standalone_name = record { stops = λ y. refl; starts = λ y. refl }

-- no encoding is at the start of what follows one
no_encoding : (x s rest : List ℕ) (v : Option (List ℕ)) → IsPerhaps (codes "standalone") is_standalone x v → AreSpaces s
    → encoding_part (x ++ (s ++ (codes "?>" ++ rest))) ≡ None
no_encoding x s rest None i p =
    ap (λ (u : List ℕ). encoding_part (u ++ (s ++ (codes "?>" ++ rest)))) i ∙ other_checked (codes "encoding") is_encoding s (codes "?>" ++ rest) p refl refl
no_encoding x s rest (Some v) i p =
    let j = i.0 in
    let end = s ++ (codes "?>" ++ rest) in
    let y = codes "standalone" ++ ((j.equals ++ j.quoted) ++ end) in
    let all : x ++ end ≡ j.space ++ y =
    ap (λ (u : List ℕ). u ++ end) j.whole ∙ append_assoc j.space (codes "standalone" ++ (j.equals ++ j.quoted)) end
    ∙ ap (λ (u : List ℕ). j.space ++ u) (append_assoc (codes "standalone") (j.equals ++ j.quoted) end) in
    ap encoding_part all ∙ other_checked (codes "encoding") is_encoding j.space y j.spaced refl refl

rest_reads : (x s rest : List ℕ) (v : Option (List ℕ)) → IsPerhaps (codes "standalone") is_standalone x v → AreSpaces s
    → rest_len (x ++ (s ++ (codes "?>" ++ rest))) ≡ Some (length x + (length s + 2))
unfolding rest_len
rest_reads x s rest v i p =
    let end = s ++ (codes "?>" ++ rest) in
    let (q, e, size, value) = perhaps_reads (codes "standalone") is_standalone x end v standalone_name standalone_chars i
    (other_checked (codes "standalone") is_standalone s (codes "?>" ++ rest) p refl refl) in
    ap (λ (r : Option Part). option_map (λ (k : ℕ). size_of r + k) (end_len (drop (size_of r) (x ++ end)))) e
    ∙ ap (λ (n : ℕ). option_map (λ (k : ℕ). n + k) (end_len (drop n (x ++ end)))) size
    ∙ ap (λ (u : List ℕ). option_map (λ (k : ℕ). length x + k) (end_len u)) (drop_at x end (length x) refl)
    ∙ ap (option_map (λ (k : ℕ). length x + k)) (end_reads s rest p)

pub declarations_are_read : DeclarationsAreRead
unfolding declaration
declarations_are_read x rest encoding d =
    let v = d.version_info in
    let c = d.encoding_decl in
    let a = d.standalone_decl in
    let s = d.space in
    let end = s ++ (codes "?>" ++ rest) in
    let y = a ++ end in
    let z = c ++ y in
    let all : x ++ rest ≡ codes "<?xml" ++ (v ++ z) =
    ap (λ (u : List ℕ). u ++ rest) d.whole
    ∙ ap (λ (u : List ℕ). codes "<?xml" ++ u) (append_assoc v (c ++ (a ++ (s ++ codes "?>"))) rest
    ∙ ap (λ (u : List ℕ). v ++ u) (append_assoc c (a ++ (s ++ codes "?>")) rest
    ∙ ap (λ (u : List ℕ). c ++ u) (append_assoc a (s ++ codes "?>") rest ∙ ap (λ (u : List ℕ). a ++ u) (append_assoc s (codes "?>") rest)))) in
    let (q, e, size, value) = perhaps_reads (codes "encoding") is_encoding c y encoding encoding_name encoding_chars d.encoded (no_encoding a s rest d.standalone d.alone d.spaced) in
    let total : 5 + length v + (length c + (length a + (length s + 2))) ≡ length x =
    omega (arith, ap length d.whole, length-append v (c ++ (a ++ (s ++ codes "?>"))), length-append c (a ++ (s ++ codes "?>")), length-append a (s ++ codes "?>"), length-append s (codes "?>")) in
    ap declaration all
    ∙ ap (option_and_then (λ (p : Part). from_version p.size (drop p.size (v ++ z)))) (checked_reads (codes "version") is_version v z d.number version_name version_chars d.version.0 d.version.1)
    ∙ ap (from_version (length v)) (drop_at v z (length v) refl)
    ∙ ap (λ (p : Option Part). option_map (λ (k : ℕ). record { encoding = value_of p; size = 5 + length v + (size_of p + k) }) (rest_len (drop (size_of p) z))) e
    ∙ ap (λ (n : ℕ). option_map (λ (k : ℕ). record { encoding = value_of q; size = 5 + length v + (n + k) }) (rest_len (drop n z))) size
    ∙ ap (λ (u : List ℕ). option_map (λ (k : ℕ). record { encoding = value_of q; size = 5 + length v + (length c + k) }) (rest_len u)) (drop_at c y (length c) refl)
    ∙ ap (option_map (λ (k : ℕ). record { encoding = value_of q; size = 5 + length v + (length c + k) })) (rest_reads a s rest d.standalone d.alone d.spaced)
    ∙ ap (λ (u : Option (List ℕ)). Some (record { encoding = u; size = 5 + length v + (length c + (length a + (length s + 2))) })) value
    ∙ ap (λ (n : ℕ). Some (record { encoding = encoding; size = n })) total

record FoundRest (x : List ℕ) (n : ℕ) : Type 0 where
  alone : List ℕ
  standalone : Option (List ℕ)
  space : List ℕ
  rest : List ℕ
  is : IsPerhaps (codes "standalone") is_standalone alone standalone
  spaced : AreSpaces space
  whole : x ≡ alone ++ (space ++ (codes "?>" ++ rest))
  size : n ≡ length alone + (length space + 2)

rest_found : (x : List ℕ) (n : ℕ) → rest_len x ≡ Some n → FoundRest x n
unfolding rest_len
rest_found x n h = by_part (standalone_part x) refl h
  where
    by_end : (p : Option Part) → FoundPerhaps (codes "standalone") is_standalone x p → (q : Option ℕ) → end_len (drop (size_of p) x) ≡ q
        → option_map (λ (k : ℕ). size_of p + k) q ≡ Some n → FoundRest x n
    by_end p r None e h = absurd (cc)
    by_end p r (Some k) e h =
        let same = some_same (size_of p + k) n h in
        let back : drop (size_of p) x ≡ r.rest = ap (λ (u : List ℕ). drop (size_of p) u) r.whole ∙ drop_at r.front r.rest (size_of p) (sym r.size) in
        let (s, rest, spaced, whole, size) = end_found r.rest k (ap end_len (sym back) ∙ e) in
        let first = r.size in
        record {
          alone = r.front;
          standalone = value_of p;
          space = s;
          rest = rest;
          is = r.is;
          spaced = spaced;
          whole = r.whole ∙ ap (λ (u : List ℕ). r.front ++ u) whole;
          size = omega (arith, same, size, first);
        }

    by_part : (p : Option Part) → standalone_part x ≡ p
        → option_map (λ (k : ℕ). size_of (standalone_part x) + k) (end_len (drop (size_of (standalone_part x)) x)) ≡ Some n → FoundRest x n
    by_part p e h =
        by_end p (perhaps_found (codes "standalone") is_standalone x p e) (end_len (drop (size_of p) x)) refl
        (ap (λ (r : Option Part). option_map (λ (k : ℕ). size_of r + k) (end_len (drop (size_of r) x))) (sym e) ∙ h)

abbrev FoundDeclaration : List ℕ → Declared → Type 0
FoundDeclaration x d = (y rest : List ℕ) × (x ≡ y ++ rest) × (d.size ≡ length y) × IsDeclaration y d.encoding

pub only_declarations_are_read : OnlyDeclarationsAreRead
unfolding declaration
only_declarations_are_read x d h = elim (cases_Bool (starts_with nat_eq x (codes "<?xml"))) [
  | inl t ↦
      by_version (starts_from (codes "<?xml") x t) (version_part (drop 5 x)) refl
      (sym (cond-true (starts_with nat_eq x (codes "<?xml")) (option_and_then (λ (v : Part). from_version v.size (drop v.size (drop 5 x))) (version_part (drop 5 x))) None t) ∙ h)
  | inr f ↦
      let e = sym (cond-false (starts_with nat_eq x (codes "<?xml")) (option_and_then (λ (v : Part). from_version v.size (drop v.size (drop 5 x))) (version_part (drop 5 x))) None f) ∙ h in
      absurd (cc)
]
  where
    by_rest : (p : Part) → x ≡ codes "<?xml" ++ drop 5 x → (v : FoundPart (codes "version") (drop 5 x) p) → is_version p.value ≡ true → (q : Option Part)
        → (c : FoundPerhaps (codes "encoding") is_encoding v.rest q) → (r : Option ℕ) → rest_len c.rest ≡ r
        → option_map (λ (k : ℕ). record { encoding = value_of q; size = 5 + p.size + (size_of q + k) }) r ≡ Some d → FoundDeclaration x d
    by_rest p w v t q c None e h = absurd (cc)
    by_rest p w v t q c (Some k) e h =
        let made : Declared = record { encoding = value_of q; size = 5 + p.size + (size_of q + k) } in
        let same = some_same made d h in
        let r = rest_found c.rest k e in
        let tail = r.space ++ codes "?>" in
        let body = v.front ++ (c.front ++ (r.alone ++ tail)) in
        let whole : x ≡ (codes "<?xml" ++ body) ++ r.rest =
        w ∙ ap (λ (u : List ℕ). codes "<?xml" ++ u) (v.whole
        ∙ ap (λ (u : List ℕ). v.front ++ u) (c.whole
        ∙ ap (λ (u : List ℕ). c.front ++ u) (r.whole ∙ ap (λ (u : List ℕ). r.alone ++ u) (sym (append_assoc r.space (codes "?>") r.rest)) ∙ sym (append_assoc r.alone tail r.rest))
        ∙ sym (append_assoc c.front (r.alone ++ tail) r.rest)) ∙ sym (append_assoc v.front (c.front ++ (r.alone ++ tail)) r.rest)) in
        let s1 = v.size in
        let s2 = c.size in
        let s3 = r.size in
        let found : FoundDeclaration x made = (
          codes "<?xml" ++ body,
          r.rest,
          whole,
          omega (arith, s1, s2, s3, length-append v.front (c.front ++ (r.alone ++ tail)), length-append c.front (r.alone ++ tail), length-append r.alone tail, length-append r.space (codes "?>")),
          record {
            number = p.value;
            version_info = v.front;
            encoding_decl = c.front;
            standalone = r.standalone;
            standalone_decl = r.alone;
            space = r.space;
            version = (v.is, t);
            encoded = c.is;
            alone = r.is;
            spaced = r.spaced;
            whole = refl;
          },
        ) in
        subst (FoundDeclaration x) same found

    by_encoding : (p : Part) → x ≡ codes "<?xml" ++ drop 5 x → (v : FoundPart (codes "version") (drop 5 x) p) → is_version p.value ≡ true → (q : Option Part)
        → encoding_part v.rest ≡ q → from_version p.size v.rest ≡ Some d → FoundDeclaration x d
    by_encoding p w v t q e h =
        let c = perhaps_found (codes "encoding") is_encoding v.rest q e in
        let back : drop (size_of q) v.rest ≡ c.rest = ap (λ (u : List ℕ). drop (size_of q) u) c.whole ∙ drop_at c.front c.rest (size_of q) (sym c.size) in
        by_rest p w v t q c (rest_len c.rest) refl
        (ap (λ (u : List ℕ). option_map (λ (k : ℕ). record { encoding = value_of q; size = 5 + p.size + (size_of q + k) }) (rest_len u)) (sym back)
        ∙ ap (λ (r : Option Part). option_map (λ (k : ℕ). record { encoding = value_of r; size = 5 + p.size + (size_of r + k) }) (rest_len (drop (size_of r) v.rest))) (sym e) ∙ h)

    by_version : x ≡ codes "<?xml" ++ drop 5 x → (q : Option Part) → version_part (drop 5 x) ≡ q
        → option_and_then (λ (v : Part). from_version v.size (drop v.size (drop 5 x))) q ≡ Some d → FoundDeclaration x d
    by_version w None e h = absurd (cc)
    by_version w (Some p) e h =
        let (v, t) = checked_found (codes "version") is_version (drop 5 x) p e in
        let back : drop p.size (drop 5 x) ≡ v.rest = ap (λ (u : List ℕ). drop p.size u) v.whole ∙ drop_at v.front v.rest p.size (sym v.size) in
        by_encoding p w v t (encoding_part v.rest) refl (ap (from_version p.size) (sym back) ∙ h)
