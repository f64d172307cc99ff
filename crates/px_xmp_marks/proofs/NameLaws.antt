-- What is read as a name is one, and each name is read.
use Rattle.std.proofs.Common.{◌≡◌, ◌≤◌, ◌+◌, ◌||◌, ℕ, suc, Bool, true, false, cond, List, [], ◌∷◌, ◌++◌, length, take, drop}
use Rattle.std.specs.Prelude.{⊤}
use Rattle.std.proofs.Common.{Option, Some, None, option_map, option_and_then, refl, sym, ap, subst, ◌∙◌, inl, inr, arith, eqb-true, append_assoc, length-append}
use Rattle.std.proofs.lemmas.List.{drop_at, take_at, take-append-drop, length-take-le}
use Rattle.std.proofs.lemmas.Bool.{cases_Bool, cond-true, cond-false}
use Rattle.std.specs.List.{AllByRecursion}
use Rattle.px_xmp_marks.specs.Reading.{run, is_name_start, is_name_char, name_len, ncname, begins_with, Named, from_first, name}
use Rattle.px_xmp_marks.specs.Grammar.{IsNcName, IsName}

-- ---- runs

abbrev pub Passes : (ℕ → Bool) → List ℕ → Type 0
Passes f x = AllByRecursion (λ o. f o ≡ true) x

-- nothing that passes is at the start
abbrev pub Stops : (ℕ → Bool) → List ℕ → Type 0
Stops f [] = ⊤
Stops f (o ∷ x) = f o ≡ false

pub run_all : (f : ℕ → Bool) (a rest : List ℕ) → Passes f a → Stops f rest → run f (a ++ rest) ≡ length a
run_all f [] [] p s = refl
run_all f [] (o ∷ rest) p s = cond-false (f o) (suc (run f rest)) 0 s
run_all f (o ∷ a) rest p s =
    cond-true (f o) (suc (run f (a ++ rest))) 0 p.0 ∙ ap (λ (n : ℕ). suc n) (run_all f a rest p.1 s)

-- a run, and what follows it
pub record Run (f : ℕ → Bool) (x : List ℕ) (n : ℕ) : Type 0 where
  pub passes : Passes f (take n x)
  pub stops : Stops f (drop n x)
  pub inside : n ≤ length x

pub run_is : (f : ℕ → Bool) (x : List ℕ) → Run f x (run f x)
run_is f [] = record { passes = tt; stops = tt; inside = omega arith }
run_is f (o ∷ x) = elim (cases_Bool (f o)) [
  | inl t ↦
      let r = run_is f x in
      subst (Run f (o ∷ x)) (sym (cond-true (f o) (suc (run f x)) 0 t)) (record { passes = (t, r.passes); stops = r.stops; inside = omega (arith, r.inside) })
  | inr n ↦ subst (Run f (o ∷ x)) (sym (cond-false (f o) (suc (run f x)) 0 n)) (record { passes = tt; stops = n; inside = omega arith })
]

or_left : (a b c d : Bool) → a ≡ true → (a || b || c || d) ≡ true
or_left true b c d h = refl
or_left false b c d h = absurd (cc)

-- a name can contain what it can begin with
pub start_is_char : (o : ℕ) → is_name_start o ≡ true → is_name_char o ≡ true
start_is_char o h = or_left (is_name_start o) _ _ _ h

-- what is up to m octets after a mark c, which follows k octets
pub around_mark : (k m c : ℕ) (x : List ℕ) → k ≤ length x → drop k x ≡ c ∷ drop 1 (drop k x) → m ≤ length (drop 1 (drop k x))
    → (take (k + 1 + m) x ≡ take k x ++ c ∷ take m (drop 1 (drop k x))) × (drop (k + 1 + m) x ≡ drop m (drop 1 (drop k x)))
    × (k + 1 + m ≤ length x)
around_mark k m c x h e i =
    let y = drop 1 (drop k x) in
    let p = take k x in
    let l = take m y in
    let lp : length p ≡ k = length-take-le k x h in
    let ll : length l ≡ m = length-take-le m y i in
    let whole : x ≡ (p ++ c ∷ l) ++ drop m y =
    sym (take-append-drop k x) ∙ ap (λ (z : List ℕ). p ++ z) (e ∙ ap (λ (z : List ℕ). c ∷ z) (sym (take-append-drop m y)))
    ∙ sym (append_assoc p (c ∷ l) (drop m y)) in
    let len : length (p ++ c ∷ l) ≡ k + 1 + m = omega (arith, length-append p (c ∷ l), lp, ll) in (
      ap (take (k + 1 + m)) whole ∙ take_at (p ++ c ∷ l) (drop m y) (k + 1 + m) len,
      ap (drop (k + 1 + m)) whole ∙ drop_at (p ++ c ∷ l) (drop m y) (k + 1 + m) len,
      omega (arith, ap length whole, length-append (p ++ c ∷ l) (drop m y), len),
    )

-- ---- names without a colon

pub ncname_reads : (x rest : List ℕ) → IsNcName x → Stops is_name_char rest → ncname (x ++ rest) ≡ Some (length x)
unfolding ncname
ncname_reads x rest n s =
    ap (λ (y : List ℕ). ncname (y ++ rest)) n.whole
    ∙ cond-true (is_name_start n.first) (Some (name_len (n.first ∷ (n.others ++ rest)))) None n.begins
    ∙ ap Some (run_all is_name_char (n.first ∷ n.others) rest (start_is_char n.first n.begins, n.contains) s)
    ∙ ap (λ (y : List ℕ). Some (length y)) (sym n.whole)

-- what is read, and what follows it
pub record ReadNcName (x : List ℕ) (n : ℕ) : Type 0 where
  pub is : IsNcName (take n x)
  pub stops : Stops is_name_char (drop n x)
  pub inside : n ≤ length x

pub some_same : {A : Type 0} (p q : A) → Some p ≡ Some q → p ≡ q
some_same p q h = cc

pub ncname_found : (x : List ℕ) (n : ℕ) → ncname x ≡ Some n → ReadNcName x n
unfolding ncname
ncname_found [] n h = absurd (cc)
ncname_found (o ∷ x) n h = elim (cases_Bool (is_name_start o)) [
  | inl t ↦
      let same : suc (run is_name_char x) ≡ n =
      sym (cond-true (is_name_char o) (suc (run is_name_char x)) 0 (start_is_char o t))
      ∙ some_same _ n (sym (cond-true (is_name_start o) (Some (name_len (o ∷ x))) None t) ∙ h) in
      let r = run_is is_name_char x in
      subst (ReadNcName (o ∷ x)) same (record {
        is = record { first = o; others = take (run is_name_char x) x; whole = refl; begins = t; contains = r.passes };
        stops = r.stops;
        inside = omega (arith, r.inside);
      })
  | inr f ↦ let e = sym (cond-false (is_name_start o) (Some (name_len (o ∷ x))) None f) ∙ h in absurd (cc)
]

-- ---- names

-- neither a character of a name nor a colon is at the start
abbrev pub EndsName : List ℕ → Type 0
EndsName x = Stops is_name_char x × (begins_with 58 x ≡ false)

pub name_reads : (x rest : List ℕ) (n : Named) → IsName x n → EndsName rest → name (x ++ rest) ≡ Some n
unfolding name
name_reads x rest n (inl h) e =
    ap (option_and_then (from_first (x ++ rest))) (ncname_reads x rest h.0 e.0)
    ∙ ap (λ (y : List ℕ). cond (begins_with 58 y) (option_map (λ m. record { prefix = take (length x) (x ++ rest); local = take m (drop 1 y); size = length x + 1 + m }) (ncname (drop 1 y))) (Some (record { prefix = []; local = take (length x) (x ++ rest); size = length x }))) (drop_at x rest (length x) refl)
    ∙ cond-false (begins_with 58 rest) _ _ e.1
    ∙ ap (λ (y : List ℕ). Some (record { prefix = []; local = y; size = length x })) (take_at x rest (length x) refl) ∙ ap Some (sym h.1)
name_reads x rest n (inr (p, l, h, k, w, v)) e =
    let y = 58 ∷ (l ++ rest) in
    let all : x ++ rest ≡ p ++ y = ap (λ (z : List ℕ). z ++ rest) w ∙ append_assoc p (58 ∷ l) rest in
    let after = drop_at p y (length p) refl in
    let size : length p + 1 + length l ≡ length x = omega (arith, ap length w, length-append p (58 ∷ l)) in
    ap name all ∙ ap (option_and_then (from_first (p ++ y))) (ncname_reads p y h refl)
    ∙ ap (λ (z : List ℕ). cond (begins_with 58 z) (option_map (λ m. record { prefix = take (length p) (p ++ y); local = take m (drop 1 z); size = length p + 1 + m }) (ncname (drop 1 z))) (Some (record { prefix = []; local = take (length p) (p ++ y); size = length p }))) after
    ∙ ap (option_map (λ m. record { prefix = take (length p) (p ++ y); local = take m (l ++ rest); size = length p + 1 + m })) (ncname_reads l rest k e.0)
    ∙ ap (λ (z : List ℕ). Some (record { prefix = z; local = take (length l) (l ++ rest); size = length p + 1 + length l })) (take_at p y (length p) refl)
    ∙ ap (λ (z : List ℕ). Some (record { prefix = p; local = z; size = length p + 1 + length l })) (take_at l rest (length l) refl)
    ∙ ap (λ (j : ℕ). Some (record { prefix = p; local = l; size = j })) size ∙ ap Some (sym v)

-- what is read is a name
pub record ReadName (x : List ℕ) (n : Named) : Type 0 where
  pub is : IsName (take n.size x) n
  pub inside : n.size ≤ length x

pub begins_from : (c : ℕ) (x : List ℕ) → begins_with c x ≡ true → x ≡ c ∷ drop 1 x
begins_from c [] h = absurd (cc)
begins_from c (o ∷ x) h = ap (λ (j : ℕ). j ∷ x) (eqb-true o c h)

pub name_found : (x : List ℕ) (n : Named) → name x ≡ Some n → ReadName x n
unfolding name
name_found x n h = by_first x n (ncname x) refl h
  where
    by_second : (x : List ℕ) (n : Named) (k : ℕ) (q : Option ℕ) → ReadNcName x k → drop k x ≡ 58 ∷ drop 1 (drop k x)
        → ncname (drop 1 (drop k x)) ≡ q
        → option_map (λ m. record { prefix = take k x; local = take m (drop 1 (drop k x)); size = k + 1 + m }) q ≡ Some n → ReadName x n
    by_second x n k None r c e h = absurd (cc)
    by_second x n k (Some m) r c e h =
        let s = ncname_found (drop 1 (drop k x)) m e in
        let p = take k x in
        let l = take m (drop 1 (drop k x)) in
        let (front, rest, inside) = around_mark k m 58 x r.inside c s.inside in
        let len = length-take-le (k + 1 + m) x inside in
        let found : ReadName x (record { prefix = p; local = l; size = k + 1 + m }) = record {
          is = inr (
            p,
            l,
            r.is,
            s.is,
            front,
            ap (λ (j : ℕ). record { prefix = p; local = l; size = j }) (sym len),
          );
          inside = inside;
        } in
        subst (ReadName x) (some_same (record { prefix = p; local = l; size = k + 1 + m }) n h) found

    by_first : (x : List ℕ) (n : Named) (q : Option ℕ) → ncname x ≡ q → option_and_then (from_first x) q ≡ Some n → ReadName x n
    by_first x n None e h = absurd (cc)
    by_first x n (Some k) e h =
        let r = ncname_found x k e in
        elim (cases_Bool (begins_with 58 (drop k x))) [
          | inl t ↦
              by_second x n k (ncname (drop 1 (drop k x))) r (begins_from 58 (drop k x) t) refl
              (sym (cond-true (begins_with 58 (drop k x)) _ _ t) ∙ h)
          | inr f ↦
              let same = some_same (record { prefix = []; local = take k x; size = k }) n (sym (cond-false (begins_with 58 (drop k x)) _ _ f) ∙ h) in
              let found : ReadName x (record { prefix = []; local = take k x; size = k }) = record {
                is = inl (r.is, ap (λ (j : ℕ). record { prefix = []; local = take k x; size = j }) (sym (length-take-le k x r.inside)));
                inside = r.inside;
              } in
              subst (ReadName x) same found
        ]
