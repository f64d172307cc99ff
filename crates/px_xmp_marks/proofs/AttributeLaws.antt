-- What is read as an attribute is one, and each attribute is read.
use Rattle.std.proofs.Common.{◌≡◌, ◌≢◌, ◌≤◌, ◌+◌, ◌==◌, ◌||◌, ◌⊎◌, ℕ, suc, Bool, true, false, cond, List, [], ◌∷◌, ◌++◌, length, take, drop}
use Rattle.std.proofs.Common.{Option, Some, None, option_map, option_and_then, is_none, refl, sym, ap, subst, ◌∙◌, inl, inr, arith, eqb-true, eq-eqb, append_assoc, length-append}
use Rattle.std.proofs.lemmas.List.{drop_at, take_at, take-append-drop, length-take-le}
use Rattle.std.proofs.lemmas.Bool.{cases_Bool, cond-true, cond-false, ne_eqb, eqb-false}
use Rattle.std.specs.List.{AllByRecursion}
use Rattle.px_xmp_text.specs.Texts.{first_fault}
use Rattle.px_xmp_text.specs.declared.pieces.TextKind.TheVariants.{AttributeValue}
use Rattle.px_xmp_marks.specs.Reading.{run, is_space, is_name_char, space_len, begins_with, Named, name, eq_len, quoted_len, value_len, att_value, Attr, from_name, attribute}
use Rattle.px_xmp_marks.specs.Grammar.{IsName, AreSpaces, IsEq, IsAttValue, IsAttribute}
use Rattle.px_xmp_marks.specs.Laws.{AttributesAreRead, OnlyAttributesAreRead}
use Rattle.px_xmp_marks.proofs.NameLaws.{Stops, run_all, run_is, EndsName, name_reads, name_found, some_same, begins_from, around_mark}

-- ---- the equals sign

abbrev eq_at : ℕ → List ℕ → Option ℕ
eq_at k y = cond (begins_with 61 y) (Some (k + 1 + space_len (drop 1 y))) None

pub eq_reads : (x rest : List ℕ) → IsEq x → Stops is_space rest → eq_len (x ++ rest) ≡ Some (length x)
unfolding eq_len
eq_reads x rest (s, t, a, b, w) e =
    let y = 61 ∷ (t ++ rest) in
    let all : x ++ rest ≡ s ++ y = ap (λ (z : List ℕ). z ++ rest) w ∙ append_assoc s (61 ∷ t) rest in
    let k : space_len (s ++ y) ≡ length s = run_all is_space s y a refl in
    ap eq_len all ∙ ap (λ (j : ℕ). eq_at j (drop j (s ++ y))) k ∙ ap (eq_at (length s)) (drop_at s y (length s) refl)
    ∙ ap (λ (j : ℕ). Some (length s + 1 + j)) (run_all is_space t rest b e)
    ∙ ap Some (omega (arith, ap length w, length-append s (61 ∷ t)))

pub record ReadEq (x : List ℕ) (n : ℕ) : Type 0 where
  pub is : IsEq (take n x)
  pub inside : n ≤ length x

pub eq_found : (x : List ℕ) (n : ℕ) → eq_len x ≡ Some n → ReadEq x n
unfolding eq_len
eq_found x n h =
    let r = run_is is_space x in
    let k = run is_space x in
    let y = drop k x in elim (cases_Bool (begins_with 61 y)) [
      | inl t ↦
          let z = drop 1 y in
          let s = run_is is_space z in
          let same = some_same (k + 1 + run is_space z) n (sym (cond-true (begins_with 61 y) _ _ t) ∙ h) in
          let (front, rest, inside) = around_mark k (run is_space z) 61 x r.inside (begins_from 61 y t) s.inside in
          subst (ReadEq x) same (record { is = (take k x, take (run is_space z) z, r.passes, s.passes, front); inside = inside })
      | inr f ↦ let e = sym (cond-false (begins_with 61 y) (Some (k + 1 + space_len (drop 1 y))) None f) ∙ h in absurd (cc)
    ]

-- ---- quoted values

abbrev IsInside : ℕ → List ℕ → Type 0
IsInside q v = AllByRecursion (λ o. (o ≢ q) × (o ≢ 60)) v

quoted_reads : (q n : ℕ) (v rest : List ℕ) → IsInside q v → quoted_len q n (v ++ q ∷ rest) ≡ Some (n + length v)
unfolding quoted_len
quoted_reads q n [] rest h = cond-true (q == q) (Some n) _ (eq-eqb q q refl) ∙ ap Some (omega arith)
quoted_reads q n (o ∷ v) rest h =
    cond-false (o == q) (Some n) _ (ne_eqb o q h.0.0) ∙ cond-false (o == 60) None (quoted_len q (suc n) (v ++ q ∷ rest)) (ne_eqb o 60 h.0.1)
    ∙ quoted_reads q (suc n) v rest h.1 ∙ ap Some (omega arith)

record ReadQuoted (q : ℕ) (x : List ℕ) (n : ℕ) : Type 0 where
  inside : IsInside q (take n x)
  ends : drop n x ≡ q ∷ drop 1 (drop n x)
  short : n + 1 ≤ length x

quoted_found : (q j : ℕ) (x : List ℕ) (n : ℕ) → quoted_len q j x ≡ Some n → (k : ℕ) × (n ≡ j + k) × ReadQuoted q x k
unfolding quoted_len
quoted_found q j [] n h = absurd (cc)
quoted_found q j (o ∷ x) n h = elim (cases_Bool (o == q)) [
  | inl t ↦
      let same = some_same j n (sym (cond-true (o == q) _ _ t) ∙ h) in
      (0, sym same ∙ omega arith, record { inside = tt; ends = ap (λ (c : ℕ). c ∷ x) (eqb-true o q t); short = omega arith })
  | inr f ↦
      let h1 = sym (cond-false (o == q) _ _ f) ∙ h in elim (cases_Bool (o == 60)) [
        | inl t ↦ let e = sym (cond-true (o == 60) None (quoted_len q (suc j) x) t) ∙ h1 in absurd (cc)
        | inr g ↦
            let (k, e, r) = quoted_found q (suc j) x n (sym (cond-false (o == 60) _ _ g) ∙ h1) in (
              suc k,
              omega (arith, e),
              record { inside = ((eqb-false o q f, eqb-false o 60 g), r.inside); ends = r.ends; short = omega (arith, r.short) },
            )
      ]
]

none_from : (q : Option ℕ) → is_none q ≡ true → q ≡ None
none_from None h = refl
none_from (Some n) h = absurd (cc)

if_text : ℕ → List ℕ → Option ℕ
if_text n x = cond (is_none (first_fault AttributeValue (take n x))) (Some n) None

value_reads : (q : ℕ) (v rest : List ℕ) → IsInside q v → first_fault AttributeValue v ≡ None
    → value_len q (v ++ q ∷ rest) ≡ Some (length v)
unfolding value_len if_text
value_reads q v rest h e =
    let x = v ++ q ∷ rest in
    ap (option_and_then (λ n. if_text n x)) (quoted_reads q 0 v rest h ∙ ap Some (omega arith))
    ∙ ap (λ (y : List ℕ). cond (is_none (first_fault AttributeValue y)) (Some (length v)) None) (take_at v (q ∷ rest) (length v) refl)
    ∙ ap (λ (r : Option ℕ). cond (is_none r) (Some (length v)) None) e

record ReadValue (q : ℕ) (x : List ℕ) (n : ℕ) : Type 0 where
  quoted : ReadQuoted q x n
  references : first_fault AttributeValue (take n x) ≡ None

value_found : (q : ℕ) (x : List ℕ) (n : ℕ) → value_len q x ≡ Some n → ReadValue q x n
unfolding value_len if_text
value_found q x n h = by_quoted (quoted_len q 0 x) refl h
  where
    by_quoted : (r : Option ℕ) → quoted_len q 0 x ≡ r → option_and_then (λ n. if_text n x) r ≡ Some n → ReadValue q x n
    by_quoted None e h = absurd (cc)
    by_quoted (Some k) e h =
        let (j, same, r) = quoted_found q 0 x k e in
        let at : ReadQuoted q x k = subst (ReadQuoted q x) (omega (arith, same)) r in
        elim (cases_Bool (is_none (first_fault AttributeValue (take k x)))) [
          | inl t ↦
              let same = some_same k n (sym (cond-true (is_none (first_fault AttributeValue (take k x))) _ _ t) ∙ h) in
              subst (ReadValue q x) same (record { quoted = at; references = none_from _ t })
          | inr f ↦ let g = sym (cond-false (is_none (first_fault AttributeValue (take k x))) (Some k) None f) ∙ h in absurd (cc)
        ]

pub att_value_reads : (x rest v : List ℕ) → IsAttValue x v → att_value (x ++ rest) ≡ Some v
unfolding att_value
att_value_reads x rest v r =
    let q = r.quote in
    let y = v ++ q ∷ rest in
    let all : x ++ rest ≡ q ∷ y = ap (λ (z : List ℕ). z ++ rest) r.whole ∙ ap (λ (z : List ℕ). q ∷ z) (append_assoc v (q ∷ []) rest) in
    ap att_value all ∙ cond-true ((q == 34) || (q == 39)) (option_map (λ n. take n y) (value_len q y)) None (is_mark q r.is_quote)
    ∙ ap (option_map (λ n. take n y)) (value_reads q v rest r.inside r.references) ∙ ap Some (take_at v (q ∷ rest) (length v) refl)
  where
    is_mark : (q : ℕ) → (q ≡ 34) ⊎ (q ≡ 39) → ((q == 34) || (q == 39)) ≡ true
    is_mark q (inl e) = ap (λ (j : ℕ). (j == 34) || (j == 39)) e
    is_mark q (inr e) = ap (λ (j : ℕ). (j == 34) || (j == 39)) e

pub record ReadAttValue (x v : List ℕ) : Type 0 where
  pub is : IsAttValue (take (length v + 2) x) v
  pub inside : length v + 2 ≤ length x

pub att_value_found : (x v : List ℕ) → att_value x ≡ Some v → ReadAttValue x v
unfolding att_value
att_value_found [] v h = absurd (cc)
att_value_found (q ∷ x) v h = elim (cases_Bool ((q == 34) || (q == 39))) [
  | inl t ↦ by_value q x v (which q t) (value_len q x) refl (sym (cond-true ((q == 34) || (q == 39)) _ _ t) ∙ h)
  | inr f ↦ let e = sym (cond-false ((q == 34) || (q == 39)) (option_map (λ n. take n x) (value_len q x)) None f) ∙ h in absurd (cc)
]
  where
    which : (q : ℕ) → ((q == 34) || (q == 39)) ≡ true → (q ≡ 34) ⊎ (q ≡ 39)
    which q t = elim (cases_Bool (q == 34)) [
      | inl a ↦ inl (eqb-true q 34 a)
      | inr b ↦ inr (eqb-true q 39 (ap (λ (c : Bool). c || (q == 39)) (sym b) ∙ t))
    ]

    by_value : (q : ℕ) (x v : List ℕ) → (q ≡ 34) ⊎ (q ≡ 39) → (r : Option ℕ) → value_len q x ≡ r → option_map (λ n. take n x) r ≡ Some v
        → ReadAttValue (q ∷ x) v
    by_value q x v w None e h = absurd (cc)
    by_value q x v w (Some n) e h =
        let r = value_found q x n e in
        let same = some_same (take n x) v h in
        let short = r.quoted.short in
        let len : length (take n x) ≡ n = length-take-le n x (omega arith) in
        let whole : x ≡ (take n x ++ q ∷ []) ++ drop 1 (drop n x) =
        sym (take-append-drop n x) ∙ ap (λ (z : List ℕ). take n x ++ z) r.quoted.ends ∙ sym (append_assoc (take n x) (q ∷ []) (drop 1 (drop n x))) in
        let size : length (take n x ++ q ∷ []) ≡ n + 1 = omega (arith, length-append (take n x) (q ∷ []), len) in
        let front : take (n + 1) x ≡ take n x ++ q ∷ [] = ap (take (n + 1)) whole ∙ take_at (take n x ++ q ∷ []) (drop 1 (drop n x)) (n + 1) size in
        let two : length (take n x) + 2 ≡ suc (n + 1) = omega (arith, len) in
        let found : ReadAttValue (q ∷ x) (take n x) = record {
          is = record {
            quote = q;
            is_quote = w;
            inside = r.quoted.inside;
            references = r.references;
            whole = ap (λ (j : ℕ). take j (q ∷ x)) two ∙ ap (λ (z : List ℕ). q ∷ z) front;
          };
          inside = omega (arith, len, short);
        } in
        subst (ReadAttValue (q ∷ x)) same found

-- ---- attributes

pub name_size : (x : List ℕ) (n : Named) → IsName x n → length x ≡ n.size
name_size x n (inl h) = sym (ap (λ (m : Named). m.size) h.1)
name_size x n (inr (p, l, h, k, w, v)) = sym (ap (λ (m : Named). m.size) v)

-- white space ends a name
pub space_ends : (o : ℕ) → is_space o ≡ true → (is_name_char o ≡ false) × ((o == 58) ≡ false)
space_ends o h = elim (cases_Bool (o == 32)) [
  | inl e ↦ let P : ℕ → Type 0 = λ j. (is_name_char j ≡ false) × ((j == 58) ≡ false) in subst P (sym (eqb-true o 32 e)) (refl, refl)
  | inr f ↦ elim (cases_Bool (o == 9)) [
    | inl e ↦ let P : ℕ → Type 0 = λ j. (is_name_char j ≡ false) × ((j == 58) ≡ false) in subst P (sym (eqb-true o 9 e)) (refl, refl)
    | inr g ↦ elim (cases_Bool (o == 10)) [
      | inl e ↦ let P : ℕ → Type 0 = λ j. (is_name_char j ≡ false) × ((j == 58) ≡ false) in subst P (sym (eqb-true o 10 e)) (refl, refl)
      | inr k ↦
          let e : (o == 13) ≡ true = sym (ap (λ (c : Bool). c || (o == 9) || (o == 10) || (o == 13)) f
          ∙ ap (λ (c : Bool). c || (o == 10) || (o == 13)) g ∙ ap (λ (c : Bool). c || (o == 13)) k) ∙ h in
          let P : ℕ → Type 0 = λ j. (is_name_char j ≡ false) × ((j == 58) ≡ false) in subst P (sym (eqb-true o 13 e)) (refl, refl)
    ]
  ]
]

-- an equals sign with its white space ends a name
eq_ends_name : (x rest : List ℕ) → IsEq x → EndsName (x ++ rest)
eq_ends_name x rest (s, t, a, b, w) = subst (λ (z : List ℕ). EndsName (z ++ rest)) (sym w) (by_space s t a)
  where
    by_space : (s t : List ℕ) → AreSpaces s → EndsName ((s ++ 61 ∷ t) ++ rest)
    by_space [] t a = (refl, refl)
    by_space (o ∷ s) t a = space_ends o a.0

-- a quoted value does not begin with white space
value_stops : (x rest v : List ℕ) → IsAttValue x v → Stops is_space (x ++ rest)
value_stops x rest v r = subst (λ (z : List ℕ). Stops is_space (z ++ rest)) (sym r.whole) (no_space r.quote r.is_quote)
  where
    no_space : (q : ℕ) → (q ≡ 34) ⊎ (q ≡ 39) → is_space q ≡ false
    no_space q (inl e) = ap is_space e
    no_space q (inr e) = ap is_space e

pub attributes_are_read : AttributesAreRead
unfolding attribute
attributes_are_read x rest a r =
    let n = r.name_octets in
    let e = r.equals in
    let v = r.quoted in
    let y = e ++ (v ++ rest) in
    let all : x ++ rest ≡ n ++ y =
    ap (λ (z : List ℕ). z ++ rest) r.whole ∙ append_assoc n (e ++ v) rest ∙ ap (λ (z : List ℕ). n ++ z) (append_assoc e v rest) in
    let len : length n ≡ a.name.size = name_size n a.name r.name in
    let after : drop a.name.size (n ++ y) ≡ y = drop_at n y a.name.size len in
    let F : List ℕ → Option ℕ → Option Attr = λ z q.
    option_and_then (λ (k : ℕ). option_map (λ (w : List ℕ). record { name = a.name; value = w; size = a.name.size + k + (length w + 2) }) (att_value (drop k z))) q in
    let G : Option (List ℕ) → Option Attr = option_map (λ (w : List ℕ). record { name = a.name; value = w; size = a.name.size + length e + (length w + 2) }) in
    let size : a.name.size + length e + (length a.value + 2) ≡ a.size =
    omega (arith, r.size, ap length r.whole, length-append n (e ++ v), length-append e v, len, value_size v a.value r.value) in
    ap attribute all ∙ ap (option_and_then (from_name (n ++ y))) (name_reads n y a.name r.name (eq_ends_name e (v ++ rest) r.eq))
    ∙ ap (λ (z : List ℕ). F z (eq_len z)) after ∙ ap (F y) (eq_reads e (v ++ rest) r.eq (value_stops v rest a.value r.value))
    ∙ ap (λ (z : List ℕ). G (att_value z)) (drop_at e (v ++ rest) (length e) refl) ∙ ap G (att_value_reads v rest a.value r.value)
    ∙ ap (λ (j : ℕ). Some (record { name = a.name; value = a.value; size = j })) size
  where
    value_size : (x v : List ℕ) → IsAttValue x v → length x ≡ length v + 2
    value_size x v r = omega (arith, ap length r.whole, length-append v (r.quote ∷ []))

pub only_attributes_are_read : OnlyAttributesAreRead
unfolding attribute
only_attributes_are_read x a h = by_name x a (name x) refl h
  where
    by_value : (x : List ℕ) (a : Attr) (n : Named) (e : ℕ) (q : Option (List ℕ)) → name x ≡ Some n → eq_len (drop n.size x) ≡ Some e
        → att_value (drop e (drop n.size x)) ≡ q
        → option_map (λ (w : List ℕ). record { name = n; value = w; size = n.size + e + (length w + 2) }) q ≡ Some a
        → (y rest : List ℕ) × (x ≡ y ++ rest) × IsAttribute y a
    by_value x a n e None f g k h = absurd (cc)
    by_value x a n e (Some v) f g k h =
        let same = some_same (record { name = n; value = v; size = n.size + e + (length v + 2) }) a h in
        let rn = name_found x n f in
        let y = drop n.size x in
        let re = eq_found y e g in
        let z = drop e y in
        let rv = att_value_found z v k in
        let m = length v + 2 in
        let a1 = take n.size x in
        let a2 = take e y in
        let a3 = take m z in
        let rest = drop m z in
        let whole : x ≡ (a1 ++ (a2 ++ a3)) ++ rest =
        sym (take-append-drop n.size x) ∙ ap (λ (w : List ℕ). a1 ++ w) (sym (take-append-drop e y)
        ∙ ap (λ (w : List ℕ). a2 ++ w) (sym (take-append-drop m z)) ∙ sym (append_assoc a2 a3 rest))
        ∙ sym (append_assoc a1 (a2 ++ a3) rest) in
        let size : n.size + e + m ≡ length (a1 ++ (a2 ++ a3)) =
        omega (arith, length-append a1 (a2 ++ a3), length-append a2 a3, length-take-le n.size x rn.inside, length-take-le e y re.inside, length-take-le m z rv.inside) in
        let found : IsAttribute (a1 ++ (a2 ++ a3)) (record { name = n; value = v; size = n.size + e + (length v + 2) }) = record {
          name_octets = a1;
          equals = a2;
          quoted = a3;
          name = rn.is;
          eq = re.is;
          value = rv.is;
          whole = refl;
          size = size;
        } in
        (a1 ++ (a2 ++ a3), rest, whole, subst (IsAttribute (a1 ++ (a2 ++ a3))) same found)

    by_eq : (x : List ℕ) (a : Attr) (n : Named) (q : Option ℕ) → name x ≡ Some n → eq_len (drop n.size x) ≡ q
        → option_and_then (λ (e : ℕ). option_map (λ (w : List ℕ). record { name = n; value = w; size = n.size + e + (length w + 2) }) (att_value (drop e (drop n.size x)))) q ≡ Some a
        → (y rest : List ℕ) × (x ≡ y ++ rest) × IsAttribute y a
    by_eq x a n None f g h = absurd (cc)
    by_eq x a n (Some e) f g h = by_value x a n e (att_value (drop e (drop n.size x))) f g refl h

    by_name : (x : List ℕ) (a : Attr) (q : Option Named) → name x ≡ q → option_and_then (from_name x) q ≡ Some a
        → (y rest : List ℕ) × (x ≡ y ++ rest) × IsAttribute y a
    by_name x a None f h = absurd (cc)
    by_name x a (Some n) f h = by_eq x a n (eq_len (drop n.size x)) f refl h
