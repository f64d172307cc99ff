-- What is read as a tag is one, and each tag is read.
use Rattle.std.proofs.Common.{◌≡◌, ◌≤◌, ◌<◌, ◌+◌, ◌==◌, ◌&&◌, ◌||◌, ℕ, zero, suc, Bool, true, false, cond, nat_eq, codes, List, [], ◌∷◌, ◌++◌, length, take, drop}
use Rattle.std.proofs.Common.{Option, Some, None, option_map, option_and_then, MatchOption, refl, sym, ap, subst, ◌∙◌, inl, inr, arith, eqb-true, append_assoc, length-append}
use Rattle.std.proofs.lemmas.List.{drop_at, take_at, take-append-drop, length-take-le}
use Rattle.std.proofs.lemmas.Bool.{cases_Bool, cond-true, cond-false, ne_eqb}
use Rattle.std.specs.List.{starts_with}
use Rattle.std.specs.Cmp.Lexicographic.{pointwise}
use Rattle.px_xmp_marks.specs.Reading.{is_space, is_name_start, space_len, begins_with, Named, name, Attr, attribute, ends_tag, attributes_in, attributes_of, tag_end, Start, start_tag, from_tag_name, End, end_tag, from_end_name}
use Rattle.px_xmp_marks.specs.Reading.{Next, next_attribute}
use Rattle.px_xmp_marks.specs.Grammar.{IsName, AreSpaces, IsAttribute, AreAttributes, closing, IsStartTag, IsEndTag}
use Rattle.px_xmp_marks.specs.Laws.{HasAttributes, AttributesInOrder, StartTagsAreRead, OnlyStartTagsAreRead, EndTagsAreRead, OnlyEndTagsAreRead}
use Rattle.px_xmp_marks.proofs.NameLaws.{Stops, run_all, run_is, EndsName, name_reads, name_found, some_same, begins_from}
use Rattle.px_xmp_marks.proofs.AttributeLaws.{space_ends, name_size, attributes_are_read, only_attributes_are_read}
use Rattle.px_xmp_marks.proofs.TagSteps.{Listed, after_space, last, first, to_first}

-- ---- with what a name begins

record Begins (x : List ℕ) : Type 0 where
  octet : ℕ
  rest : List ℕ
  whole : x ≡ octet ∷ rest
  is : is_name_start octet ≡ true

name_begins : (x : List ℕ) (n : Named) → IsName x n → Begins x
name_begins x n (inl h) = let r = h.0 in record { octet = r.first; rest = r.others; whole = r.whole; is = r.begins }
name_begins x n (inr (p, l, h, k, w, v)) =
    record { octet = h.first; rest = h.others ++ 58 ∷ l; whole = w ∙ ap (λ (z : List ℕ). z ++ 58 ∷ l) h.whole; is = h.begins }

attribute_begins : (x : List ℕ) (a : Attr) → IsAttribute x a → Begins x
attribute_begins x a r =
    let b = name_begins r.name_octets a.name r.name in
    record {
      octet = b.octet;
      rest = b.rest ++ (r.equals ++ r.quoted);
      whole = r.whole ∙ ap (λ (z : List ℕ). z ++ (r.equals ++ r.quoted)) b.whole;
      is = b.is;
    }

apart : (c k : ℕ) → is_name_start c ≡ true → is_name_start k ≡ false → (c == k) ≡ false
apart c k h g = ne_eqb c k (λ e. let f : true ≡ false = sym h ∙ ap is_name_start e ∙ g in absurd (cc))

or_none : (a b c d : Bool) → a ≡ false → b ≡ false → c ≡ false → d ≡ false → (a || b || c || d) ≡ false
or_none false false false d e f g h = h
or_none true b c d e f g h = absurd (cc)
or_none false true c d e f g h = absurd (cc)
or_none false false true d e f g h = absurd (cc)

or_neither : (a b : Bool) → a ≡ false → b ≡ false → (a || b) ≡ false
or_neither false b e f = f
or_neither true b e f = absurd (cc)

start_is_no_space : (c : ℕ) → is_name_start c ≡ true → is_space c ≡ false
start_is_no_space c h = or_none (c == 32) (c == 9) (c == 10) (c == 13) (apart c 32 h refl) (apart c 9 h refl) (apart c 10 h refl) (apart c 13 h refl)

start_is_no_end : (c : ℕ) → is_name_start c ≡ true → ((c == 62) || (c == 47)) ≡ false
start_is_no_end c h = or_neither (c == 62) (c == 47) (apart c 62 h refl) (apart c 47 h refl)

-- ---- attributes

space_before_end : (x : List ℕ) → ends_tag x ≡ true → Stops is_space x
space_before_end [] h = tt
space_before_end (o ∷ x) h = elim (cases_Bool (o == 62)) [
  | inl e ↦ ap is_space (eqb-true o 62 e)
  | inr f ↦
      let e : (o == 47) ≡ true = sym (ap (λ (c : Bool). c || (o == 47)) f) ∙ h in ap is_space (eqb-true o 47 e)
]

attributes_read : (m : ℕ) (x rest : List ℕ) (l : List Attr) → AreAttributes x l → ends_tag rest ≡ true → length (x ++ rest) < m
    → attributes_in m (x ++ rest) ≡ Some (l, length x)
unfolding attributes_in
attributes_read zero x rest l h e s = absurd (omega arith)
attributes_read (suc n) x rest [] h e s =
    let y = x ++ rest in
    let k : space_len y ≡ length x = run_all is_space x rest h (space_before_end rest e) in
    let z : after_space y ≡ rest = ap (λ (j : ℕ). drop j y) k ∙ drop_at x rest (length x) refl in
    cond-true (ends_tag (after_space y)) (last y) (cond (space_len y == 0) None (first n y)) (ap ends_tag z ∙ e)
    ∙ ap (λ (j : ℕ). Some ([], j)) k
attributes_read (suc n) x rest (a ∷ l) (s, y, r, p, one, at, more, w) e h =
    let t = r ++ rest in
    let Y = x ++ rest in
    let all : Y ≡ s ++ (y ++ t) =
    ap (λ (z : List ℕ). z ++ rest) w ∙ append_assoc s (y ++ r) rest ∙ ap (λ (z : List ℕ). s ++ z) (append_assoc y r rest) in
    let b = attribute_begins y a at in
    let stops : Stops is_space (y ++ t) = subst (λ (z : List ℕ). Stops is_space (z ++ t)) (sym b.whole) (start_is_no_space b.octet b.is) in
    let k : space_len Y ≡ length s = ap space_len all ∙ run_all is_space s (y ++ t) p stops in
    let z : after_space Y ≡ y ++ t = ap (λ (j : ℕ). drop j Y) k ∙ ap (drop (length s)) all ∙ drop_at s (y ++ t) (length s) refl in
    let none : ends_tag (after_space Y) ≡ false =
    ap ends_tag z ∙ ap (λ (q : List ℕ). ends_tag (q ++ t)) b.whole ∙ start_is_no_end b.octet b.is in
    let found : attribute (after_space Y) ≡ Some a = ap attribute z ∙ attributes_are_read y t a at in
    let after : drop a.size (after_space Y) ≡ t = ap (drop a.size) z ∙ drop_at y t a.size (sym at.size) in
    let len1 = ap length all in
    let len2 = length-append s (y ++ t) in
    let len3 = length-append y t in
    let len4 = ap length w in
    let len5 = length-append s (y ++ r) in
    let len6 = length-append y r in
    let rec = attributes_read n r rest l more e (omega (arith, h, len1, len2, len3, one)) in
    let size : length s + a.size + length r ≡ length x = omega (arith, len4, len5, len6, at.size) in
    to_first n Y none (omega (arith, k, one))
    ∙ ap (option_and_then (λ (b : Attr). option_map (λ (q : Listed). (b ∷ q.0, space_len Y + b.size + q.1)) (attributes_in n (drop b.size (after_space Y))))) found
    ∙ ap (λ (q : List ℕ). option_map (λ (q : Listed). (a ∷ q.0, space_len Y + a.size + q.1)) (attributes_in n q)) after
    ∙ ap (option_map (λ (q : Listed). (a ∷ q.0, space_len Y + a.size + q.1))) rec
    ∙ ap (λ (j : ℕ). Some (a ∷ l, j + a.size + length r)) k ∙ ap (λ (j : ℕ). Some (a ∷ l, j)) size

record ReadAttributes (x : List ℕ) (l : List Attr) (k : ℕ) : Type 0 where
  are : AreAttributes (take k x) l
  ends : ends_tag (drop k x) ≡ true
  inside : k ≤ length x

attributes_found : (m : ℕ) (x : List ℕ) (r : Listed) → attributes_in m x ≡ Some r → ReadAttributes x r.0 r.1
unfolding attributes_in
attributes_found zero x r h = absurd (cc)
attributes_found (suc n) x r h =
    let s = run_is is_space x in elim (cases_Bool (ends_tag (after_space x))) [
      | inl t ↦
          let same = some_same {A = Listed} ([], space_len x) r (sym (cond-true (ends_tag (after_space x)) (last x) _ t) ∙ h) in
          let P : Listed → Type 0 = λ q. ReadAttributes x q.0 q.1 in
          subst P same (record { are = s.passes; ends = t; inside = s.inside })
      | inr f ↦
          let h1 = sym (cond-false (ends_tag (after_space x)) (last x) _ f) ∙ h in elim (cases_Bool (space_len x == 0)) [
            | inl t ↦ let e = sym (cond-true (space_len x == 0) None (first n x) t) ∙ h1 in absurd (cc)
            | inr g ↦
                by_attribute n x r (some_space (space_len x) g) (attribute (after_space x)) refl (λ y q e. attributes_found n y q e)
                (sym (cond-false (space_len x == 0) None (first n x) g) ∙ h1)
          ]
    ]
  where
    some_space : (k : ℕ) → (k == 0) ≡ false → 1 ≤ k
    some_space zero e = absurd (cc)
    some_space (suc k) e = omega arith

    by_rest : (x : List ℕ) (r : Listed) (a : Attr) → 1 ≤ space_len x → attribute (after_space x) ≡ Some a → (q : Option Listed)
        → ((v : Listed) → q ≡ Some v → ReadAttributes (drop a.size (after_space x)) v.0 v.1)
        → option_map (λ (v : Listed). (a ∷ v.0, space_len x + a.size + v.1)) q ≡ Some r → ReadAttributes x r.0 r.1
    by_rest x r a one e None ih h = absurd (cc)
    by_rest x r a one e (Some v) ih h =
        let same = some_same {A = Listed} (a ∷ v.0, space_len x + a.size + v.1) r h in
        let s = run_is is_space x in
        let (y, t, w, at) = only_attributes_are_read (after_space x) a e in
        let k = space_len x in
        let z = drop a.size (after_space x) in
        let zt : z ≡ t = ap (drop a.size) w ∙ drop_at y t a.size (sym at.size) in
        let i = ih v refl in
        let front = take k x ++ (y ++ take v.1 z) in
        let whole : x ≡ front ++ drop v.1 z =
        sym (take-append-drop k x) ∙ ap (λ (u : List ℕ). take k x ++ u) (w ∙ ap (λ (u : List ℕ). y ++ u) (sym zt ∙ sym (take-append-drop v.1 z))
        ∙ sym (append_assoc y (take v.1 z) (drop v.1 z))) ∙ sym (append_assoc (take k x) (y ++ take v.1 z) (drop v.1 z)) in
        let l1 = length-take-le k x s.inside in
        let l2 = length-take-le v.1 z i.inside in
        let size : length front ≡ k + a.size + v.1 =
        omega (arith, length-append (take k x) (y ++ take v.1 z), length-append y (take v.1 z), l1, l2, at.size) in
        let P : Listed → Type 0 = λ q. ReadAttributes x q.0 q.1 in
        subst P same (record {
          are = (
            take k x,
            y,
            take v.1 z,
            s.passes,
            omega (arith, l1, one),
            at,
            i.are,
            ap (take (k + a.size + v.1)) whole ∙ take_at front (drop v.1 z) (k + a.size + v.1) size,
          );
          ends = ap ends_tag (ap (drop (k + a.size + v.1)) whole ∙ drop_at front (drop v.1 z) (k + a.size + v.1) size) ∙ i.ends;
          inside = omega (arith, ap length whole, length-append front (drop v.1 z), size);
        })

    by_attribute : (n : ℕ) (x : List ℕ) (r : Listed) → 1 ≤ space_len x → (q : Option Attr) → attribute (after_space x) ≡ q
        → ((y : List ℕ) (v : Listed) → attributes_in n y ≡ Some v → ReadAttributes y v.0 v.1)
        → option_and_then (λ (a : Attr). option_map (λ (v : Listed). (a ∷ v.0, space_len x + a.size + v.1)) (attributes_in n (drop a.size (after_space x)))) q ≡ Some r
        → ReadAttributes x r.0 r.1
    by_attribute n x r one None e ih h = absurd (cc)
    by_attribute n x r one (Some a) e ih h =
        by_rest x r a one e (attributes_in n (drop a.size (after_space x))) (ih (drop a.size (after_space x))) h

-- ---- attributes in order

-- what is listed
abbrev listed : Option Listed → Option (List Attr)
listed q = option_map (λ (r : Listed). r.0) q

-- the list of attributes needs only as much fuel as there are octets
listed_again : (n : ℕ) (x : List ℕ) (v : Listed) → attributes_in n x ≡ Some v → listed (attributes_of x) ≡ Some v.0
listed_again n x v h =
    let r = attributes_found n x v h in
    let a = take v.1 x in
    let b = drop v.1 x in
    let e = take-append-drop v.1 x in
    ap (λ (y : List ℕ). listed (attributes_of y)) (sym e)
    ∙ ap listed (attributes_read (suc (length (a ++ b))) a b v.0 r.are r.ends (omega arith))

abbrev IsNext : List Attr → Next → Type 0
IsNext l n = (more : List Attr) × (l ≡ n.attribute ∷ more) × (listed (attributes_of n.rest) ≡ Some more)

pub attributes_in_order : AttributesInOrder
unfolding next_attribute attributes_in
attributes_in_order x l h = by_list x l (attributes_of x) refl h
  where
    by_rest : (x : List ℕ) (r : Listed) (a : Attr) (q : Option Listed)
        → ((v : Listed) → q ≡ Some v → listed (attributes_of (drop a.size (after_space x))) ≡ Some v.0)
        → option_map (λ (v : Listed). (a ∷ v.0, space_len x + a.size + v.1)) q ≡ Some r
        → (more : List Attr) × (r.0 ≡ a ∷ more) × (listed (attributes_of (drop a.size (after_space x))) ≡ Some more)
    by_rest x r a None ih h = absurd (cc)
    by_rest x r a (Some v) ih h =
        let same = some_same {A = Listed} (a ∷ v.0, space_len x + a.size + v.1) r h in
        (v.0, ap (λ (q : Listed). q.0) (sym same), ih v refl)

    by_attribute : (n : ℕ) (x : List ℕ) (r : Listed) (q : Option Attr)
        → option_and_then (λ (a : Attr). option_map (λ (v : Listed). (a ∷ v.0, space_len x + a.size + v.1)) (attributes_in n (drop a.size (after_space x)))) q ≡ Some r
        → MatchOption (option_map (λ (a : Attr). record { attribute = a; rest = drop a.size (after_space x) }) q) (r.0 ≡ []) (IsNext r.0)
    by_attribute n x r None h = absurd (cc)
    by_attribute n x r (Some a) h =
        by_rest x r a (attributes_in n (drop a.size (after_space x))) (λ v e. listed_again n (drop a.size (after_space x)) v e) h

    by_step : (n : ℕ) (x : List ℕ) (r : Listed) → attributes_in (suc n) x ≡ Some r
        → MatchOption (next_attribute x) (r.0 ≡ []) (IsNext r.0)
    by_step n x r h = elim (cases_Bool (ends_tag (after_space x))) [
      | inl t ↦
          let same = some_same {A = Listed} ([], space_len x) r (sym (cond-true (ends_tag (after_space x)) (last x) _ t) ∙ h) in
          let P : Option Next → Type 0 = λ q. MatchOption q (r.0 ≡ []) (IsNext r.0) in
          subst P (sym (cond-true (ends_tag (after_space x)) None _ t)) (ap (λ (q : Listed). q.0) (sym same))
      | inr f ↦
          let h1 = sym (cond-false (ends_tag (after_space x)) (last x) _ f) ∙ h in
          let P : Option Next → Type 0 = λ q. MatchOption q (r.0 ≡ []) (IsNext r.0) in
          subst P (sym (cond-false (ends_tag (after_space x)) None _ f)) (elim (cases_Bool (space_len x == 0)) [
            | inl t ↦ let e = sym (cond-true (space_len x == 0) None (first n x) t) ∙ h1 in absurd (cc)
            | inr g ↦ by_attribute n x r (attribute (after_space x)) (sym (cond-false (space_len x == 0) None (first n x) g) ∙ h1)
          ])
    ]

    by_list : (x : List ℕ) (l : List Attr) (q : Option Listed) → attributes_of x ≡ q → listed q ≡ Some l
        → MatchOption (next_attribute x) (l ≡ []) (IsNext l)
    by_list x l None e h = absurd (cc)
    by_list x l (Some r) e h =
        let P : List Attr → Type 0 = λ m. MatchOption (next_attribute x) (m ≡ []) (IsNext m) in
        subst P (some_same r.0 l h) (by_step (length x) x r e)

-- ---- start tags

-- a tag's end ends a name
end_ends_name : (x : List ℕ) → ends_tag x ≡ true → EndsName x
end_ends_name [] h = absurd (cc)
end_ends_name (o ∷ x) h = elim (cases_Bool (o == 62)) [
  | inl e ↦ let P : ℕ → Type 0 = λ j. EndsName (j ∷ x) in subst P (sym (eqb-true o 62 e)) (refl, refl)
  | inr f ↦
      let e : (o == 47) ≡ true = sym (ap (λ (c : Bool). c || (o == 47)) f) ∙ h in
      let P : ℕ → Type 0 = λ j. EndsName (j ∷ x) in subst P (sym (eqb-true o 47 e)) (refl, refl)
]

spaces_end_name : (x rest : List ℕ) → AreSpaces x → EndsName rest → EndsName (x ++ rest)
spaces_end_name [] rest h e = e
spaces_end_name (o ∷ x) rest h e = space_ends o h.0

attributes_end_name : (x rest : List ℕ) (l : List Attr) → AreAttributes x l → ends_tag rest ≡ true → EndsName (x ++ rest)
attributes_end_name x rest [] h e = spaces_end_name x rest h (end_ends_name rest e)
attributes_end_name x rest (a ∷ l) (s, y, r, p, one, at, more, w) e =
    subst (λ (z : List ℕ). EndsName (z ++ rest)) (sym w) (by_space s p one)
  where
    by_space : (s : List ℕ) → AreSpaces s → 1 ≤ length s → EndsName ((s ++ (y ++ r)) ++ rest)
    by_space [] p one = absurd (omega arith)
    by_space (o ∷ s) p one = space_ends o p.0

closing_ends : (b : Bool) (rest : List ℕ) → ends_tag (closing b ++ rest) ≡ true
closing_ends true rest = refl
closing_ends false rest = refl

closing_reads : (b : Bool) (rest : List ℕ) → tag_end (closing b ++ rest) ≡ Some (b, length (closing b))
unfolding tag_end
closing_reads true rest = refl
closing_reads false rest = refl

pub start_tags_are_read : StartTagsAreRead
unfolding start_tag
start_tags_are_read x rest n l b (y, z, h, are, w) =
    let e = closing b ++ rest in
    let R = z ++ e in
    let all : x ++ rest ≡ 60 ∷ (y ++ R) =
    ap (λ (u : List ℕ). u ++ rest) w
    ∙ ap (λ (u : List ℕ). 60 ∷ u) (append_assoc y (z ++ closing b) rest ∙ ap (λ (u : List ℕ). y ++ u) (append_assoc z (closing b) rest)) in
    let read : attributes_of R ≡ Some (l, length z) = attributes_read (suc (length R)) z e l are (closing_ends b rest) (omega arith) in
    let t : Start = record { name = n; rest = R; is_empty = b; size = 1 + n.size + length z + length (closing b) } in
    let G : Option (Bool × ℕ) → Option Start =
    option_map (λ (q : Bool × ℕ). record { name = n; rest = R; is_empty = q.0; size = 1 + n.size + length z + q.1 }) in
    let after : drop n.size (y ++ R) ≡ R = drop_at y R n.size (name_size y n h) in
    let is : start_tag (x ++ rest) ≡ Some t =
    ap start_tag all
    ∙ ap (option_and_then (λ (m : Named). from_tag_name m (drop m.size (y ++ R)))) (name_reads y R n h (attributes_end_name z e l are (closing_ends b rest)))
    ∙ ap (from_tag_name n) after
    ∙ ap (λ (q : Option Listed). option_and_then (λ (k : ℕ). option_map (λ (q : Bool × ℕ). record { name = n; rest = R; is_empty = q.0; size = 1 + n.size + k + q.1 }) (tag_end (drop k R))) (option_map (λ (r : Listed). r.1) q)) read
    ∙ ap (λ (u : List ℕ). G (tag_end u)) (drop_at z e (length z) refl) ∙ ap G (closing_reads b rest) in
    let size : 1 + n.size + length z + length (closing b) ≡ length x =
    omega (arith, ap length w, length-append y (z ++ closing b), length-append z (closing b), name_size y n h) in
    (t, is, refl, ap (option_map (λ (r : Listed). r.0)) read, refl, size)

pub and_both : (a b : Bool) → (a && b) ≡ true → (a ≡ true) × (b ≡ true)
and_both true b h = (refl, h)
and_both false b h = absurd (cc)

pub starts_from : (p x : List ℕ) → starts_with nat_eq x p ≡ true → x ≡ p ++ drop (length p) x
starts_from [] x h = refl
starts_from (a ∷ p) [] h = absurd (cc)
starts_from (a ∷ p) (b ∷ x) h =
    let c = and_both (nat_eq a b) (pointwise nat_eq p (take (length p) x)) h in
    let d = eqb-true a b c.0 in
    let e = starts_from p x c.1 in cc

record ReadEnd (x : List ℕ) (b : Bool) (k : ℕ) : Type 0 where
  rest : List ℕ
  whole : x ≡ closing b ++ rest
  size : k ≡ length (closing b)

end_found : (x : List ℕ) (e : Bool × ℕ) → tag_end x ≡ Some e → ReadEnd x e.0 e.1
unfolding tag_end
end_found x e h =
    let P : Bool × ℕ → Type 0 = λ q. ReadEnd x q.0 q.1 in
    elim (cases_Bool (begins_with 62 x)) [
      | inl t ↦
          subst P (some_same {A = Bool × ℕ} (false, 1) e (sym (cond-true (begins_with 62 x) (Some (false, 1)) _ t) ∙ h))
          (record { rest = drop 1 x; whole = begins_from 62 x t; size = refl })
      | inr f ↦
          let h1 = sym (cond-false (begins_with 62 x) (Some (false, 1)) _ f) ∙ h in
          elim (cases_Bool (starts_with nat_eq x (codes "/>"))) [
            | inl t ↦
                subst P (some_same {A = Bool × ℕ} (true, 2) e (sym (cond-true (starts_with nat_eq x (codes "/>")) (Some (true, 2)) None t) ∙ h1))
                (record { rest = drop 2 x; whole = starts_from (codes "/>") x t; size = refl })
            | inr g ↦ let k = sym (cond-false (starts_with nat_eq x (codes "/>")) (Some (true, 2)) None g) ∙ h1 in absurd (cc)
          ]
    ]

abbrev FoundStart : List ℕ → Start → Type 0
FoundStart x t =
    (y rest : List ℕ) × (attributes : List Attr) × (x ≡ y ++ rest) × (t.size ≡ length y) × HasAttributes t attributes
    × IsStartTag y t.name attributes t.is_empty

pub only_start_tags_are_read : OnlyStartTagsAreRead
unfolding start_tag
only_start_tags_are_read x t h = elim (cases_Bool (begins_with 60 x)) [
  | inl b ↦
      by_name x t (begins_from 60 x b) (name (drop 1 x)) refl (sym (cond-true (begins_with 60 x) _ None b) ∙ h)
  | inr f ↦
      let e = sym (cond-false (begins_with 60 x) (option_and_then (λ n. from_tag_name n (drop n.size (drop 1 x))) (name (drop 1 x))) None f) ∙ h in
      absurd (cc)
]
  where
    by_end : (x : List ℕ) (t : Start) (n : Named) (r : Listed) → x ≡ 60 ∷ drop 1 x → name (drop 1 x) ≡ Some n
        → attributes_of (drop n.size (drop 1 x)) ≡ Some r → (q : Option (Bool × ℕ)) → tag_end (drop r.1 (drop n.size (drop 1 x))) ≡ q
        → option_map (λ (e : Bool × ℕ). record { name = n; rest = drop n.size (drop 1 x); is_empty = e.0; size = 1 + n.size + r.1 + e.1 }) q ≡ Some t
        → FoundStart x t
    by_end x t n r w f g None e h = absurd (cc)
    by_end x t n r w f g (Some v) e h =
        let X = drop 1 x in
        let Y = drop n.size X in
        let Z = drop r.1 Y in
        let rn = name_found X n f in
        let ra = attributes_found (suc (length Y)) Y r g in
        let re = end_found Z v e in
        let p = take n.size X in
        let a = take r.1 Y in
        let k = closing v.0 in
        let front = 60 ∷ (p ++ (a ++ k)) in
        let whole : x ≡ front ++ re.rest =
        w ∙ ap (λ (u : List ℕ). 60 ∷ u) (sym (take-append-drop n.size X) ∙ ap (λ (u : List ℕ). p ++ u) (sym (take-append-drop r.1 Y)
        ∙ ap (λ (u : List ℕ). a ++ u) re.whole ∙ sym (append_assoc a k re.rest)) ∙ sym (append_assoc p (a ++ k) re.rest)) in
        let size : 1 + n.size + r.1 + v.1 ≡ length front =
        omega (arith, length-append p (a ++ k), length-append a k, length-take-le n.size X rn.inside, length-take-le r.1 Y ra.inside, re.size) in
        let s : Start = record { name = n; rest = Y; is_empty = v.0; size = 1 + n.size + r.1 + v.1 } in
        let found : FoundStart x s = (front, re.rest, r.0, whole, size, ap (option_map (λ (q : Listed). q.0)) g, (p, a, rn.is, ra.are, refl)) in
        subst (FoundStart x) (some_same s t h) found

    by_attributes : (x : List ℕ) (t : Start) (n : Named) → x ≡ 60 ∷ drop 1 x → name (drop 1 x) ≡ Some n
        → (q : Option Listed) → attributes_of (drop n.size (drop 1 x)) ≡ q
        → option_and_then (λ (k : ℕ). option_map (λ (e : Bool × ℕ). record { name = n; rest = drop n.size (drop 1 x); is_empty = e.0; size = 1 + n.size + k + e.1 }) (tag_end (drop k (drop n.size (drop 1 x))))) (option_map (λ (r : Listed). r.1) q) ≡ Some t
        → FoundStart x t
    by_attributes x t n w f None g h = absurd (cc)
    by_attributes x t n w f (Some r) g h = by_end x t n r w f g (tag_end (drop r.1 (drop n.size (drop 1 x)))) refl h

    by_name : (x : List ℕ) (t : Start) → x ≡ 60 ∷ drop 1 x → (q : Option Named) → name (drop 1 x) ≡ q
        → option_and_then (λ (n : Named). from_tag_name n (drop n.size (drop 1 x))) q ≡ Some t → FoundStart x t
    by_name x t w None f h = absurd (cc)
    by_name x t w (Some n) f h = by_attributes x t n w f (attributes_of (drop n.size (drop 1 x))) refl h

-- ---- end tags

pub end_tags_are_read : EndTagsAreRead
unfolding end_tag
end_tags_are_read x rest n (y, s, h, p, w) =
    let R = s ++ 62 ∷ rest in
    let all : x ++ rest ≡ 60 ∷ 47 ∷ (y ++ R) =
    ap (λ (u : List ℕ). u ++ rest) w
    ∙ ap (λ (u : List ℕ). 60 ∷ 47 ∷ u) (append_assoc y (s ++ 62 ∷ []) rest ∙ ap (λ (u : List ℕ). y ++ u) (append_assoc s (62 ∷ []) rest)) in
    let k : space_len R ≡ length s = run_all is_space s (62 ∷ rest) p refl in
    let after : drop n.size (y ++ R) ≡ R = drop_at y R n.size (name_size y n h) in
    let F : ℕ → List ℕ → Option End = λ j u. cond (begins_with 62 u) (Some (record { name = n; size = 2 + n.size + j + 1 })) None in
    let size : 2 + n.size + length s + 1 ≡ length x =
    omega (arith, ap length w, length-append y (s ++ 62 ∷ []), length-append s (62 ∷ []), name_size y n h) in
    ap end_tag all ∙ ap (option_and_then (λ (m : Named). from_end_name m (drop m.size (y ++ R)))) (name_reads y R n h (spaces_end_name s (62 ∷ rest) p (refl, refl)))
    ∙ ap (from_end_name n) after ∙ ap (λ (j : ℕ). F j (drop j R)) k ∙ ap (F (length s)) (drop_at s (62 ∷ rest) (length s) refl)
    ∙ ap (λ (j : ℕ). Some (record { name = n; size = j })) size

abbrev FoundEnd : List ℕ → End → Type 0
FoundEnd x t = (y rest : List ℕ) × (x ≡ y ++ rest) × (t.size ≡ length y) × IsEndTag y t.name

pub only_end_tags_are_read : OnlyEndTagsAreRead
unfolding end_tag
only_end_tags_are_read x t h = elim (cases_Bool (starts_with nat_eq x (codes "</"))) [
  | inl b ↦
      by_name x t (starts_from (codes "</") x b) (name (drop 2 x)) refl (sym (cond-true (starts_with nat_eq x (codes "</")) _ None b) ∙ h)
  | inr f ↦
      let e = sym (cond-false (starts_with nat_eq x (codes "</")) (option_and_then (λ n. from_end_name n (drop n.size (drop 2 x))) (name (drop 2 x))) None f) ∙ h in
      absurd (cc)
]
  where
    by_name : (x : List ℕ) (t : End) → x ≡ 60 ∷ 47 ∷ drop 2 x → (q : Option Named) → name (drop 2 x) ≡ q
        → option_and_then (λ (n : Named). from_end_name n (drop n.size (drop 2 x))) q ≡ Some t → FoundEnd x t
    by_name x t w None f h = absurd (cc)
    by_name x t w (Some n) f h =
        let X = drop 2 x in
        let Y = drop n.size X in
        let rn = name_found X n f in
        let s = run_is is_space Y in
        let k = space_len Y in
        let Z = drop k Y in elim (cases_Bool (begins_with 62 Z)) [
          | inl b ↦
              let v : End = record { name = n; size = 2 + n.size + k + 1 } in
              let same = some_same v t (sym (cond-true (begins_with 62 Z) (Some v) None b) ∙ h) in
              let p = take n.size X in
              let a = take k Y in
              let rest = drop 1 Z in
              let front = 60 ∷ 47 ∷ (p ++ (a ++ 62 ∷ [])) in
              let whole : x ≡ front ++ rest =
              w ∙ ap (λ (u : List ℕ). 60 ∷ 47 ∷ u) (sym (take-append-drop n.size X) ∙ ap (λ (u : List ℕ). p ++ u) (sym (take-append-drop k Y)
              ∙ ap (λ (u : List ℕ). a ++ u) (begins_from 62 Z b) ∙ sym (append_assoc a (62 ∷ []) rest))
              ∙ sym (append_assoc p (a ++ 62 ∷ []) rest)) in
              let size : 2 + n.size + k + 1 ≡ length front =
              omega (arith, length-append p (a ++ 62 ∷ []), length-append a (62 ∷ []), length-take-le n.size X rn.inside, length-take-le k Y s.inside) in
              let found : FoundEnd x v = (front, rest, whole, size, (p, a, rn.is, s.passes, refl)) in
              subst (FoundEnd x) same found
          | inr g ↦ let e = sym (cond-false (begins_with 62 Z) (Some (record { name = n; size = 2 + n.size + k + 1 })) None g) ∙ h in absurd (cc)
        ]
