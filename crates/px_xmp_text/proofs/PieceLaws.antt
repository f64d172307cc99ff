-- Texts taken piece by piece.
use Rattle.std.proofs.Common.{◌≡◌, ◌≤◌, ◌<◌, ◌+◌, ◌*◌, ◌==◌, ◌&&◌, ◌||◌, not, nat_le, ℕ, zero, suc, Bool, true, false, cond, inl, inr, take, List, [], ◌∷◌, ◌++◌, length, drop}
use Rattle.std.proofs.Common.{Option, Some, None, IfSome, option_map, option_and_then, refl, sym, ap, subst, ◌∙◌, arith, append_assoc, length-drop}
use Rattle.std.proofs.lemmas.Grind.{flat_map-append}
use Rattle.std.proofs.Common.{leb-true}
use Rattle.std.proofs.lemmas.Bool.{cases_Bool, cond-true, cond-false, cond_both, ne_eqb, and_left, or_parts}
use Rattle.px_xmp_text.specs.Texts.{piece, text_in, normal_text, normal_octet, has_references, begins_with_feed, or_at, fault_in}
use Rattle.px_xmp_text.specs.calls.Appending.{is_plain, plain_len, AppendsPart}
use Rattle.std.proofs.lemmas.Str.{length-encode, len_utf8_bounds}
use Rattle.std.specs.Char.{encode_utf8}
use Rattle.std.specs.List.{list_any}
use Rattle.px_xmp_text.specs.References.{Counted, reference}
use Rattle.px_xmp_text.specs.Laws.{FaultOrText}
use Rattle.px_xmp_text.specs.declared.pieces.TextKind.{TextKind}
use Rattle.px_xmp_text.proofs.GrammarLaws.{reference_size}
use Rattle.px_xmp_text.proofs.TextLaws.{normal_bound}

-- what is left begins with a piece, and the rest stands for the rest of the text
pub record MemoryCounts (k : TextKind) (x t : List ℕ) : Type 0 where
  pub piece_of : List ℕ × ℕ
  pub later : List ℕ
  pub fuel : ℕ
  pub is : piece k x ≡ Some piece_of
  pub rest : text_in fuel k (drop piece_of.1 x) ≡ Some later
  pub joined : t ≡ piece_of.0 ++ later

from_piece : (n : ℕ) (k : TextKind) (x t : List ℕ) (p : Option (List ℕ × ℕ)) → piece k x ≡ p
    → option_and_then (λ (p : List ℕ × ℕ). option_map (λ (s : List ℕ). p.0 ++ s) (text_in n k (drop p.1 x))) p ≡ Some t → MemoryCounts k x t
from_piece n k x t None e h = absurd (cc)
from_piece n k x t (Some p) e h = from_rest n k x t p (text_in n k (drop p.1 x)) e refl h
  where
    from_rest : (n : ℕ) (k : TextKind) (x t : List ℕ) (p : List ℕ × ℕ) (r : Option (List ℕ)) → piece k x ≡ Some p
        → text_in n k (drop p.1 x) ≡ r → option_map (λ (s : List ℕ). p.0 ++ s) r ≡ Some t → MemoryCounts k x t
    from_rest n k x t p None e f h = absurd (cc)
    from_rest n k x t p (Some s) e f h =
        let same : t ≡ p.0 ++ s = cc in
        record { piece_of = p; later = s; fuel = n; is = e; rest = f; joined = same }

pub text_taken : (n : ℕ) (k : TextKind) (x t : List ℕ) → 1 ≤ length x → text_in n k x ≡ Some t → MemoryCounts k x t
unfolding text_in
text_taken n k [] t l h = absurd (omega arith)
text_taken zero k (o ∷ x) t l h = absurd (cc)
text_taken (suc n) k (o ∷ x) t l h = from_piece n k (o ∷ x) t (piece k (o ∷ x)) refl h

pub none_left : (n : ℕ) (k : TextKind) (x t : List ℕ) → length x ≤ 0 → text_in n k x ≡ Some t → t ≡ []
unfolding text_in
none_left n k [] t l h = cc
none_left n k (o ∷ x) t l h = absurd (omega arith)

some_same : {A : Type 0} (p q : A) → Some p ≡ Some q → p ≡ q
some_same p q h = cc

pub to_some : {A : Type 0} (P : A → Type 0) (q : Option A) (p : A) → q ≡ Some p → P p → IfSome q P
to_some P None p e h = absurd (cc)
to_some P (Some r) p e h = let same : p ≡ r = cc in subst P same h

pub if_some : {A : Type 0} (P : A → Type 0) (q : Option A) (p : A) → q ≡ Some p → IfSome q P → P p
if_some P None p e h = absurd (cc)
if_some P (Some r) p e h = let same : r ≡ p = cc in subst P same h

-- one more piece is appended
pub push_more : (old new p later rest all : List ℕ) → new ≡ old ++ normal_text p → rest ≡ p ++ later → old ++ normal_text rest ≡ all
    → new ++ normal_text later ≡ all
push_more old new p later rest all e f g =
    ap (λ (z : List ℕ). z ++ normal_text later) e ∙ append_assoc old (normal_text p) (normal_text later)
    ∙ ap (λ (z : List ℕ). old ++ z) (sym (flat_map-append normal_octet p later)) ∙ ap (λ (z : List ℕ). old ++ normal_text z) (sym f) ∙ g

-- ---- plain octets

plain_if : (a r b c : Bool) (p q s : Option (List ℕ × ℕ)) (v : Option (List ℕ × ℕ)) → a ≡ false → b ≡ false → c ≡ false
    → cond (a && r) p (cond b q (cond c s v)) ≡ v
plain_if true r b c p q s v h k l = absurd (cc)
plain_if false r true c p q s v h k l = absurd (cc)
plain_if false r false true p q s v h k l = absurd (cc)
plain_if false r false false p q s v h k l = refl

-- what the test says
pub record IsPlain (o : ℕ) : Type 0 where
  pub high : 32 ≤ o
  pub and : (o == 38) ≡ false
  pub less : (o == 60) ≡ false
  pub more : (o == 62) ≡ false

pub plain_from : (o : ℕ) → is_plain o ≡ true → IsPlain o
plain_from o h = parts (nat_le 32 o) (o == 38) (o == 60) (o == 62) refl refl refl refl h
  where
    parts : (a b c d : Bool) → nat_le 32 o ≡ a → (o == 38) ≡ b → (o == 60) ≡ c → (o == 62) ≡ d
        → (a && not b && not c && not d) ≡ true → IsPlain o
    parts false b c d e f g i h = absurd (cc)
    parts true true c d e f g i h = absurd (cc)
    parts true false true d e f g i h = absurd (cc)
    parts true false false true e f g i h = absurd (cc)
    parts true false false false e f g i h = record { high = leb-true 32 o e; and = f; less = g; more = i }

other : (o n : ℕ) → n < 32 → 32 ≤ o → (o == n) ≡ false
other o n h k = ne_eqb o n (λ e. omega arith)

or_false : (a b : Bool) → a ≡ false → b ≡ false → (a || b) ≡ false
or_false true b h k = absurd (cc)
or_false false b h k = k

pub plain_piece : (k : TextKind) (o : ℕ) (x : List ℕ) → IsPlain o → piece k (o ∷ x) ≡ Some (o ∷ [], 1)
unfolding piece
plain_piece k o x p =
    plain_if (o == 38) (has_references k) (o == 13) ((o == 9) || (o == 10)) _ _ _ _ p.and (other o 13 (omega arith) p.high)
    (or_false (o == 9) (o == 10) (other o 9 (omega arith) p.high) (other o 10 (omega arith) p.high))

octet_if : (a b c d : Bool) (x y z w v : List ℕ) → a ≡ false → b ≡ false → c ≡ false → d ≡ false
    → cond a x (cond b y (cond c z (cond d w v))) ≡ v
octet_if true b c d x y z w v e f g h = absurd (cc)
octet_if false true c d x y z w v e f g h = absurd (cc)
octet_if false false true d x y z w v e f g h = absurd (cc)
octet_if false false false true x y z w v e f g h = absurd (cc)
octet_if false false false false x y z w v e f g h = refl

plain_octet : (o : ℕ) → IsPlain o → normal_octet o ≡ o ∷ []
plain_octet o p = octet_if (o == 38) (o == 60) (o == 62) (o == 13) _ _ _ _ _ p.and p.less p.more (other o 13 (omega arith) p.high)

same_plain : (x : List ℕ) → normal_text (take (plain_len x) x) ≡ take (plain_len x) x
same_plain [] = refl
same_plain (o ∷ x) = elim (cases_Bool (is_plain o)) [
  | inl a ↦
      ap (λ (n : ℕ). normal_text (take n (o ∷ x))) (cond-true (is_plain o) (suc (plain_len x)) 0 a)
      ∙ ap (λ (z : List ℕ). z ++ normal_text (take (plain_len x) x)) (plain_octet o (plain_from o a)) ∙ ap (λ (z : List ℕ). o ∷ z) (same_plain x)
      ∙ ap (λ (n : ℕ). take n (o ∷ x)) (sym (cond-true (is_plain o) (suc (plain_len x)) 0 a))
  | inr b ↦
      ap (λ (n : ℕ). normal_text (take n (o ∷ x))) (cond-false (is_plain o) (suc (plain_len x)) 0 b)
      ∙ ap (λ (n : ℕ). take n (o ∷ x)) (sym (cond-false (is_plain o) (suc (plain_len x)) 0 b))
]

-- after n octets that stand for themselves
record After (k : TextKind) (x t : List ℕ) (n : ℕ) : Type 0 where
  later : List ℕ
  fuel : ℕ
  rest : text_in fuel k (drop n x) ≡ Some later
  joined : t ≡ take n x ++ later

after_plain : (m : ℕ) (k : TextKind) (x t : List ℕ) → text_in m k x ≡ Some t → After k x t (plain_len x)
after_plain m k [] t h = record { later = t; fuel = m; rest = h; joined = refl }
after_plain m k (o ∷ x) t h = elim (cases_Bool (is_plain o)) [
  | inl a ↦
      let w = text_taken m k (o ∷ x) t (omega arith) h in
      let e : w.piece_of ≡ (o ∷ [], 1) = some_same _ _ (sym w.is ∙ plain_piece k o x (plain_from o a)) in
      let r = after_plain w.fuel k x w.later
      (ap (λ (p : List ℕ × ℕ). text_in w.fuel k (drop p.1 (o ∷ x))) (sym e) ∙ w.rest) in
      let P : ℕ → Type 0 = λ j. After k (o ∷ x) t j in
      subst P (sym (cond-true (is_plain o) (suc (plain_len x)) 0 a)) (record {
        later = r.later;
        fuel = r.fuel;
        rest = r.rest;
        joined = w.joined ∙ ap (λ (p : List ℕ × ℕ). p.0 ++ w.later) e ∙ ap (λ (z : List ℕ). o ∷ z) r.joined;
      })
  | inr b ↦
      let P : ℕ → Type 0 = λ j. After k (o ∷ x) t j in
      subst P (sym (cond-false (is_plain o) (suc (plain_len x)) 0 b)) (record { later = t; fuel = m; rest = h; joined = refl })
]

-- plain octets at the start stand for themselves
pub plain_taken : (m : ℕ) (k : TextKind) (x t old : List ℕ) → text_in m k x ≡ Some t
    → AppendsPart k x t (plain_len x) old (old ++ take (plain_len x) x)
plain_taken m k x t old h =
    let r = after_plain m k x t h in
    record {
      part = take (plain_len x) x;
      later = r.later;
      fuel = r.fuel;
      rest = r.rest;
      joined = r.joined;
      appended = ap (λ (z : List ℕ). old ++ z) (sym (same_plain x));
    }

-- ---- lengths

two : (b : Bool) (n : ℕ) → (1 ≤ cond b 2 1) × (cond b 2 1 ≤ suc (suc n))
two true n = (omega arith, omega arith)
two false n = (omega arith, omega arith)

line_end_size : (x : List ℕ) → (1 ≤ cond (begins_with_feed x) 2 1) × (cond (begins_with_feed x) 2 1 ≤ suc (length x))
line_end_size [] = (omega arith, omega arith)
line_end_size (o ∷ x) = two (o == 10) (length x)

-- a piece means no more octets than it has, and is inside the octets
pub piece_size : (k : TextKind) (x : List ℕ) (p : List ℕ × ℕ) → piece k x ≡ Some p → (length p.0 ≤ p.1) × (p.1 ≤ length x)
unfolding piece
piece_size k [] p h = absurd (cc)
piece_size k (o ∷ x) p h =
    let P : List ℕ × ℕ → Type 0 = λ q. (length q.0 ≤ q.1) × (q.1 ≤ suc (length x)) in
    let ends = line_end_size x in
    elim (cases_Bool ((o == 38) && has_references k)) [
      | inl t ↦ by_reference (o ∷ x) p (reference (o ∷ x)) refl (sym (cond-true ((o == 38) && has_references k) _ _ t) ∙ h)
      | inr f ↦
          let h1 = sym (cond-false ((o == 38) && has_references k) _ _ f) ∙ h in elim (cases_Bool (o == 13)) [
            | inl t ↦
                let e = some_same _ p (sym (cond-true (o == 13) _ _ t) ∙ h1) in subst P e ends
            | inr f ↦
                let h2 = sym (cond-false (o == 13) _ _ f) ∙ h1 in elim (cases_Bool ((o == 9) || (o == 10))) [
                  | inl t ↦
                      let e = some_same _ p (sym (cond-true ((o == 9) || (o == 10)) _ _ t) ∙ h2) in
                      subst P e (omega arith, omega arith)
                  | inr f ↦
                      let e = some_same _ p (sym (cond-false ((o == 9) || (o == 10)) _ _ f) ∙ h2) in
                      subst P e (omega arith, omega arith)
                ]
          ]
    ]
  where
    by_reference : (y : List ℕ) (p : List ℕ × ℕ) (q : Option Counted) → reference y ≡ q
        → option_map (λ r. (encode_utf8 r.0, r.1)) q ≡ Some p → (length p.0 ≤ p.1) × (p.1 ≤ length y)
    by_reference y p None e h = absurd (cc)
    by_reference y p (Some r) e h =
        let s = reference_size y r.0 r.1 e in
        let same = some_same (encode_utf8 r.0, r.1) p h in
        let P : List ℕ × ℕ → Type 0 = λ q. (length q.0 ≤ q.1) × (q.1 ≤ length y) in
        subst P same (omega (arith, s.0, length-encode r.0, (len_utf8_bounds r.0).1), s.1)

-- its normal form is at most five times as long as it
pub piece_room : (k : TextKind) (x : List ℕ) (p : List ℕ × ℕ) → piece k x ≡ Some p
    → (length (normal_text p.0) ≤ 5 * p.1) × (p.1 ≤ length x)
piece_room k x p h =
    let s = piece_size k x p h in
    let b = normal_bound p.0 in (omega (arith, s.0, b.1), s.1)

-- ---- faults

or_more : (at : ℕ) (F : ℕ → Option ℕ) (p : Option (List ℕ × ℕ)) (n : ℕ) → option_map (λ (q : List ℕ × ℕ). q.1) p ≡ Some n
    → or_at at (λ q. F q.1) p ≡ F n
or_more at F None n h = absurd (cc)
or_more at F (Some q) n h = let e : q.1 ≡ n = cc in ap F e

or_none : (at : ℕ) (F : ℕ → Option ℕ) (p : Option (List ℕ × ℕ)) → option_map (λ (q : List ℕ × ℕ). q.1) p ≡ None
    → or_at at (λ q. F q.1) p ≡ Some at
or_none at F None h = refl
or_none at F (Some q) h = absurd (cc)

pub fault_on : (m at n : ℕ) (k : TextKind) (x : List ℕ) → 1 ≤ length x → length x ≤ m → 1 ≤ n
    → option_map (λ (q : List ℕ × ℕ). q.1) (piece k x) ≡ Some n
    → (j : ℕ) × (length x ≤ j + n) × (fault_in m at k x ≡ fault_in j (at + n) k (drop n x))
unfolding fault_in
fault_on m at n k [] l h i e = absurd (omega arith)
fault_on zero at n k (o ∷ x) l h i e = absurd (omega arith)
fault_on (suc m) at n k (o ∷ x) l h i e =
    (m, omega arith, or_more at (λ (j : ℕ). fault_in m (at + j) k (drop j (o ∷ x))) (piece k (o ∷ x)) n e)

pub fault_here : (m at : ℕ) (k : TextKind) (x : List ℕ) → 1 ≤ length x → option_map (λ (q : List ℕ × ℕ). q.1) (piece k x) ≡ None
    → fault_in m at k x ≡ Some at
unfolding fault_in
fault_here m at k [] l e = absurd (omega arith)
fault_here zero at k (o ∷ x) l e = refl
fault_here (suc m) at k (o ∷ x) l e = or_none at (λ (j : ℕ). fault_in m (at + j) k (drop j (o ∷ x))) (piece k (o ∷ x)) e

pub fault_none : (m at : ℕ) (k : TextKind) (x : List ℕ) → length x ≤ 0 → fault_in m at k x ≡ None
unfolding fault_in
fault_none m at k [] l = refl
fault_none m at k (o ∷ x) l = absurd (omega arith)

-- a piece that begins with another octet than `&` means something
some_piece : (k : TextKind) (o : ℕ) (x : List ℕ) → (o == 38) ≡ false
    → (n : ℕ) × (1 ≤ n) × (option_map (λ (q : List ℕ × ℕ). q.1) (piece k (o ∷ x)) ≡ Some n)
unfolding piece
some_piece k o x h =
    let Q : Option (List ℕ × ℕ) → Type 0 = λ p. (n : ℕ) × (1 ≤ n) × (option_map (λ (q : List ℕ × ℕ). q.1) p ≡ Some n) in
    let ends = line_end_size x in
    let feed = cond (begins_with_feed x) 2 1 in
    subst Q (sym (cond-false ((o == 38) && has_references k) _ _ (and_left (o == 38) (has_references k) h))) (cond_both (o == 13) _ _ Q
    (λ t. (feed, ends.0, refl)) (λ f. cond_both ((o == 9) || (o == 10)) _ _ Q (λ t. (1, omega arith, refl)) (λ f. (1, omega arith, refl))))

none_later : (n : ℕ) (x : List ℕ) → list_any (λ o. o == 38) x ≡ false → list_any (λ o. o == 38) (drop n x) ≡ false
none_later zero x h = h
none_later (suc n) [] h = refl
none_later (suc n) (o ∷ x) h = none_later n x (or_parts (o == 38) (list_any (λ o. o == 38) x) h).1

-- octets without `&` have no fault
pub no_fault : (m at : ℕ) (k : TextKind) (x : List ℕ) → length x ≤ m → list_any (λ o. o == 38) x ≡ false → fault_in m at k x ≡ None
unfolding fault_in
no_fault m at k [] l h = refl
no_fault zero at k (o ∷ x) l h = absurd (omega arith)
no_fault (suc m) at k (o ∷ x) l h =
    let (n, low, e) = some_piece k o x (or_parts (o == 38) (list_any (λ o. o == 38) x) h).0 in
    or_more at (λ (j : ℕ). fault_in m (at + j) k (drop j (o ∷ x))) (piece k (o ∷ x)) n e
    ∙ no_fault m (at + n) k (drop n (o ∷ x)) (omega (arith, low, length-drop n (o ∷ x))) (none_later n (o ∷ x) h)

abbrev HasText : ℕ → TextKind → List ℕ → Type 0
HasText n k x = (t : List ℕ) × (text_in n k x ≡ Some t)

text_from : (n at : ℕ) (k : TextKind) (x : List ℕ) → fault_in n at k x ≡ None → HasText n k x
unfolding fault_in text_in
text_from n at k [] h = ([], refl)
text_from zero at k (o ∷ x) h = absurd (cc)
text_from (suc n) at k (o ∷ x) h = by_piece n at k (o ∷ x) (piece k (o ∷ x)) (λ j y e. text_from n j k y e) h
  where
    by_piece : (n at : ℕ) (k : TextKind) (y : List ℕ) (p : Option (List ℕ × ℕ)) → ((j : ℕ) (y : List ℕ) → fault_in n j k y ≡ None → HasText n k y)
        → or_at at (λ q. fault_in n (at + q.1) k (drop q.1 y)) p ≡ None
        → (t : List ℕ) × (option_and_then (λ (q : List ℕ × ℕ). option_map (λ (s : List ℕ). q.0 ++ s) (text_in n k (drop q.1 y))) p ≡ Some t)
    by_piece n at k y None ih h = absurd (cc)
    by_piece n at k y (Some q) ih h =
        let (t, e) = ih (at + q.1) (drop q.1 y) h in (q.0 ++ t, ap (option_map (λ (s : List ℕ). q.0 ++ s)) e)

none_from : (n at : ℕ) (k : TextKind) (x : List ℕ) → HasText n k x → fault_in n at k x ≡ None
unfolding fault_in text_in
none_from n at k [] h = refl
none_from zero at k (o ∷ x) h = let e = h.1 in absurd (cc)
none_from (suc n) at k (o ∷ x) h = by_piece n at k (o ∷ x) (piece k (o ∷ x)) (λ j y e. none_from n j k y e) h.0 h.1
  where
    by_rest : (n at : ℕ) (k : TextKind) (y z t : List ℕ) (r : Option (List ℕ)) → ((j : ℕ) (y : List ℕ) → HasText n k y → fault_in n j k y ≡ None)
        → text_in n k y ≡ r → option_map (λ (s : List ℕ). z ++ s) r ≡ Some t → fault_in n at k y ≡ None
    by_rest n at k y z t None ih e h = absurd (cc)
    by_rest n at k y z t (Some s) ih e h = ih at y (s, e)

    by_piece : (n at : ℕ) (k : TextKind) (y : List ℕ) (p : Option (List ℕ × ℕ)) → ((j : ℕ) (y : List ℕ) → HasText n k y → fault_in n j k y ≡ None)
        → (t : List ℕ)
        → option_and_then (λ (q : List ℕ × ℕ). option_map (λ (s : List ℕ). q.0 ++ s) (text_in n k (drop q.1 y))) p ≡ Some t
        → or_at at (λ q. fault_in n (at + q.1) k (drop q.1 y)) p ≡ None
    by_piece n at k y None ih t h = absurd (cc)
    by_piece n at k y (Some q) ih t h = by_rest n (at + q.1) k (drop q.1 y) q.0 t (text_in n k (drop q.1 y)) ih refl h

pub fault_or_text : FaultOrText
fault_or_text k x = (text_from (length x) 0 k x, none_from (length x) 0 k x)
