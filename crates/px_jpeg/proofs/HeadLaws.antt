-- The laws of heads and faults.
use Rattle.std.proofs.Common.{◌≡◌, ◌≢◌, ◌≤◌, ◌<◌, ◌+◌, ◌==◌, ◌⊎◌, ℕ, true, false, ◌&&◌, nat_le, inl, inr, Option, Some, None, option_map}
use Rattle.std.proofs.Common.{List, [], ◌∷◌, ◌++◌, length, drop, slice_index, refl, sym, ap, ◌∙◌}
use Rattle.std.proofs.Common.{subst, arith, le-leb, eq-eqb, eqb-true, length-drop}
use Rattle.std.proofs.Common.{lt-ltb, if◌then◌else◌, not, nat_lt, length-append}
use Rattle.std.proofs.lemmas.Bool.{cond-true, cond-false, cases_Bool, and_from, and_parts, false_from_ne_true, both_ways, lt-leb, le-ltb}
use Rattle.std.proofs.lemmas.Bool.{and_left, and_right, not_from_true, not_from_false, ne_eqb}
use Rattle.px_jpeg.specs.declared.parts.Part.{Part}
use Rattle.px_jpeg.specs.declared.faults.HeadCause.{HeadCause}
use Rattle.px_jpeg.specs.declared.faults.HeadCause.TheVariants.{NoStart, NoMarker, LengthForm, HeadCut}
use Rattle.px_jpeg.specs.Head.{AreFill, stands_alone, Encodes, HasHead}
use Rattle.px_jpeg.specs.Fault.{Opens, pair, FaultAt, SplitAt, HasHeadFault}
use Rattle.px_jpeg.specs.Reading.{marks, after, code_of, count, is_part, size, parts_left, starts, head_of}
use Rattle.px_jpeg.specs.Laws.{Computes, OneHead, FaultsDecide}
use Rattle.px_jpeg.proofs.Marks.{marks_other, fill_all}
use Rattle.px_jpeg.proofs.OnePart.{is_part_is, opened_marks, opened_after, IsClaimed, part_holds}
use Rattle.px_jpeg.proofs.ManyParts.{first_reads, first_left, left_none, encoded_left, encoded_all, left_heads}

-- ---- the start mark

pub start_holds : (x : List ℕ) → starts (255 ∷ 216 ∷ x) ≡ true
start_holds x =
    and_from _ (216 == 216) (and_from (nat_le 2 (length (255 ∷ 216 ∷ x))) (255 == 255)
    (le-leb 2 (length (255 ∷ 216 ∷ x)) (omega arith)) refl) refl

pub start_off : (b : List ℕ) → starts b ≡ true → b ≡ 255 ∷ 216 ∷ drop 2 b
start_off [] h = let a = and_parts (nat_le 2 (length {A = ℕ} []) && (slice_index [] 0 == 255)) (slice_index [] 1 == 216) h in
    let c : false ≡ true = a.1 in absurd (cc)
start_off (x ∷ []) h = let a = and_parts (nat_le 2 (length (x ∷ [])) && (x == 255)) (slice_index (x ∷ []) 1 == 216) h in
    let c : false ≡ true = a.1 in absurd (cc)
start_off (x ∷ y ∷ b) h =
    let a = and_parts (nat_le 2 (length (x ∷ y ∷ b)) && (x == 255)) (y == 216) h in
    let c = and_parts (nat_le 2 (length (x ∷ y ∷ b))) (x == 255) a.0 in
    ap (λ (n : ℕ). n ∷ y ∷ b) (eqb-true x 255 c.1) ∙ ap (λ (n : ℕ). 255 ∷ n ∷ b) (eqb-true y 216 a.1)

pub head_after : (x : List ℕ) → head_of (255 ∷ 216 ∷ x) ≡ parts_left 2 x
unfolding head_of
head_after x = cond-true (starts (255 ∷ 216 ∷ x)) _ _ (start_holds x)

-- ---- computed

pub meaning_is_computed : (b : List ℕ) (qs : List Part) → HasHead b qs → head_of b ≡ Some qs
meaning_is_computed b qs s = ap head_of s.whole ∙ head_after (s.encoded ++ s.rest) ∙ encoded_all qs 2 s.encoded s.rest s.encodes s.ends

pub computed_is_meaning : (b : List ℕ) (qs : List Part) → head_of b ≡ Some qs → HasHead b qs
unfolding head_of
computed_is_meaning b qs e = elim (cases_Bool (starts b)) [
  | inl t ↦
      let h = left_heads 2 (drop 2 b) qs (sym (cond-true (starts b) (parts_left 2 (drop 2 b)) None t) ∙ e) in record {
        encoded = h.encoded;
        rest = h.rest;
        whole = start_off b t ∙ ap (λ (y : List ℕ). 255 ∷ 216 ∷ y) h.whole;
        encodes = h.encodes;
        ends = h.ends;
      }
  | inr f ↦ let clash : ◌≡◌ {A = Option (List Part)} None (Some qs) = sym (cond-false (starts b) _ _ f) ∙ e in absurd (cc)
]

pub head_computes : Computes
head_computes b qs = (meaning_is_computed b qs, computed_is_meaning b qs)

pub one_head : OneHead
one_head b ps qs s t = let e : ◌≡◌ {A = Option (List Part)} (Some ps) (Some qs) = sym (meaning_is_computed b ps s) ∙ meaning_is_computed b qs t in cc

-- ---- faults

holds_of : (x : List ℕ) → is_part x ≡ true → IsClaimed (marks x) (after x)
holds_of x h = part_holds (marks x) (after x) (is_part_is x (after x) (marks x) refl refl ∙ h)

-- behind the bytes FF and a code
pub after_open : (x fill : List ℕ) (c : ℕ) (more : List ℕ) → AreFill fill → c ≢ 255 → x ≡ fill ++ 255 ∷ c ∷ more → after x ≡ c ∷ more
after_open x fill c more f o w =
    ap after w ∙ ap (λ (n : ℕ). drop n (fill ++ 255 ∷ c ∷ more)) (opened_marks fill c more f o) ∙ opened_after fill c more f o

opens_no_part : (x more : List ℕ) (o : Opens x more) → (length more < 2) ⊎ ((pair more < 2) ⊎ (length more < pair more))
    → is_part x ≡ true → ⊥
opens_no_part x more o k h =
    let t = holds_of x h in
    let e = after_open x o.fill o.code more o.filled o.marker.1 o.whole in
    let w = subst (λ (y : List ℕ). (stands_alone (code_of y) ≡ true) ⊎
    ((3 ≤ length y) × (2 ≤ count y) × (1 + count y ≤ length y))) e t.whole in
    elim w [
      | inl s ↦ both_ways (stands_alone o.code) o.segment s
      | inr v ↦ elim k [
        | inl a ↦ omega (arith, v.0)
        | inr l ↦ elim l [ inl a ↦ omega (arith, v.1) | inr a ↦ omega (arith, v.2) ]
      ]
    ]

fault_means : (c : HeadCause) (x : List ℕ) → FaultAt c x → is_part x ≡ true → ⊥
fault_means NoStart x f h = f
fault_means NoMarker x (inl (o, more, e, k)) h =
    let t = holds_of x h in
    let m = ap marks e ∙ marks_other o more k in
    let s = t.some in omega arith
fault_means NoMarker x (inr (fill, more, f, e)) h =
    let t = holds_of x h in t.nonzero (ap code_of (after_open x fill 0 more f (λ q. omega arith) e))
fault_means LengthForm x (more, o, l, p) h = opens_no_part x more o (inr (inl p)) h
fault_means HeadCut x (inl f) h =
    let t = holds_of x h in let s = t.there in let l = fill_all x f in omega (arith, length-drop (marks x) x)
fault_means HeadCut x (inr (more, o, inl l)) h = opens_no_part x more o (inl l) h
fault_means HeadCut x (inr (more, o, inr l)) h = opens_no_part x more o (inr (inr l.1)) h

pub fault_no_part : (c : HeadCause) (x : List ℕ) → FaultAt c x → is_part x ≡ false
fault_no_part c x f = false_from_ne_true (is_part x) (fault_means c x f)

pub after_none : (b : List ℕ) (qs : List Part) (rest : List ℕ) (p : ℕ) → SplitAt b qs rest p → is_part rest ≡ false → head_of b ≡ None
after_none b qs rest p r f =
    ap head_of r.whole ∙ head_after (r.front ++ rest) ∙ encoded_left qs 2 r.front rest r.encodes r.before
    ∙ ap (option_map (λ (rs : List Part). qs ++ rs)) (left_none (2 + length r.front) rest f)

no_head : (b : List ℕ) (qs : List Part) → head_of b ≡ None → HasHead b qs → ⊥
no_head b qs e s = let clash : ◌≡◌ {A = Option (List Part)} None (Some qs) = sym e ∙ meaning_is_computed b qs s in cc

pub fault_excludes : (b : List ℕ) (c : HeadCause) (p : ℕ) (qs : List Part) → HasHeadFault b c p → HasHead b qs → ⊥
fault_excludes b NoStart p qs f s = f.1 (s.encoded ++ s.rest) s.whole
fault_excludes b NoMarker p qs (ps, rest, r, f) s = no_head b qs (after_none b ps rest p r (fault_no_part NoMarker rest f)) s
fault_excludes b LengthForm p qs (ps, rest, r, f) s = no_head b qs (after_none b ps rest p r (fault_no_part LengthForm rest f)) s
fault_excludes b HeadCut p qs (ps, rest, r, f) s = no_head b qs (after_none b ps rest p r (fault_no_part HeadCut rest f)) s

-- ---- one fault

aligned : (ps qs : List Part) (p : ℕ) (x y rest more : List ℕ) → Encodes p ps x → Encodes p qs y → is_part rest ≡ false → is_part more ≡ false
    → x ++ rest ≡ y ++ more → (length x ≡ length y) × (rest ≡ more)
aligned [] [] p x y rest more s t f g e =
    (ap length s ∙ sym (ap length t), sym (ap (λ (z : List ℕ). z ++ rest) s) ∙ e ∙ ap (λ (z : List ℕ). z ++ more) t)
aligned [] (q ∷ qs) p x y rest more s (a, b, w, i, t) f g e =
    let r = first_reads p q y a b more w i in
    absurd (both_ways (is_part rest) f (ap is_part (sym (ap (λ (z : List ℕ). z ++ rest) s) ∙ e) ∙ r.there))
aligned (q ∷ ps) [] p x y rest more (a, b, w, i, s) t f g e =
    let r = first_reads p q x a b rest w i in
    absurd (both_ways (is_part more) g (ap is_part (sym (e ∙ ap (λ (z : List ℕ). z ++ more) t)) ∙ r.there))
aligned (q ∷ ps) (r ∷ qs) p x y rest more (a, b, w, i, s) (c, d, v, j, t) f g e =
    let m = first_reads p q x a b rest w i in
    let n = first_reads p r y c d more v j in
    let l : length c ≡ length a = sym n.sized ∙ ap size (sym e) ∙ m.sized in
    let k : b ++ rest ≡ d ++ more =
    sym (first_left p q x a b rest w i) ∙ ap (λ (z : ℕ). drop z (x ++ rest)) (sym l) ∙ ap (drop (length c)) e
    ∙ first_left p r y c d more v j in
    let h = aligned ps qs (p + length a) b d rest more s (subst (λ (z : ℕ). Encodes (p + z) qs d) l t) f g k in
    (ap length w ∙ length-append a b ∙ omega (arith, h.0) ∙ sym (ap length v ∙ length-append c d), h.1)

-- the cause, computed from the number of bytes FF and what follows them
abbrev cause_at : ℕ → List ℕ → HeadCause
cause_at n y =
    if nat_le 1 (length y)
    then (if nat_le 1 n && not (code_of y == 0) then (if nat_le 3 (length y) && nat_lt (count y) 2 then LengthForm else HeadCut)
    else NoMarker)
    else HeadCut

cause_nothing : (n : ℕ) (y : List ℕ) → length y ≡ 0 → cause_at n y ≡ HeadCut
cause_nothing n y h = cond-false (nat_le 1 (length y)) _ _ (lt-leb 1 (length y) (omega arith))

cause_first : (n : ℕ) (y : List ℕ) → 1 ≤ length y → (n ≡ 0) ⊎ (code_of y ≡ 0) → cause_at n y ≡ NoMarker
cause_first n y l h =
    let e : nat_le 1 n && not (code_of y == 0) ≡ false = elim h [
      | inl z ↦ and_left (nat_le 1 n) _ (lt-leb 1 n (omega arith))
      | inr z ↦ and_right (nat_le 1 n) _ (not_from_true (code_of y == 0) (eq-eqb (code_of y) 0 z))
    ] in
    cond-true (nat_le 1 (length y)) _ _ (le-leb 1 (length y) l) ∙ cond-false _ _ _ e

cause_later : (n : ℕ) (y : List ℕ) → 1 ≤ length y → 1 ≤ n → code_of y ≢ 0
    → cause_at n y ≡ (if nat_le 3 (length y) && nat_lt (count y) 2 then LengthForm else HeadCut)
cause_later n y l k c =
    cond-true (nat_le 1 (length y)) _ _ (le-leb 1 (length y) l)
    ∙ cond-true _ _ _ (and_from (nat_le 1 n) _ (le-leb 1 n k) (not_from_false (code_of y == 0) (ne_eqb (code_of y) 0 c)))

cause_open : (x more : List ℕ) (o : Opens x more)
    → cause_at (marks x) (after x) ≡ (if nat_le 3 (1 + length more) && nat_lt (pair more) 2 then LengthForm else HeadCut)
cause_open x more o =
    let e = after_open x o.fill o.code more o.filled o.marker.1 o.whole in
    let m = ap marks o.whole ∙ opened_marks o.fill o.code more o.filled o.marker.1 in
    let n : length (o.code ∷ more) ≡ 1 + length more = omega arith in
    ap (cause_at (marks x)) e ∙ cause_later (marks x) (o.code ∷ more) (omega arith) (omega arith) o.marker.0
    ∙ ap (λ (l : ℕ). if nat_le 3 l && nat_lt (pair more) 2 then LengthForm else HeadCut) n

fault_cause : (c : HeadCause) (x : List ℕ) → FaultAt c x → cause_at (marks x) (after x) ≡ c
fault_cause NoStart x f = absurd f
fault_cause NoMarker x (inl (o, more, e, k)) =
    let m = ap marks e ∙ marks_other o more k in
    let l = ap length e in
    cause_first (marks x) (after x) (omega (arith, length-drop (marks x) x)) (inl m)
fault_cause NoMarker x (inr (fill, more, f, e)) =
    let b = after_open x fill 0 more f (λ q. omega arith) e in
    let l = ap length b in
    cause_first (marks x) (after x) (omega arith) (inr (ap code_of b))
fault_cause LengthForm x (more, o, l, p) =
    cause_open x more o ∙ cond-true _ _ _ (and_from (nat_le 3 (1 + length more)) _ (le-leb 3 (1 + length more) (omega arith))
    (lt-ltb (pair more) 2 p))
fault_cause HeadCut x (inl f) =
    let l = fill_all x f in cause_nothing (marks x) (after x) (omega (arith, length-drop (marks x) x))
fault_cause HeadCut x (inr (more, o, inl l)) =
    cause_open x more o ∙ cond-false _ _ _ (and_left (nat_le 3 (1 + length more)) _ (lt-leb 3 (1 + length more) (omega arith)))
fault_cause HeadCut x (inr (more, o, inr l)) =
    cause_open x more o ∙ cond-false _ _ _ (and_right (nat_le 3 (1 + length more)) _ (le-ltb (pair more) 2 l.0))

located : (b : List ℕ) (c : HeadCause) (p : ℕ) → HasHeadFault b c p
    → ((c ≡ NoStart) × (p ≡ 0) × ((rest : List ℕ) → b ≢ 255 ∷ 216 ∷ rest))
    ⊎ ((ps : List Part) × (rest : List ℕ) × SplitAt b ps rest p × FaultAt c rest)
located b NoStart p f = inl (refl, f.0, f.1)
located b NoMarker p f = inr f
located b LengthForm p f = inr f
located b HeadCut p f = inr f

one_place : (b : List ℕ) (c d : HeadCause) (p r : ℕ) (ps qs : List Part) (rest more : List ℕ) → SplitAt b ps rest p → FaultAt c rest
    → SplitAt b qs more r → FaultAt d more → (c ≡ d) × (p ≡ r)
one_place b c d p r ps qs rest more s f t g =
    let w : ◌≡◌ {A = List ℕ} (255 ∷ 216 ∷ (s.front ++ rest)) (255 ∷ 216 ∷ (t.front ++ more)) = sym s.whole ∙ t.whole in
    let e : s.front ++ rest ≡ t.front ++ more = cc in
    let a = aligned ps qs 2 s.front t.front rest more s.encodes t.encodes (fault_no_part c rest f) (fault_no_part d more g) e in (
      sym (fault_cause c rest f) ∙ ap (λ (x : List ℕ). cause_at (marks x) (after x)) a.1 ∙ fault_cause d more g,
      omega (arith, a.0, s.place, t.place),
    )

pub one_fault : (b : List ℕ) (c d : HeadCause) (p r : ℕ) → HasHeadFault b c p → HasHeadFault b d r → (c ≡ d) × (p ≡ r)
one_fault b c d p r f g = elim (located b c p f) [
  | inl (e, z, n) ↦ elim (located b d r g) [
    | inl (h, y, m) ↦ (e ∙ sym h, z ∙ sym y)
    | inr (qs, more, t, k) ↦ absurd (n (t.front ++ more) t.whole)
  ]
  | inr (ps, rest, s, j) ↦ elim (located b d r g) [
    | inl (h, y, m) ↦ absurd (m (s.front ++ rest) s.whole)
    | inr (qs, more, t, k) ↦ one_place b c d p r ps qs rest more s j t k
  ]
]

pub faults_decide : FaultsDecide
faults_decide = (fault_excludes, one_fault)
