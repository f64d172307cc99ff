-- The parts at the start of a picture: up to the last of its head, or up to its first fault.
use Rattle.std.proofs.Common.{◌≡◌, ◌≤◌, ◌+◌, ◌-◌, ℕ, zero, suc, true, false, not, if◌then◌else◌, inl, inr}
use Rattle.std.proofs.Common.{Bool, Option, Some, None, is_some, unwrap_or}
use Rattle.std.proofs.Common.{List, [], ◌∷◌, ◌++◌, length, drop, refl, sym, ap, ◌∙◌, subst, arith, length-drop, length-append, append-nil}
use Rattle.std.proofs.lemmas.Bool.{cond-true, cond-false, cases_Bool, false_from_ne_true}
use Rattle.std.specs.List.{AllByRecursion}
use Rattle.px_jpeg.specs.declared.parts.Part.{Part}
use Rattle.px_jpeg.specs.declared.faults.HeadCause.{HeadCause}
use Rattle.px_jpeg.specs.declared.faults.HeadCause.TheVariants.{NoStart, NoMarker, LengthForm, HeadCut}
use Rattle.px_jpeg.specs.Head.{is_last, Encodes, NoneLast, EndsAtLast, HasHead}
use Rattle.px_jpeg.specs.Fault.{FaultAt, SplitAt, HasHeadFault, FaultAfter}
use Rattle.px_jpeg.specs.Pieces.{AllInside}
use Rattle.px_jpeg.specs.Reading.{is_part, part, size, starts, head_of, front_of, front_left, left_of, front}
use Rattle.px_jpeg.proofs.OnePart.{Reads, part_begins}
use Rattle.px_jpeg.proofs.ManyParts.{size_ge, first_reads, first_left}
use Rattle.px_jpeg.proofs.HeadLaws.{start_holds, start_off, fault_no_part, computed_is_meaning}
use Rattle.px_jpeg.proofs.Walking.{part_end, part_read, end_is, rest_after, start_long}

-- ---- how far a walk has to go makes no difference

shorter : (x : List ℕ) → length (drop (size x) x) ≤ length x - 1
shorter x = omega (arith, length-drop (size x) x, size_ge x)

front_of_nil : (n p : ℕ) → front_of n p [] ≡ []
unfolding front_of is_part
front_of_nil zero p = refl
front_of_nil (suc n) p = refl

same_fronts : (n m p : ℕ) (x : List ℕ) → length x ≤ n → length x ≤ m → front_of n p x ≡ front_of m p x
unfolding front_of
same_fronts zero m p [] h k = sym (front_of_nil m p)
same_fronts zero m p (o ∷ x) h k = absurd (omega arith)
same_fronts (suc n) zero p [] h k = front_of_nil (suc n) p
same_fronts (suc n) zero p (o ∷ x) h k = absurd (omega arith)
same_fronts (suc n) (suc m) p x h k =
    let l = shorter x in
    ap (λ (ps : List Part). if is_part x then
    (if is_last (part p x).code then part p x ∷ [] else part p x ∷ ps) else [])
    (same_fronts n m (p + size x) (drop (size x) x) (omega arith) (omega arith))

-- ---- one step

pub front_none : (p : ℕ) (x : List ℕ) → is_part x ≡ false → front_left p x ≡ []
unfolding front_left front_of
front_none p [] e = refl
front_none p (o ∷ x) e = cond-false (is_part (o ∷ x)) _ _ e

pub front_nil : (p : ℕ) → front_left p [] ≡ []
unfolding front_left front_of
front_nil p = refl

nil_no_part : is_part [] ≡ true → ⊥
unfolding is_part
nil_no_part e = let clash : false ≡ true = e in cc

front_last : (p : ℕ) (x : List ℕ) → is_part x ≡ true → is_last (part p x).code ≡ true → front_left p x ≡ part p x ∷ []
unfolding front_left front_of
front_last p [] e f = absurd (nil_no_part e)
front_last p (o ∷ x) e f = cond-true (is_part (o ∷ x)) _ _ e ∙ cond-true (is_last (part p (o ∷ x)).code) _ _ f

front_more : (p : ℕ) (x : List ℕ) → is_part x ≡ true → is_last (part p x).code ≡ false
    → front_left p x ≡ part p x ∷ front_left (p + size x) (drop (size x) x)
unfolding front_left front_of
front_more p [] e f = absurd (nil_no_part e)
front_more p (o ∷ x) e f =
    let l = shorter (o ∷ x) in
    let y = drop (size (o ∷ x)) (o ∷ x) in
    cond-true (is_part (o ∷ x)) _ _ e ∙ cond-false (is_last (part p (o ∷ x)).code) _ _ f
    ∙ ap (λ (ps : List Part). part p (o ∷ x) ∷ ps)
    (same_fronts (length x) (length y) (p + size (o ∷ x)) y (omega arith) (omega arith))

module _ (p : ℕ) (q : Part) (n : ℕ) (x : List ℕ) (r : Reads p q n x) where
  pub front_is_last : is_last q.code ≡ true → front_left p x ≡ q ∷ []
  front_is_last h =
      front_last p x r.there (ap (λ (s : Part). is_last s.code) r.value ∙ h) ∙ ap (λ (s : Part). s ∷ []) r.value

  pub front_goes_on : is_last q.code ≡ false → front_left p x ≡ q ∷ front_left (p + n) (drop n x)
  front_goes_on h =
      front_more p x r.there (ap (λ (s : Part). is_last s.code) r.value ∙ h)
      ∙ ap (λ (s : Part). s ∷ front_left (p + size x) (drop (size x) x)) r.value
      ∙ ap (λ (m : ℕ). q ∷ front_left (p + m) (drop m x)) r.sized

-- ---- from the grammar

pub front_encoded : (qs : List Part) (p : ℕ) (x rest : List ℕ) → Encodes p qs x → NoneLast qs
    → front_left p (x ++ rest) ≡ qs ++ front_left (p + length x) rest
front_encoded [] p x rest s h =
    let n : p + length x ≡ p = let e = ap length s in omega arith in
    ap (λ (y : List ℕ). front_left p (y ++ rest)) s ∙ ap (λ (k : ℕ). front_left k rest) (sym n)
front_encoded (q ∷ qs) p x rest (a, b, w, i, s) h =
    let n : p + length a + length b ≡ p + length x = let e = ap length w in let l = length-append a b in omega arith in
    front_goes_on p q (length a) (x ++ rest) (first_reads p q x a b rest w i) h.0
    ∙ ap (λ (y : List ℕ). q ∷ front_left (p + length a) y) (first_left p q x a b rest w i)
    ∙ ap (λ (ps : List Part). q ∷ ps) (front_encoded qs (p + length a) b rest s h.1)
    ∙ ap (λ (k : ℕ). (q ∷ qs) ++ front_left k rest) n

pub front_ends : (qs : List Part) (p : ℕ) (x rest : List ℕ) → Encodes p qs x → EndsAtLast qs → front_left p (x ++ rest) ≡ qs
front_ends [] p x rest s h = absurd h
front_ends (q ∷ []) p x rest (a, b, w, i, s) h =
    front_is_last p q (length a) (x ++ rest) (first_reads p q x a b rest w i) h
front_ends (q ∷ r ∷ qs) p x rest (a, b, w, i, s) h =
    front_goes_on p q (length a) (x ++ rest) (first_reads p q x a b rest w i) h.0
    ∙ ap (λ (y : List ℕ). q ∷ front_left (p + length a) y) (first_left p q x a b rest w i)
    ∙ ap (λ (ps : List Part). q ∷ ps) (front_ends (r ∷ qs) (p + length a) b rest s h.1)

pub front_after : (x : List ℕ) → front (255 ∷ 216 ∷ x) ≡ front_left 2 x
front_after x = cond-false (not (starts (255 ∷ 216 ∷ x))) [] (front_left 2 x) (ap not (start_holds x))

pub head_front : (b : List ℕ) (qs : List Part) → HasHead b qs → front b ≡ qs
head_front b qs s = ap front s.whole ∙ front_after (s.encoded ++ s.rest) ∙ front_ends qs 2 s.encoded s.rest s.encodes s.ends

pub after_front : (b : List ℕ) (c : HeadCause) (p : ℕ) (qs : List Part) (rest : List ℕ) → SplitAt b qs rest p → FaultAt c rest → front b ≡ qs
after_front b c p qs rest r f =
    ap front r.whole ∙ front_after (r.front ++ rest) ∙ front_encoded qs 2 r.front rest r.encodes r.before
    ∙ ap (λ (ps : List Part). qs ++ ps) (front_none (2 + length r.front) rest (fault_no_part c rest f)) ∙ append-nil qs

no_start : (b : List ℕ) → ((rest : List ℕ) → b ≡ 255 ∷ 216 ∷ rest → ⊥) → starts b ≡ false
no_start b n = false_from_ne_true (starts b) (λ h. n (drop 2 b) (start_off b h))

pub fault_front : (b : List ℕ) (c : HeadCause) (p : ℕ) → HasHeadFault b c p → FaultAfter b (front b) c p
fault_front b NoStart p f = (cond-true (not (starts b)) [] (front_left 2 (drop 2 b)) (ap not (no_start b f.1)), f)
fault_front b NoMarker p (qs, rest, r, f) =
    (rest, subst (λ (ps : List Part). SplitAt b ps rest p) (sym (after_front b NoMarker p qs rest r f)) r, f)
fault_front b LengthForm p (qs, rest, r, f) =
    (rest, subst (λ (ps : List Part). SplitAt b ps rest p) (sym (after_front b LengthForm p qs rest r f)) r, f)
fault_front b HeadCut p (qs, rest, r, f) =
    (rest, subst (λ (ps : List Part). SplitAt b ps rest p) (sym (after_front b HeadCut p qs rest r f)) r, f)

-- ---- one part on, as an iterator reads it

module _ (b : List ℕ) (at : ℕ) (y : List ℕ) (q : Part) (e : y ≡ drop at b) (h : is_part y ≡ true) (v : q ≡ part at y) where
  pub last_front : is_last q.code ≡ true → front_left at (drop at b) ≡ q ∷ []
  last_front l = ap (front_left at) (sym e) ∙ front_is_last at q (size y) y (part_read b at y q e h v) l

  pub more_front : is_last q.code ≡ false
      → front_left at (drop at b) ≡ q ∷ front_left (q.start + q.size) (drop (q.start + q.size) b)
  more_front l =
      ap (front_left at) (sym e) ∙ front_goes_on at q (size y) y (part_read b at y q e h v) l
      ∙ ap (λ (n : ℕ). q ∷ front_left n (drop (size y) y)) (sym (end_is b at y q e h v))
      ∙ ap (λ (z : List ℕ). q ∷ front_left (q.start + q.size) z) (rest_after b at y q e h v)

-- ---- a head that was read

head_starts : (b : List ℕ) (qs : List Part) → HasHead b qs → starts b ≡ true
head_starts b qs s = ap starts s.whole ∙ start_holds (s.encoded ++ s.rest)

pub some_has_meaning : (b : List ℕ) → is_some (head_of b) ≡ true → HasHead b (unwrap_or (head_of b) [])
some_has_meaning b h = of (head_of b) refl h
  where
    of : (o : Option (List Part)) → head_of b ≡ o → is_some o ≡ true → HasHead b (unwrap_or o [])
    of None e k = let clash : false ≡ true = k in absurd (cc)
    of (Some qs) e k = computed_is_meaning b qs e

pub whole_front : (b : List ℕ) → is_some (head_of b) ≡ true
    → (2 ≤ length b) × (front_left 2 (drop 2 b) ≡ unwrap_or (head_of b) [])
whole_front b h =
    let s = some_has_meaning b h in
    let t = head_starts b (unwrap_or (head_of b) []) s in (
      start_long b t,
      sym (cond-false (not (starts b)) [] (front_left 2 (drop 2 b)) (ap not t)) ∙ head_front b (unwrap_or (head_of b) []) s,
    )

-- ---- the parts are in the bytes

inside : (n p m : ℕ) (x : List ℕ) → p + length x ≤ m → AllByRecursion (λ q. q.start + q.size ≤ m) (front_of n p x)
unfolding front_of
inside zero p m x l = tt
inside (suc n) p m x l = elim (cases_Bool (is_part x)) [
  | inl t ↦
      let g = part_begins p x t in
      let e = part_end p (part p x) g.front g.is in
      let w = ap length g.whole in
      let k = length-append g.front (drop (size x) x) in
      let o = g.long in
      let first : (part p x).start + (part p x).size ≤ m = omega arith in
      elim (cases_Bool (is_last (part p x).code)) [
        | inl u ↦
            subst (AllByRecursion (λ q. q.start + q.size ≤ m))
            (sym (cond-true (is_part x) _ _ t ∙ cond-true (is_last (part p x).code) _ _ u)) (first, tt)
        | inr u ↦
            subst (AllByRecursion (λ q. q.start + q.size ≤ m))
            (sym (cond-true (is_part x) _ _ t ∙ cond-false (is_last (part p x).code) _ _ u))
            (first, inside n (p + size x) m (drop (size x) x) (omega arith))
      ]
  | inr f ↦ subst (AllByRecursion (λ q. q.start + q.size ≤ m)) (sym (cond-false (is_part x) _ _ f)) tt
]

left_inside : (p m : ℕ) (x : List ℕ) → p + length x ≤ m → AllByRecursion (λ q. q.start + q.size ≤ m) (front_left p x)
unfolding front_left
left_inside p m x l = inside (length x) p m x l

pub front_inside : (b : List ℕ) → AllInside b (front b)
front_inside b = elim (cases_Bool (starts b)) [
  | inl t ↦
      let e = ap length (start_off b t) in
      subst (AllInside b) (sym (cond-false (not (starts b)) [] (front_left 2 (drop 2 b)) (ap not t)))
      (left_inside 2 (length b) (drop 2 b) (omega arith))
  | inr f ↦ subst (AllInside b) (sym (cond-true (not (starts b)) [] (front_left 2 (drop 2 b)) (ap not f))) tt
]

-- ---- there are at most as many as bytes

few : (n p : ℕ) (x : List ℕ) → length (front_of n p x) ≤ n
unfolding front_of
few zero p x = omega arith
few (suc n) p x = elim (cases_Bool (is_part x)) [
  | inl t ↦ elim (cases_Bool (is_last (part p x).code)) [
    | inl u ↦
        let e : front_of (suc n) p x ≡ part p x ∷ [] = cond-true (is_part x) _ _ t ∙ cond-true (is_last (part p x).code) _ _ u in
        let l = ap length e in omega arith
    | inr u ↦
        let e : front_of (suc n) p x ≡ part p x ∷ front_of n (p + size x) (drop (size x) x) =
        cond-true (is_part x) _ _ t ∙ cond-false (is_last (part p x).code) _ _ u in
        let l = ap length e in
        let k = few n (p + size x) (drop (size x) x) in omega arith
  ]
  | inr f ↦ let e : front_of (suc n) p x ≡ [] = cond-false (is_part x) _ _ f in let l = ap length e in omega arith
]

front_few : (p : ℕ) (x : List ℕ) → length (front_left p x) ≤ length x
unfolding front_left
front_few p x = few (length x) p x

pub left_few : (o : Bool) (at : ℕ) (b : List ℕ) → length (left_of o at b) ≤ length b
left_few true at b = omega arith
left_few false at b = let k = front_few at (drop at b) in omega (arith, length-drop at b)
