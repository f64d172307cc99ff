-- The faults of a block, and blocks without a fault.
use Rattle.std.proofs.Common.{◌≡◌, ◌⊎◌, ◌<◌, ◌≤◌, ◌+◌, ℕ, zero, suc, nat_lt, nat_le, Bool, true, false, ◌&&◌, if◌then◌else◌, inl, inr, refl}
use Rattle.std.proofs.Common.{sym, ap, subst, ◌∙◌, arith, leb-true, leb-false, ltb-true, ltb-false, Option, Some, None, List, [], ◌∷◌, ◌++◌}
use Rattle.std.proofs.Common.{length, take, drop, length-append, length-drop, append_assoc, append-nil}
use Rattle.std.specs.List.{AllByRecursion}
use Rattle.std.proofs.lemmas.Bool.{cond-true, cond-false, cases_Bool, and_parts, and_cases, or_cases, or_parts, true≢false}
use Rattle.std.proofs.lemmas.List.{take-append-drop, length-take-le}
use Rattle.px_bytes.specs.declared.Cause.{Cause}
use Rattle.px_bytes.specs.declared.Cause.TheVariants.{TooLong, NoMarker, LengthForm, DataSetCut}
use Rattle.px_bytes.specs.Checks.{Check, check, first_false}
use Rattle.px_bytes.specs.Parts.{limit}
use Rattle.px_iim.specs.DataSet.{DataSet, top_bit, IsEncoding, Encodes}
use Rattle.px_iim.specs.Group.{Record, gather}
use Rattle.px_iim.specs.Record.{SaysIim, form, extra, size, is_marked, has_form, is_dataset, dataset, is_end}
use Rattle.px_iim.specs.Check.{dataset_checks, checks_from, iim_checks, FirstIimFault, SplitAt, IimFault}
use Rattle.px_iim.specs.lemmas.GatherLaws.{gather_from_empty}
use Rattle.px_iim.specs.lemmas.EncodingLaws.{Holds, holds_dataset, dataset_holds, encoded_begins, dataset_encoded}
use Rattle.px_iim.specs.lemmas.SequenceLaws.{IsZero, end_true, blank_unmarked, after_begins, marked_encoding, Parsed, parsed_end}
use Rattle.px_iim.specs.lemmas.SequenceLaws.{parsed_more}
use Rattle.px_iim.specs.lemmas.NormalLaws.{encodes_append}
use Rattle.px_iim.specs.Laws.{FaultsDecide, FaultsBounded}

-- ---- the first of five

abbrev pub five : ℕ → Bool → Bool → Bool → Bool → Bool → List Check
five p a b c d e = check NoMarker p a ∷ check DataSetCut p b ∷ check LengthForm p c ∷ check DataSetCut p d ∷ check DataSetCut p e ∷ []

fault_of_some : (P : Cause → ℕ → Type 0) (c : Cause) (p : ℕ) (f : Cause × ℕ) → Some (c, p) ≡ Some f → P c p → P f.0 f.1
fault_of_some P c p f e h = let q : (c, p) ≡ f = cc in subst (λ (z : Cause × ℕ). P z.0 z.1) q h

five_cases : (P : Cause → ℕ → Type 0) (p : ℕ) (a b c d e : Bool) (rest : List Check) (f : Cause × ℕ) →
    (a ≡ false → P NoMarker p) → (a ≡ true → b ≡ false → P DataSetCut p) → (a ≡ true → b ≡ true → c ≡ false → P LengthForm p) →
    (a ≡ true → c ≡ true → d ≡ false → P DataSetCut p) → (a ≡ true → c ≡ true → e ≡ false → P DataSetCut p) →
    (a ≡ true → b ≡ true → c ≡ true → d ≡ true → e ≡ true → first_false rest ≡ Some f → P f.0 f.1) →
    first_false (five p a b c d e ++ rest) ≡ Some f → P f.0 f.1
five_cases P p false b c d e rest f h1 h2 h3 h4 h5 h6 q = fault_of_some P NoMarker p f q (h1 refl)
five_cases P p true false c d e rest f h1 h2 h3 h4 h5 h6 q = fault_of_some P DataSetCut p f q (h2 refl refl)
five_cases P p true true false d e rest f h1 h2 h3 h4 h5 h6 q = fault_of_some P LengthForm p f q (h3 refl refl refl)
five_cases P p true true true false e rest f h1 h2 h3 h4 h5 h6 q = fault_of_some P DataSetCut p f q (h4 refl refl refl)
five_cases P p true true true true false rest f h1 h2 h3 h4 h5 h6 q = fault_of_some P DataSetCut p f q (h5 refl refl refl)
five_cases P p true true true true true rest f h1 h2 h3 h4 h5 h6 q = h6 refl refl refl refl refl q

five_none : (p : ℕ) (a b c d e : Bool) (rest : List Check) → first_false (five p a b c d e ++ rest) ≡ None →
    (a ≡ true) × (b ≡ true) × (c ≡ true) × (d ≡ true) × (e ≡ true) × (first_false rest ≡ None)
five_none p true true true true true rest q = (refl, refl, refl, refl, refl, q)
five_none p false b c d e rest q = let clash : ◌≡◌ {A = Option (Cause × ℕ)} (Some (NoMarker, p)) None = q in absurd (cc)
five_none p true false c d e rest q = let clash : ◌≡◌ {A = Option (Cause × ℕ)} (Some (DataSetCut, p)) None = q in absurd (cc)
five_none p true true false d e rest q = let clash : ◌≡◌ {A = Option (Cause × ℕ)} (Some (LengthForm, p)) None = q in absurd (cc)
five_none p true true true false e rest q = let clash : ◌≡◌ {A = Option (Cause × ℕ)} (Some (DataSetCut, p)) None = q in absurd (cc)
five_none p true true true true false rest q = let clash : ◌≡◌ {A = Option (Cause × ℕ)} (Some (DataSetCut, p)) None = q in absurd (cc)

-- ---- one step

-- the checks after a DataSet
unfoldable pub checks_after : ℕ → ℕ → List ℕ → List Check
checks_after n p x = if is_dataset x then (if is_end (drop (size x) x) then [] else checks_from n (p + size x) (drop (size x) x)) else []

pub checks_step : (n p : ℕ) (x : List ℕ) → checks_from (suc n) p x ≡ dataset_checks p x ++ checks_after n p x
unfolding checks_from checks_after
checks_step n p x = refl

pub after_end : (n p : ℕ) (x : List ℕ) → is_dataset x ≡ true → is_end (drop (size x) x) ≡ true → checks_after n p x ≡ []
unfolding checks_after
after_end n p x h k = cond-true _ _ _ h ∙ cond-true _ _ _ k

pub after_more : (n p : ℕ) (x : List ℕ) → is_dataset x ≡ true → is_end (drop (size x) x) ≡ false
    → checks_after n p x ≡ checks_from n (p + size x) (drop (size x) x)
unfolding checks_after
after_more n p x h k = cond-true _ _ _ h ∙ cond-false _ _ _ k

five_hold : (x : List ℕ) → is_marked x ≡ true → nat_le 5 (length x) ≡ true → has_form x ≡ true → nat_le (5 + extra x) (length x) ≡ true
    → nat_le (size x) (length x) ≡ true → Holds x
five_hold x a b c d e = record {
  marked = a;
  five = leb-true 5 (length x) b;
  formed = c;
  counted = leb-true (5 + extra x) (length x) d;
  whole = leb-true (size x) (length x) e;
}

-- ---- the first fault is a fault of the block

module _ (x : List ℕ) where
  pub after_next : (ds : List DataSet) (rest : List ℕ) (p : ℕ) → SplitAt x ds rest p → Holds rest
      → SplitAt x (ds ++ dataset rest ∷ []) (drop (size rest) rest) (p + size rest)
  after_next ds rest p b h =
      let cut : rest ≡ take (size rest) rest ++ drop (size rest) rest = sym (take-append-drop (size rest) rest) in
      let one : Encodes (dataset rest ∷ []) (take (size rest) rest) =
      (take (size rest) rest, [], sym (append-nil (take (size rest) rest)), dataset_encoded rest (holds_dataset rest h), refl) in
      let l = length-take-le (size rest) rest h.whole in
      let m = length-append b.front (take (size rest) rest) in
      let q = b.place in record {
        front = b.front ++ take (size rest) rest;
        whole = b.whole ∙ ap (λ (z : List ℕ). b.front ++ z) cut
            ∙ sym (append_assoc b.front (take (size rest) rest) (drop (size rest) rest));
        encodes = encodes_append ds (dataset rest ∷ []) b.front (take (size rest) rest) b.encodes one;
        place = omega arith;
      }

  long_form : (rest : List ℕ) → has_form rest ≡ false → (top_bit ≤ form rest) × ((extra rest ≡ 0) ⊎ (4 < extra rest))
  long_form rest h =
      let p = or_parts (nat_lt (form rest) top_bit) (nat_le 1 (extra rest) && nat_le (extra rest) 4) h in (
        ltb-false (form rest) top_bit p.0,
        elim (and_cases (nat_le 1 (extra rest)) (nat_le (extra rest) 4) p.1) [
          | inl a ↦ let l = leb-false 1 (extra rest) a in inl (omega arith)
          | inr b ↦ let l = leb-false (extra rest) 4 b in inr (omega arith)
        ],
      )

  fault_from : (n : ℕ) (ds : List DataSet) (rest : List ℕ) (p : ℕ) (f : Cause × ℕ) → SplitAt x ds rest p
      → (ds ≡ []) ⊎ (is_end rest ≡ false) →
      first_false (checks_from n p rest) ≡ Some f → IimFault x f.0 f.1
  unfolding checks_from
  fault_from zero ds rest p f b o e = let clash : None ≡ Some f = e in absurd (cc)
  fault_from (suc n) ds rest p f b o e =
      five_cases (IimFault x) p (is_marked rest) (nat_le 5 (length rest)) (has_form rest) (nat_le (5 + extra rest) (length rest))
      (nat_le (size rest) (length rest)) (checks_after n p rest) f
      (λ a. (ds, rest, b, o, a))
      (λ a l. (ds, rest, b, a, inl (let m = leb-false 5 (length rest) l in omega arith)))
      (λ a l c. let g = long_form rest c in (ds, rest, b, a, leb-true 5 (length rest) l, g.0, g.1))
      (λ a c l. (ds, rest, b, a, inr (c, inl (let m = leb-false (5 + extra rest) (length rest) l in omega arith))))
      (λ a c l. (ds, rest, b, a, inr (c, inr (let m = leb-false (size rest) (length rest) l in omega arith))))
      (λ a l c d w q.
      let h = five_hold rest a l c d w in
      let i = holds_dataset rest h in
      elim (cases_Bool (is_end (drop (size rest) rest))) [
        | inl t ↦ let clash : None ≡ Some f = sym (ap first_false (after_end n p rest i t)) ∙ q in absurd (cc)
        | inr t ↦ fault_from n (ds ++ dataset rest ∷ []) (drop (size rest) rest) (p + size rest) f (after_next ds rest p b h) (inr t)
            (sym (ap first_false (after_more n p rest i t)) ∙ q)
      ])
      (sym (ap first_false (checks_step n p rest)) ∙ e)

  after_none : SplitAt x [] x 0
  after_none = record { front = []; whole = refl; encodes = refl; place = refl }

first_head : (c : Check) (cs : List Check) (f : Cause × ℕ) → first_false (c ∷ cs) ≡ Some f
    → ((c.holds ≡ false) × ((c.cause, c.place) ≡ f)) ⊎ ((c.holds ≡ true) × (first_false cs ≡ Some f))
first_head c cs f e = elim (cases_Bool c.holds) [
  | inl t ↦ inr (t, sym (cond-true _ _ _ t) ∙ e)
  | inr g ↦ let q : Some (c.cause, c.place) ≡ Some f = sym (cond-false _ _ _ g) ∙ e in inl (g, (cc))
]

pub first_is_fault : (x : List ℕ) (c : Cause) (p : ℕ) → FirstIimFault x c p → IimFault x c p
unfolding iim_checks
first_is_fault x c p e = elim (first_head (check TooLong limit (nat_le (length x) limit)) (checks_from (length x + 1) 0 x) (c, p) e) [
  | inl h ↦ let l = leb-false (length x) limit h.0 in subst (λ (z : Cause × ℕ). IimFault x z.0 z.1) h.1 (refl, (omega arith))
  | inr h ↦ fault_from x (length x + 1) [] x 0 (c, p) (after_none x) (inl refl) h.1
]

-- ---- a block with a fault has no record

-- the rest after some DataSets of a block is the block's end, or begins with a DataSet
pub record Next (ds all : List DataSet) (rest zeros : List ℕ) : Type 0 where
  pub or : ((rest ≡ zeros) × (length ds ≡ length all)) ⊎ ((d : DataSet) × (a : List ℕ) × (y : List ℕ) × IsEncoding d a × (rest ≡ a ++ y))

next_more : (d e : DataSet) (ds all : List DataSet) (rest zeros : List ℕ) → Next ds all rest zeros → Next (d ∷ ds) (e ∷ all) rest zeros
next_more d e ds all rest zeros n = record {
  or = elim n.or [
    | inl h ↦ inl (h.0, let l = h.1 in omega arith)
    | inr h ↦ inr h
  ];
}

pub encodes_aligned : (ds all : List DataSet) (front rest encoded zeros : List ℕ) → front ++ rest ≡ encoded ++ zeros → Encodes ds front
    → Encodes all encoded → AllByRecursion IsZero zeros → Next ds all rest zeros
encodes_aligned [] [] front rest encoded zeros e s t b =
    record { or = inl (sym (ap (λ (z : List ℕ). z ++ rest) s) ∙ e ∙ ap (λ (z : List ℕ). z ++ zeros) t, refl) }
encodes_aligned [] (d ∷ all) front rest encoded zeros e s (a, y, q, u, v) b = record {
  or = inr (d, a, y ++ zeros, u, sym (ap (λ (z : List ℕ). z ++ rest) s) ∙ e ∙ ap (λ (z : List ℕ). z ++ zeros) q ∙ append_assoc a y zeros);
}
encodes_aligned (d ∷ ds) [] front rest encoded zeros e (a, y, q, u, v) t b =
    let same : a ++ (y ++ rest) ≡ zeros =
    sym (append_assoc a y rest) ∙ ap (λ (z : List ℕ). z ++ rest) (sym q) ∙ e ∙ ap (λ (z : List ℕ). z ++ zeros) t in
    absurd (blank_unmarked zeros b (subst (λ (z : List ℕ). is_marked z ≡ true) same (marked_encoding d a (y ++ rest) u)))
encodes_aligned (d ∷ ds) (f ∷ all) front rest encoded zeros e (a, y, q, u, v) (a', y', q', u', v') b =
    let same : a ++ (y ++ rest) ≡ a' ++ (y' ++ zeros) =
    sym (append_assoc a y rest) ∙ ap (λ (z : List ℕ). z ++ rest) (sym q) ∙ e ∙ ap (λ (z : List ℕ). z ++ zeros) q'
    ∙ append_assoc a' y' zeros in
    let on : y ++ rest ≡ y' ++ zeros =
    sym (after_begins d a (y ++ rest) u) ∙ ap (λ (z : List ℕ). drop (size z) z) same ∙ after_begins f a' (y' ++ zeros) u' in
    next_more d f ds all rest zeros (encodes_aligned ds all y rest y' zeros on v v' b)

module _ (x : List ℕ) (i : Record) (s : SaysIim x i) where
  pub next_of : (ds : List DataSet) (rest : List ℕ) (p : ℕ) → SplitAt x ds rest p → Next ds s.sequence rest s.zeros
  next_of ds rest p b = encodes_aligned ds s.sequence b.front rest s.encoded s.zeros (sym b.whole ∙ s.whole) b.encodes s.encodes s.blank

  -- a marked offset has a whole DataSet
  marked_holds : (ds : List DataSet) (rest : List ℕ) (p : ℕ) → SplitAt x ds rest p → is_marked rest ≡ true → Holds rest
  marked_holds ds rest p b m = elim (next_of ds rest p b).or [
    | inl h ↦ absurd (blank_unmarked s.zeros s.blank (subst (λ (z : List ℕ). is_marked z ≡ true) h.0 m))
    | inr (d, a, y, u, q) ↦ subst Holds (sym q) (dataset_holds (a ++ y) (encoded_begins d a y u).is)
  ]

  no_unmarked : (ds : List DataSet) (rest : List ℕ) (p : ℕ) → SplitAt x ds rest p → (ds ≡ []) ⊎ (is_end rest ≡ false)
      → is_marked rest ≡ false → ⊥
  no_unmarked ds rest p b o m = elim (next_of ds rest p b).or [
    | inl h ↦ elim o [
      | inl none ↦ let l = ap length none in let k = h.1 in let n = s.some in omega arith
      | inr more ↦ true≢false (sym (end_true s.zeros s.short s.blank) ∙ sym (ap is_end h.0) ∙ more)
    ]
    | inr (d, a, y, u, q) ↦ true≢false (sym (marked_encoding d a y u) ∙ sym (ap is_marked q) ∙ m)
  ]

  no_form : (rest : List ℕ) → Holds rest → top_bit ≤ form rest → (extra rest ≡ 0) ⊎ (4 < extra rest) → ⊥
  no_form rest h l o = elim (or_cases (nat_lt (form rest) top_bit) (nat_le 1 (extra rest) && nat_le (extra rest) 4) h.formed) [
    | inl t ↦ let m = ltb-true (form rest) top_bit t in omega arith
    | inr t ↦
        let q = and_parts (nat_le 1 (extra rest)) (nat_le (extra rest) 4) t in
        let m = leb-true 1 (extra rest) q.0 in
        let n = leb-true (extra rest) 4 q.1 in
        elim o [ inl z ↦ omega arith | inr z ↦ omega arith ]
  ]

  no_cut : (rest : List ℕ) → Holds rest → (length rest < 5) ⊎
      ((has_form rest ≡ true) × ((length rest < 5 + extra rest) ⊎ (length rest < size rest))) → ⊥
  no_cut rest h (inl l) = let m = h.five in omega arith
  no_cut rest h (inr (f, inl l)) = let m = h.counted in omega arith
  no_cut rest h (inr (f, inr l)) = let m = h.whole in omega arith

pub fault_excludes_meaning : (x : List ℕ) (c : Cause) (p : ℕ) (i : Record) → IimFault x c p → SaysIim x i → ⊥
fault_excludes_meaning x TooLong p i h s = let l = s.bounded in let m = h.1 in omega arith
fault_excludes_meaning x NoMarker p i (ds, rest, b, o, m) s = no_unmarked x i s ds rest p b o m
fault_excludes_meaning x LengthForm p i (ds, rest, b, m, l, f, o) s = no_form x i s rest (marked_holds x i s ds rest p b m) f o
fault_excludes_meaning x DataSetCut p i (ds, rest, b, m, o) s = no_cut x i s rest (marked_holds x i s ds rest p b m) o
fault_excludes_meaning x _ p i h s = absurd h

-- ---- a record, or a first fault

-- if enough checks pass, the block is a sequence of DataSets
pub checks_clean : (n p : ℕ) (x : List ℕ) → length x < n → first_false (checks_from n p x) ≡ None → (ds : List DataSet) × Parsed ds x
checks_clean zero p x l e = absurd (omega arith)
checks_clean (suc n) p x l e =
    let q = five_none p (is_marked x) (nat_le 5 (length x)) (has_form x) (nat_le (5 + extra x) (length x)) (nat_le (size x) (length x))
    (checks_after n p x) (sym (ap first_false (checks_step n p x)) ∙ e) in
    let h = five_hold x q.0 q.1 q.2 q.3 q.4 in
    let i = holds_dataset x h in
    elim (cases_Bool (is_end (drop (size x) x))) [
      | inl t ↦ (dataset x ∷ [], parsed_end x i t)
      | inr t ↦
          let d = length-drop (size x) x in
          let w = h.whole in
          let r = checks_clean n (p + size x) (drop (size x) x) (omega arith) (sym (ap first_false (after_more n p x i t)) ∙ q.5) in
          (dataset x ∷ r.0, parsed_more x r.0 i r.1)
    ]

pub parsed_means : (x : List ℕ) (ds : List DataSet) → length x ≤ limit → Parsed ds x → SaysIim x (gather [] ds)
parsed_means x ds l p = record {
  bounded = l;
  sequence = ds;
  some = p.some;
  encoded = p.front;
  zeros = p.zeros;
  whole = p.whole;
  encodes = p.encodes;
  short = p.short;
  blank = p.blank;
  gathered = gather_from_empty ds;
}

pub clean_means : (x : List ℕ) → first_false (iim_checks x) ≡ None → (i : Record) × SaysIim x i
unfolding iim_checks
clean_means x e = elim (cases_Bool (nat_le (length x) limit)) [
  | inl t ↦
      let r = checks_clean (length x + 1) 0 x (omega arith) (sym (cond-true _ _ _ t) ∙ e) in
      (gather [] r.0, parsed_means x r.0 (leb-true (length x) limit t) r.1)
  | inr f ↦ let clash : Some (TooLong, limit) ≡ None = sym (cond-false _ _ _ f) ∙ e in absurd (cc)
]

pub meaning_or_fault : (x : List ℕ) → ((i : Record) × SaysIim x i) ⊎ ((c : Cause) × (p : ℕ) × FirstIimFault x c p)
meaning_or_fault x = go (first_false (iim_checks x)) refl
  where
    go : (z : Option (Cause × ℕ)) → first_false (iim_checks x) ≡ z
        → ((i : Record) × SaysIim x i) ⊎ ((c : Cause) × (p : ℕ) × FirstIimFault x c p)
    go None e = inl (clean_means x e)
    go (Some f) e = inr (f.0, f.1, e)

-- a block with a record has no fault
pub meaning_clean : (x : List ℕ) (i : Record) → SaysIim x i → first_false (iim_checks x) ≡ None
meaning_clean x i s = go (first_false (iim_checks x)) refl
  where
    go : (z : Option (Cause × ℕ)) → first_false (iim_checks x) ≡ z → z ≡ None
    go None e = refl
    go (Some f) e = absurd (fault_excludes_meaning x f.0 f.1 i (first_is_fault x f.0 f.1 e) s)

pub faults_decide : FaultsDecide
faults_decide = (first_is_fault, fault_excludes_meaning, meaning_or_fault)

-- ---- the offset of a fault

after_place : (x : List ℕ) (ds : List DataSet) (rest : List ℕ) (p : ℕ) → SplitAt x ds rest p → length x ≤ limit → p ≤ limit
after_place x ds rest p b l = omega (arith, b.place, ap length b.whole, length-append b.front rest)

pub fault_place_le_limit : (x : List ℕ) (c : Cause) (p : ℕ) → IimFault x c p → length x ≤ limit → p ≤ limit
fault_place_le_limit x TooLong p s l = omega (arith, s.0)
fault_place_le_limit x NoMarker p s l = after_place x s.0 s.1 p s.2 l
fault_place_le_limit x LengthForm p s l = after_place x s.0 s.1 p s.2 l
fault_place_le_limit x DataSetCut p s l = after_place x s.0 s.1 p s.2 l
fault_place_le_limit x _ p s l = absurd s

pub faults_bounded : FaultsBounded
unfolding iim_checks
faults_bounded x c p e = elim (first_head (check TooLong limit (nat_le (length x) limit)) (checks_from (length x + 1) 0 x) (c, p) e) [
  | inl h ↦ let q : limit ≡ p = ap (λ (z : Cause × ℕ). z.1) h.1 in omega arith
  | inr h ↦ fault_place_le_limit x c p (first_is_fault x c p e) (leb-true (length x) limit h.0)
]
