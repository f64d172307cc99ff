-- The DataSets of a block, read one after another.
use Rattle.std.proofs.Common.{◌≡◌, ◌≤◌, ◌*◌, ◌==◌, ℕ, zero, suc, nat_le, Bool, true, false, inl, inr, refl, sym, ap, subst, ◌∙◌, arith}
use Rattle.std.proofs.Common.{eqb-true, eq-eqb, leb-true, le-leb, Option, Some, None, option_map, List, [], ◌∷◌, ◌++◌, length, take, drop}
use Rattle.std.proofs.Common.{drop_at, length-append, append_assoc, append-nil}
use Rattle.std.specs.List.{AllByRecursion, list_all}
use Rattle.std.proofs.lemmas.Bool.{cond-true, cond-false, cases_Bool, and_parts, and_from, false_from_ne_true}
use Rattle.std.proofs.lemmas.List.{take-append-drop}
use Rattle.px_iim.specs.DataSet.{DataSet, marker, IsEncoding, Encodes}
use Rattle.px_iim.specs.Record.{size, is_marked, is_dataset, dataset, is_end, sequence_of}
use Rattle.px_iim.specs.lemmas.EncodingLaws.{dataset_holds, encoded_begins, dataset_encoded}

-- ---- the end

abbrev pub IsZero : ℕ → Type 0
IsZero o = o ≡ 0

abbrev pub is_zero : ℕ → Bool
is_zero o = o == 0

zeros_true : (x : List ℕ) → AllByRecursion IsZero x → list_all is_zero x ≡ true
zeros_true [] h = refl
zeros_true (o ∷ x) h = and_from (o == 0) (list_all is_zero x) (eq-eqb o 0 h.0) (zeros_true x h.1)

true_zeros : (x : List ℕ) → list_all is_zero x ≡ true → AllByRecursion IsZero x
true_zeros [] h = tt
true_zeros (o ∷ x) h = let p = and_parts (o == 0) (list_all is_zero x) h in (eqb-true o 0 p.0, true_zeros x p.1)

pub end_true : (x : List ℕ) → length x ≤ 3 → AllByRecursion IsZero x → is_end x ≡ true
end_true x l b = and_from (nat_le (length x) 3) (list_all is_zero x) (le-leb (length x) 3 l) (zeros_true x b)

pub end_parts : (x : List ℕ) → is_end x ≡ true → (length x ≤ 3) × AllByRecursion IsZero x
end_parts x h = let p = and_parts (nat_le (length x) 3) (list_all is_zero x) h in (leb-true (length x) 3 p.0, true_zeros x p.1)

-- a block doesn't end at a marker
pub blank_unmarked : (x : List ℕ) → AllByRecursion IsZero x → is_marked x ≡ true → ⊥
blank_unmarked [] h m = cc
blank_unmarked (o ∷ x) h m =
    let p = and_parts (nat_le 1 (length (o ∷ x))) (o == marker) m in let q = eqb-true o marker p.1 in let z = h.0 in omega arith

pub marked_no_end : (x : List ℕ) → is_marked x ≡ true → is_end x ≡ false
marked_no_end x m = false_from_ne_true (is_end x) (λ t. blank_unmarked x (end_parts x t).1 m)

-- ---- one step

module _ (n : ℕ) (x : List ℕ) where
  pub step_none : is_dataset x ≡ false → sequence_of (suc n) x ≡ None
  unfolding sequence_of
  step_none h = cond-false _ _ _ h

  pub step_end : is_dataset x ≡ true → is_end (drop (size x) x) ≡ true → sequence_of (suc n) x ≡ Some (dataset x ∷ [])
  unfolding sequence_of
  step_end h k = cond-true _ _ _ h ∙ ap (option_map (λ (ds : List DataSet). dataset x ∷ ds)) (cond-true _ _ _ k)

  pub step_more : is_dataset x ≡ true → is_end (drop (size x) x) ≡ false
      → sequence_of (suc n) x ≡ option_map (λ (ds : List DataSet). dataset x ∷ ds) (sequence_of n (drop (size x) x))
  unfolding sequence_of
  step_more h k = cond-true _ _ _ h ∙ ap (option_map (λ (ds : List DataSet). dataset x ∷ ds)) (cond-false _ _ _ k)

-- ---- from encodings

-- a DataSet and what follows it
pub after_begins : (d : DataSet) (a y : List ℕ) → IsEncoding d a → drop (size (a ++ y)) (a ++ y) ≡ y
after_begins d a y s = drop_at a y (size (a ++ y)) (sym (encoded_begins d a y s).sized)

pub five_octets : (d : DataSet) (a : List ℕ) → IsEncoding d a → 5 ≤ length a
five_octets d a s = let e = (encoded_begins d a [] s).sized in omega arith

pub marked_encoding : (d : DataSet) (a y : List ℕ) → IsEncoding d a → is_marked (a ++ y) ≡ true
marked_encoding d a y s = (dataset_holds (a ++ y) (encoded_begins d a y s).is).marked

pub encodes_long : (ds : List DataSet) (a : List ℕ) → Encodes ds a → 5 * length ds ≤ length a
encodes_long [] a h = omega arith
encodes_long (d ∷ ds) a (b, c, e, s, t) =
    let l = five_octets d b s in let m = encodes_long ds c t in let k = ap length e ∙ length-append b c in omega arith

encoded_last : (n : ℕ) (d : DataSet) (a zeros : List ℕ) → IsEncoding d a → is_end zeros ≡ true
    → sequence_of (suc n) (a ++ zeros) ≡ Some (d ∷ [])
encoded_last n d a zeros s e =
    let b = encoded_begins d a zeros s in
    step_end n (a ++ zeros) b.is (subst (λ (y : List ℕ). is_end y ≡ true) (sym (after_begins d a zeros s)) e)
    ∙ ap (λ (z : DataSet). Some (z ∷ [])) b.read

encoded_more : (n : ℕ) (d : DataSet) (ds : List DataSet) (a y : List ℕ) → IsEncoding d a → is_end y ≡ false → sequence_of n y ≡ Some ds
    → sequence_of (suc n) (a ++ y) ≡ Some (d ∷ ds)
encoded_more n d ds a y s e t =
    let b = encoded_begins d a y s in
    let k = after_begins d a y s in
    step_more n (a ++ y) b.is (subst (λ (z : List ℕ). is_end z ≡ false) (sym k) e)
    ∙ ap (option_map (λ (z : List DataSet). dataset (a ++ y) ∷ z)) (ap (sequence_of n) k ∙ t) ∙ ap (λ (z : DataSet). Some (z ∷ ds)) b.read

-- An encoded sequence with zeros after it is read.
pub encodes_read : (n : ℕ) (ds : List DataSet) (a zeros : List ℕ) → Encodes ds a → 1 ≤ length ds → length ds ≤ n → length zeros ≤ 3
    → AllByRecursion IsZero zeros → sequence_of n (a ++ zeros) ≡ Some ds
encodes_read n [] a zeros h l m s b = absurd (omega arith)
encodes_read zero (d ∷ ds) a zeros h l m s b = absurd (omega arith)
encodes_read (suc n) (d ∷ []) a zeros (c, e, p, q, r) l m s b =
    ap (λ (z : List ℕ). sequence_of (suc n) (z ++ zeros)) (p ∙ ap (λ (z : List ℕ). c ++ z) r ∙ append-nil c)
    ∙ encoded_last n d c zeros q (end_true zeros s b)
encodes_read (suc n) (d ∷ f ∷ ds) a zeros (c, e, p, q, r) l m s b =
    let marked : is_marked (e ++ zeros) ≡ true =
    subst (λ (z : List ℕ). is_marked z ≡ true) (sym (ap (λ (z : List ℕ). z ++ zeros) r.2 ∙ append_assoc r.0 r.1 zeros))
    (marked_encoding f r.0 (r.1 ++ zeros) r.3) in
    ap (sequence_of (suc n)) (ap (λ (z : List ℕ). z ++ zeros) p ∙ append_assoc c e zeros)
    ∙ encoded_more n d (f ∷ ds) c (e ++ zeros) q (marked_no_end (e ++ zeros) marked)
    (encodes_read n (f ∷ ds) e zeros r (omega arith) (omega arith) s b)

-- ---- to encodings

-- the block is a sequence's encodings and at most three zero bytes
pub record Parsed (ds : List DataSet) (x : List ℕ) : Type 0 where
  pub front : List ℕ
  pub zeros : List ℕ
  pub whole : x ≡ front ++ zeros
  pub encodes : Encodes ds front
  pub some : 1 ≤ length ds
  pub short : length zeros ≤ 3
  pub blank : AllByRecursion IsZero zeros

pub parsed_end : (x : List ℕ) → is_dataset x ≡ true → is_end (drop (size x) x) ≡ true → Parsed (dataset x ∷ []) x
parsed_end x h k =
    let e = end_parts (drop (size x) x) k in record {
      front = take (size x) x;
      zeros = drop (size x) x;
      whole = sym (take-append-drop (size x) x);
      encodes = (take (size x) x, [], sym (append-nil (take (size x) x)), dataset_encoded x h, refl);
      some = omega arith;
      short = e.0;
      blank = e.1;
    }

pub parsed_more : (x : List ℕ) (ds : List DataSet) → is_dataset x ≡ true → Parsed ds (drop (size x) x) → Parsed (dataset x ∷ ds) x
parsed_more x ds h p = record {
  front = take (size x) x ++ p.front;
  zeros = p.zeros;
  whole = sym (take-append-drop (size x) x) ∙ ap (λ (z : List ℕ). take (size x) x ++ z) p.whole
      ∙ sym (append_assoc (take (size x) x) p.front p.zeros);
  encodes = (take (size x) x, p.front, refl, dataset_encoded x h, p.encodes);
  some = omega arith;
  short = p.short;
  blank = p.blank;
}

after_step : (x : List ℕ) (ds : List DataSet) (z : Option (List DataSet)) → is_dataset x ≡ true
    → ((es : List DataSet) → z ≡ Some es → Parsed es (drop (size x) x)) →
    option_map (λ (es : List DataSet). dataset x ∷ es) z ≡ Some ds → Parsed ds x
after_step x ds None h f e = cc
after_step x ds (Some es) h f e =
    let q : dataset x ∷ es ≡ ds = cc in subst (λ (z : List DataSet). Parsed z x) q (parsed_more x es h (f es refl))

-- A sequence that is read is encoded by the bytes, with zeros after it.
pub read_parsed : (n : ℕ) (x : List ℕ) (ds : List DataSet) → sequence_of n x ≡ Some ds → Parsed ds x
unfolding sequence_of
read_parsed zero x ds e = cc
read_parsed (suc n) x ds e = elim (cases_Bool (is_dataset x)) [
  | inl h ↦ elim (cases_Bool (is_end (drop (size x) x))) [
    | inl k ↦ let s : Some (dataset x ∷ []) ≡ Some ds =
        sym (step_end n x h k) ∙ e in let q : dataset x ∷ [] ≡ ds = cc in subst (λ (z : List DataSet). Parsed z x) q (parsed_end x h k)
    | inr k ↦ after_step x ds (sequence_of n (drop (size x) x)) h (λ es q. read_parsed n (drop (size x) x) es q) (sym (step_more n x h k)
        ∙ e)
  ]
  | inr h ↦ let clash : None ≡ Some ds = sym (step_none n x h) ∙ e in absurd (cc)
]
