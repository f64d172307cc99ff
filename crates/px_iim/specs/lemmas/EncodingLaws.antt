-- The DataSet at the start of some bytes, decoded from an encoding, and an encoding of a decoded one.
use Rattle.std.proofs.Common.{◌≡◌, ◌<◌, ◌≤◌, ◌⊎◌, ◌+◌, ◌-◌, ◌==◌, ℕ, suc, nat_lt, nat_le, true, false, ◌&&◌, inl, inr, refl, sym, ap, subst}
use Rattle.std.proofs.Common.{◌∙◌, arith, eqb-true, eq-eqb, ltb-true, ltb-false, lt-ltb, leb-true, le-leb, List, [], ◌∷◌, ◌++◌, length}
use Rattle.std.proofs.Common.{take, drop, take_at, drop_at, take-add, length-append, length-take-le, length-drop, append_assoc, slice_index}
use Rattle.std.proofs.lemmas.Bool.{cond-true, cond-false, cases_Bool, and_parts, and_from, or_cases, or_left, or_right, false_from_ne_true}
use Rattle.std.proofs.lemmas.List.{drop-take, drop-append-le}
use Rattle.px_bytes.specs.declared.Order.TheVariants.{Most}
use Rattle.px_bytes.specs.Numbers.{number}
use Rattle.px_bytes.specs.lemmas.NumberLaws.{number_take}
use Rattle.px_bytes.specs.Parts.{part}
use Rattle.px_iim.specs.DataSet.{DataSet, marker, top_bit, IsStandardCount, IsExtendedCount, IsEncoding}
use Rattle.px_iim.specs.Record.{form, extra, count, size, is_marked, has_form, is_dataset, dataset}

-- a number depends on nothing after it
pub number_front : (k : ℕ) (xs rest : List ℕ) → k ≤ length xs → number Most k (xs ++ rest) ≡ number Most k xs
number_front k xs rest h = sym (number_take Most k (length xs) (xs ++ rest) h) ∙ ap (number Most k) (take_at xs rest (length xs) refl)

-- ---- the count

-- the length at x has e further bytes and is n
pub record HasLength (x : List ℕ) (e n : ℕ) : Type 0 where
  pub further : extra x ≡ e
  pub length_is : count x ≡ n
  pub formed : has_form x ≡ true

module _ (x : List ℕ) where
  pub has_standard_length : (n : ℕ) → form x ≡ n → n < top_bit → HasLength x 0 n
  has_standard_length n e l =
      let t : nat_lt (form x) top_bit ≡ true = lt-ltb (form x) top_bit (omega arith) in record {
        further = cond-true _ _ _ t;
        length_is = cond-true _ _ _ t ∙ e;
        formed = or_left (nat_lt (form x) top_bit) _ t;
      }

  pub is_long : top_bit ≤ form x → nat_lt (form x) top_bit ≡ false
  is_long l = false_from_ne_true (nat_lt (form x) top_bit) (λ t. let m = ltb-true (form x) top_bit t in omega arith)

  pub extra_long : top_bit ≤ form x → extra x ≡ form x - top_bit
  extra_long l = cond-false _ _ _ (is_long l)

  pub has_extended_length : (k n : ℕ) → 1 ≤ k → k ≤ 4 → form x ≡ top_bit + k → number Most k (drop 5 x) ≡ n → HasLength x k n
  has_extended_length k n least most e m =
      let f = is_long (omega arith) in
      let further : extra x ≡ k = extra_long (omega arith) ∙ omega arith in record {
        further = further;
        length_is = cond-false _ _ _ f ∙ ap (λ (j : ℕ). number Most j (drop 5 x)) further ∙ m;
        formed = or_right (nat_lt (form x) top_bit) _ (and_from (nat_le 1 (extra x)) (nat_le (extra x) 4)
            (le-leb 1 (extra x) (omega arith)) (le-leb (extra x) 4 (omega arith)));
      }

-- ---- a DataSet

-- the conditions of is_dataset
pub record Holds (x : List ℕ) : Type 0 where
  pub marked : is_marked x ≡ true
  pub five : 5 ≤ length x
  pub formed : has_form x ≡ true
  pub counted : 5 + extra x ≤ length x
  pub whole : size x ≤ length x

pub holds_dataset : (x : List ℕ) → Holds x → is_dataset x ≡ true
unfolding is_dataset
holds_dataset x h =
    and_from _ (nat_le (size x) (length x))
    (and_from _ (nat_le (5 + extra x) (length x))
    (and_from _ (has_form x) (and_from (is_marked x) (nat_le 5 (length x)) h.marked (le-leb 5 (length x) h.five)) h.formed)
    (le-leb (5 + extra x) (length x) h.counted))
    (le-leb (size x) (length x) h.whole)

pub dataset_holds : (x : List ℕ) → is_dataset x ≡ true → Holds x
unfolding is_dataset
dataset_holds x h =
    let d = and_parts _ (nat_le (size x) (length x)) h in
    let c = and_parts _ (nat_le (5 + extra x) (length x)) d.0 in
    let b = and_parts _ (has_form x) c.0 in
    let a = and_parts (is_marked x) (nat_le 5 (length x)) b.0 in record {
      marked = a.0;
      five = leb-true 5 (length x) a.1;
      formed = b.1;
      counted = leb-true (5 + extra x) (length x) c.1;
      whole = leb-true (size x) (length x) d.1;
    }

-- ---- from an encoding

-- the DataSet d is at the start of x, in n bytes
pub record Begins (d : DataSet) (n : ℕ) (x : List ℕ) : Type 0 where
  pub is : is_dataset x ≡ true
  pub read : dataset x ≡ d
  pub sized : size x ≡ n

module _ (r n : ℕ) (c o b : List ℕ) where
  abbrev pub front : List ℕ
  front = marker ∷ r ∷ n ∷ c

  abbrev pub block : List ℕ
  block = marker ∷ r ∷ n ∷ (c ++ (o ++ b))

  begins_with_length : (e : ℕ) → length c ≡ 2 + e → HasLength block e (length o)
      → Begins (record { rec = r; number = n; octets = o }) (5 + e + length o) block
  unfolding dataset
  begins_with_length e l t =
      let long : length block ≡ 5 + e + (length o + length b) =
      let p = length-append c (o ++ b) in let q = length-append o b in omega arith in
      let place : length front ≡ 5 + extra block = let f = t.further in omega arith in
      let sized : size block ≡ 5 + e + length o = let f = t.further in let g = t.length_is in omega arith in
      let body : part block (5 + extra block) (count block) ≡ o =
      ap (take (count block)) (drop_at front (o ++ b) (5 + extra block) place) ∙ take_at o b (count block) (sym t.length_is) in record {
        is = holds_dataset block (record {
          marked = and_from (nat_le 1 (length block)) (slice_index block 0 == marker) (le-leb 1 (length block) (omega arith))
              (eq-eqb marker marker refl);
          five = omega arith;
          formed = t.formed;
          counted = let f = t.further in omega arith;
          whole = omega arith;
        });
        read = λ i. record { rec = r; number = n; octets = body i };
        sized = sized;
      }

  has_one_length : IsStandardCount (length o) c → HasLength block 0 (length o)
  has_one_length h = has_standard_length block (length o) (number_front 2 c (o ++ b) (let l = h.0 in omega arith) ∙ h.1) h.2

  has_more_length : (h : IsExtendedCount (length o) c) → HasLength block h.0 (length o)
  has_more_length (k, least, most, long, formed, length_is) =
      let tail : drop 2 (c ++ (o ++ b)) ≡ drop 2 c ++ (o ++ b) = drop-append-le 2 c (o ++ b) (omega arith) in
      let size_of : length (drop 2 c) ≡ k = length-drop 2 c ∙ omega arith in
      has_extended_length block k (length o) least most
      (number_front 2 c (o ++ b) (omega arith) ∙ formed)
      (ap (number Most k) tail ∙ number_front k (drop 2 c) (o ++ b) (omega arith) ∙ length_is)

  pub begins_block : IsStandardCount (length o) c ⊎ IsExtendedCount (length o) c →
      Begins (record { rec = r; number = n; octets = o }) (length (marker ∷ r ∷ n ∷ (c ++ o))) block
  begins_block (inl h) =
      let l = h.0 in let j = length-append c o in
      subst (λ (m : ℕ). Begins (record {
        rec = r;
        number = n;
        octets =
            o;
      }) m block) (omega arith) (begins_with_length 0 h.0 (has_one_length h))
  begins_block (inr h) =
      let l = h.3 in let j = length-append c o in
      subst (λ (m : ℕ). Begins (record {
        rec = r;
        number = n;
        octets =
            o;
      }) m block) (omega arith) (begins_with_length h.0 h.3 (has_more_length h))

-- An encoded DataSet is read, whatever follows it.
pub encoded_begins : (d : DataSet) (a b : List ℕ) → IsEncoding d a → Begins d (length a) (a ++ b)
encoded_begins d a b (c, e, h) =
    subst (λ (y : List ℕ). Begins d (length y) (y ++ b)) (sym e)
    (subst (Begins d (length (marker ∷ d.rec ∷ d.number ∷ (c ++ d.octets))))
    (ap (λ (y : List ℕ). marker ∷ d.rec ∷ d.number ∷ y) (sym (append_assoc c d.octets b)))
    (begins_block d.rec d.number c d.octets b h))

-- ---- to an encoding

module _ (a r n : ℕ) (y : List ℕ) where
  abbrev pub octets : List ℕ
  octets = a ∷ r ∷ n ∷ y

  abbrev pub counted : List ℕ
  counted = take (2 + extra octets) y

  abbrev pub length_is : List ℕ
  length_is = part octets (5 + extra octets) (count octets)

  after : drop (5 + extra octets) octets ≡ drop (2 + extra octets) y
  after = let m : 5 + extra octets ≡ suc (suc (suc (2 + extra octets))) = omega arith in ap (λ (j : ℕ). drop j octets) m

  length-counted : Holds octets → length counted ≡ 2 + extra octets
  length-counted h = let c = h.counted in length-take-le (2 + extra octets) y (omega arith)

  length-length_is : Holds octets → length length_is ≡ count octets
  length-length_is h =
      let w = h.whole in let c = h.counted in
      let l : length (drop (5 + extra octets) octets) ≡ length octets - (5 + extra octets) = length-drop (5 + extra octets) octets in
      length-take-le (count octets) (drop (5 + extra octets) octets) (omega arith)

  number-counted : number Most 2 counted ≡ form octets
  number-counted = number_take Most 2 (2 + extra octets) y (omega arith)

  cut : take (size octets) octets ≡ a ∷ r ∷ n ∷ (counted ++ length_is)
  cut =
      let m : size octets ≡ suc (suc (suc ((2 + extra octets) + count octets))) = omega arith in
      ap (λ (j : ℕ). take j octets) m
      ∙ ap (λ (z : List ℕ). a ∷ r ∷ n ∷ z) (take-add (2 + extra octets) (count octets) y
      ∙ ap (λ (z : List ℕ). counted ++ take (count octets) z) (sym after))

  head_marked : Holds octets → a ≡ marker
  head_marked h = let p = and_parts (nat_le 1 (length octets)) (a == marker) h.marked in eqb-true a marker p.1

  counts_one : Holds octets → nat_lt (form octets) top_bit ≡ true → IsStandardCount (length length_is) counted
  counts_one h t =
      let e : extra octets ≡ 0 = cond-true _ _ _ t in
      let k : count octets ≡ form octets = cond-true _ _ _ t in
      let l = length-counted h in
      let m = length-length_is h in
      let f = ltb-true (form octets) top_bit t in
      (omega arith, number-counted ∙ sym k ∙ sym m, omega arith)

  counts_more : Holds octets → nat_lt (form octets) top_bit ≡ false → IsExtendedCount (length length_is) counted
  counts_more h f =
      let long : top_bit ≤ form octets = ltb-false (form octets) top_bit f in
      let e : extra octets ≡ form octets - top_bit = extra_long octets long in
      let k : count octets ≡ number Most (extra octets) (drop 5 octets) = cond-false _ _ _ f in
      let range : (nat_le 1 (extra octets) && nat_le (extra octets) 4) ≡ true =
      elim (or_cases (nat_lt (form octets) top_bit) (nat_le 1 (extra octets) && nat_le (extra octets) 4) h.formed) [
        | inl t ↦ absurd
            (cc)
        | inr t ↦ t
      ] in
      let p = and_parts (nat_le 1 (extra octets)) (nat_le (extra octets) 4) range in (
        extra octets,
        leb-true 1 (extra octets) p.0,
        leb-true (extra octets) 4 p.1,
        length-counted h,
        number-counted ∙ omega arith,
        ap (number Most (extra octets)) (drop-take 2 (extra octets) y)
            ∙ number_take Most (extra octets) (extra octets) (drop 2 y) (omega arith) ∙ sym k ∙ sym (length-length_is h),
      )

  encoded_octets : Holds octets → IsEncoding (dataset octets) (take (size octets) octets)
  unfolding dataset
  encoded_octets h = (
    counted,
    cut ∙ ap (λ (z : ℕ). z ∷ r ∷ n ∷ (counted ++ length_is)) (head_marked h),
    elim (cases_Bool (nat_lt (form octets) top_bit)) [ inl t ↦ inl (counts_one h t) | inr f ↦ inr (counts_more h f) ],
  )

-- A DataSet that is read is encoded by its bytes.
pub dataset_encoded : (x : List ℕ) → is_dataset x ≡ true → IsEncoding (dataset x) (take (size x) x)
dataset_encoded [] h = let f = (dataset_holds [] h).five in absurd (omega arith)
dataset_encoded (a ∷ []) h = let f = (dataset_holds (a ∷ []) h).five in absurd (omega arith)
dataset_encoded (a ∷ r ∷ []) h = let f = (dataset_holds (a ∷ r ∷ []) h).five in absurd (omega arith)
dataset_encoded (a ∷ r ∷ n ∷ y) h = encoded_octets a r n y (dataset_holds (a ∷ r ∷ n ∷ y) h)
