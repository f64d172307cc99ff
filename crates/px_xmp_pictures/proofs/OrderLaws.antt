-- Portions that follow one another stand in one order.
use Rattle.std.proofs.Common.{◌≡◌, ◌≤◌, ◌<◌, ◌+◌, ◌⊎◌, ◌∙◌, ℕ, suc, true, false, inl, inr, refl, sym, ap, ap₂, subst, subst₂, arith}
use Rattle.std.proofs.Common.{List, [], ◌∷◌, Bool, length, le_refl}
use Rattle.std.proofs.Common.{Ordering, Less, Equal, Greater, nat_cmp, is_lt}
use Rattle.std.specs.Ordering.{ordering_then}
use Rattle.std.specs.Prelude.{⊤, nat_eq, ◌&&◌, cond, map, if◌then◌else◌}
use Rattle.std.specs.List.{AllByRecursion, sum_by, flat_map}
use Rattle.std.specs.List.Sorted.{IsPermutation, IsNonDecreasingBy}
use Rattle.std.proofs.Math.ListN.{get_or}
use Rattle.std.proofs.lemmas.Bool.{and_parts, and_from, eqb-true, eq-eqb, lt-ltb, cases_Bool, cases_lt}
use Rattle.std.proofs.lemmas.List.Sums.{sum_by-cons}
use Rattle.std.proofs.lemmas.List.Sorted.{sum_by-IsPermutation}
use Rattle.px_bytes.specs.Parts.{limit}
use Rattle.px_jpeg.specs.declared.pieces.Piece.{Piece}
use Rattle.px_xmp_pictures.specs.Extension.{portion_of, text_of, Follow, IsExtension}
use Rattle.px_xmp_pictures.specs.declared.portions.Portion.{Portion}

-- none begins before an offset
abbrev Above : ℕ → List Portion → Type 0
Above n qs = AllByRecursion (λ q. n ≤ q.offset) qs

-- each begins no later than those after it
abbrev pub Rises : List Portion → Type 0
Rises [] = ⊤
Rises (q ∷ qs) = Above q.offset qs × Rises qs

-- two lists have the same portions
abbrev Balance : List Portion → List Portion → Type 0
Balance xs ys = (f : Portion → ℕ) → sum_by f xs ≡ sum_by f ys

-- ---- one portion

same : Portion → Portion → Bool
same p q = nat_eq p.offset q.offset && (nat_eq p.total q.total && (nat_eq p.start q.start && nat_eq p.size q.size))

fields_same : (p q : Portion) → p.offset ≡ q.offset → p.total ≡ q.total → p.start ≡ q.start → p.size ≡ q.size → p ≡ q
fields_same p q a b c d =
    ap (λ (n : ℕ). let r : Portion = record { offset = n; total = p.total; start = p.start; size = p.size } in r) a
    ∙ ap (λ (n : ℕ). let r : Portion = record { offset = q.offset; total = n; start = p.start; size = p.size } in r) b
    ∙ ap (λ (n : ℕ). let r : Portion = record { offset = q.offset; total = q.total; start = n; size = p.size } in r) c
    ∙ ap (λ (n : ℕ). let r : Portion = record { offset = q.offset; total = q.total; start = q.start; size = n } in r) d

same_is : (p q : Portion) → same p q ≡ true → p ≡ q
unfolding same
same_is p q h =
    let a = and_parts (nat_eq p.offset q.offset) (nat_eq p.total q.total && (nat_eq p.start q.start && nat_eq p.size q.size)) h in
    let b = and_parts (nat_eq p.total q.total) (nat_eq p.start q.start && nat_eq p.size q.size) a.1 in
    let c = and_parts (nat_eq p.start q.start) (nat_eq p.size q.size) b.1 in
    fields_same p q (eqb-true p.offset q.offset a.0) (eqb-true p.total q.total b.0) (eqb-true p.start q.start c.0)
    (eqb-true p.size q.size c.1)

same_itself : (p : Portion) → same p p ≡ true
unfolding same
same_itself p =
    and_from _ _ (eq-eqb p.offset p.offset refl)
    (and_from _ _ (eq-eqb p.total p.total refl) (and_from _ _ (eq-eqb p.start p.start refl) (eq-eqb p.size p.size refl)))

-- ---- whether it is in a list

ones : Portion → Portion → ℕ
ones p q = if same q p then 1 else 0

ones_itself : (p : Portion) → ones p p ≡ 1
unfolding ones
ones_itself p = ap (λ (b : Bool). let n : ℕ = if b then 1 else 0 in n) (same_itself p)

-- it is this one or isn't
one_cases : (p q : Portion) → (q ≡ p) ⊎ (ones p q ≡ 0)
unfolding ones
one_cases p q = elim (cases_Bool (same q p)) [
  | inl t ↦ inl (same_is q p t)
  | inr f ↦ inr (ap (λ (b : Bool). let n : ℕ = if b then 1 else 0 in n) f)
]

none_below : (p : Portion) (n : ℕ) (xs : List Portion) → Above n xs → 0 < sum_by (ones p) xs → n ≤ p.offset
none_below p n [] h k = absurd (omega arith)
none_below p n (q ∷ xs) h k = elim (one_cases p q) [
  | inl e ↦ subst (λ (r : Portion). n ≤ r.offset) e h.0
  | inr z ↦ none_below p n xs h.1 (let e = sum_by-cons (ones p) q xs in omega (arith, e, z, k))
]

-- the first of a list that rises begins no later than any of it
first_below : (p q : Portion) (xs : List Portion) → Rises (q ∷ xs) → 0 < sum_by (ones p) (q ∷ xs) → q.offset ≤ p.offset
first_below p q xs h k = none_below p q.offset (q ∷ xs) (le_refl q.offset, h.0) k

has_first : (p : Portion) (xs : List Portion) → 0 < sum_by (ones p) (p ∷ xs)
has_first p xs = let e = sum_by-cons (ones p) p xs in let o = ones_itself p in omega (arith, e, o)

-- ---- portions that follow one another

above_more : (m n : ℕ) (xs : List Portion) → m ≤ n → Above n xs → Above m xs
above_more m n [] h k = tt
above_more m n (q ∷ xs) h k = (omega (arith, h, k.0), above_more m n xs h k.1)

follow_above : (b : List ℕ) (total at : ℕ) (xs : List Portion) → Follow b total at xs → Above at xs
follow_above b total at [] h = tt
follow_above b total at (q ∷ xs) h =
    let next = at + length (text_of b q) in
    (omega (arith, h.1), above_more at next xs (omega arith) (follow_above b total next xs h.3))

-- those after the first begin later
follow_later : (b : List ℕ) (total at : ℕ) (q : Portion) (xs : List Portion) → Follow b total at (q ∷ xs) → Above (suc q.offset) xs
follow_later b total at q xs h =
    above_more (suc q.offset) (at + length (text_of b q)) xs (omega (arith, h.1, h.2))
    (follow_above b total (at + length (text_of b q)) xs h.3)

pub follow_rises : (b : List ℕ) (total at : ℕ) (xs : List Portion) → Follow b total at xs → Rises xs
follow_rises b total at [] h = tt
follow_rises b total at (q ∷ xs) h = (
  above_more q.offset (suc q.offset) xs (omega arith) (follow_later b total at q xs h),
  follow_rises b total (at + length (text_of b q)) xs h.3,
)

-- ---- two lists

tail_balance : (p : Portion) (xs ys : List Portion) → Balance (p ∷ xs) (p ∷ ys) → Balance xs ys
tail_balance p xs ys h f = let e = h f in let a = sum_by-cons f p xs in let b = sum_by-cons f p ys in omega (arith, e, a, b)

same_first : (b : List ℕ) (total at : ℕ) (p q : Portion) (xs ys : List Portion) → Follow b total at (p ∷ xs) → Rises (q ∷ ys)
    → Balance (p ∷ xs) (q ∷ ys) → q ≡ p
same_first b total at p q xs ys h r e = elim (one_cases q p) [
  | inl t ↦ sym t
  | inr z ↦
      let low : q.offset ≤ p.offset = first_below p q ys r (subst (λ (n : ℕ). 0 < n) (e (ones p)) (has_first p xs)) in
      let in_all : 0 < sum_by (ones q) (p ∷ xs) = subst (λ (n : ℕ). 0 < n) (sym (e (ones q))) (has_first q ys) in
      let parts = sum_by-cons (ones q) p xs in
      let high : suc p.offset ≤ q.offset =
      none_below q (suc p.offset) xs (follow_later b total at p xs h) (omega (arith, in_all, parts, z)) in
      absurd (omega arith)
]

balance_once : (b : List ℕ) (total at : ℕ) (xs ys : List Portion) → Follow b total at xs → Rises ys → Balance xs ys → xs ≡ ys
balance_once b total at [] [] h r e = refl
balance_once b total at [] (q ∷ ys) h r e =
    let all = e (λ _. 1) in let a = sum_by-cons (λ (p : Portion). 1) q ys in absurd (omega (arith, all, a))
balance_once b total at (p ∷ xs) [] h r e =
    let all = e (λ _. 1) in let a = sum_by-cons (λ (q : Portion). 1) p xs in absurd (omega (arith, all, a))
balance_once b total at (p ∷ xs) (q ∷ ys) h r e =
    let same : q ≡ p = same_first b total at p q xs ys h r e in
    let e2 : Balance (p ∷ xs) (p ∷ ys) = subst (λ (z : Portion). Balance (p ∷ xs) (z ∷ ys)) same e in
    ap (λ (zs : List Portion). p ∷ zs)
    (balance_once b total (at + length (text_of b p)) xs ys h.3 r.1 (tail_balance p xs ys e2))
    ∙ ap (λ (z : Portion). z ∷ ys) (sym same)

-- two orders of the same portions: one in which they follow one another, and one that rises
pub order_once : (b : List ℕ) (total : ℕ) (all xs ys : List Portion) → IsPermutation all xs → IsPermutation all ys → Follow b total 0 xs
    → Rises ys → xs ≡ ys
order_once b total all xs ys p q h r =
    balance_once b total 0 xs ys h r (λ f. sum_by-IsPermutation f all xs p ∙ sym (sum_by-IsPermutation f all ys q))

-- the pieces with a name are one extension
pub extension_once : (b : List ℕ) (ps : List Piece) (name x y : List ℕ) → IsExtension b ps name x → IsExtension b ps name y → x ≡ y
extension_once b ps name x y i j =
    i.joined
    ∙ ap (flat_map (text_of b))
    (order_once b (length x) _ i.ordered j.ordered i.all j.all i.follow (follow_rises b (length y) 0 j.ordered j.follow))
    ∙ sym j.joined

-- ---- a list that is sorted

rest_sorted : (q : Portion) (qs : List Portion) → IsNonDecreasingBy (λ (p : Portion). p.offset) (q ∷ qs)
    → IsNonDecreasingBy (λ (p : Portion). p.offset) qs
rest_sorted q qs h i j d a b = h (suc i) (suc j) d (omega arith) (omega arith)

above_each : (n : ℕ) (qs : List Portion) → ((j : ℕ) (d : Portion) → j < length qs → n ≤ (get_or qs j d).offset) → Above n qs
above_each n [] h = tt
above_each n (q ∷ qs) h = (h 0 q (omega arith), above_each n qs (λ j d b. h (suc j) d (omega arith)))

pub sorted_rises : (qs : List Portion) → IsNonDecreasingBy (λ (p : Portion). p.offset) qs → Rises qs
sorted_rises [] h = tt
sorted_rises (q ∷ qs) h =
    (above_each q.offset qs (λ j d b. h 0 (suc j) d (omega arith) (omega arith)), sorted_rises qs (rest_sorted q qs h))

-- where the first of two orders decides
pub first_le : (a b : ℕ) (o : Ordering) → is_lt (ordering_then (nat_cmp a b) o) ≡ false → b ≤ a
first_le a b o h = elim (cases_lt a b) [
  | inl l ↦
      let less : nat_cmp a b ≡ Less =
      ap (λ (t : Bool). let r : Ordering = cond t Less (cond (nat_eq a b) Equal Greater) in r) (lt-ltb a b l) in
      let clash : true ≡ false = sym (ap (λ (r : Ordering). is_lt (ordering_then r o)) less) ∙ h in
      absurd (cc)
  | inr g ↦ g
]

-- ---- an extension, if its portions are put in order

module _ (b : List ℕ) (ps : List Piece) (name : List ℕ) (items ordered : List Portion) (read : items ≡ map (portion_of b) ps)
    (all : IsPermutation items ordered) (up : IsNonDecreasingBy (λ (p : Portion). p.offset) ordered) (x : List ℕ)
    (i : IsExtension b ps name x) where
  in_this_order : i.ordered ≡ ordered
  in_this_order =
      order_once b (length x) (map (portion_of b) ps) i.ordered ordered i.all
      (subst (λ (z : List Portion). IsPermutation z ordered) read all)
      i.follow (sorted_rises ordered up)

  pub follow_in_order : Follow b (length x) 0 ordered
  follow_in_order = subst (λ (z : List Portion). Follow b (length x) 0 z) in_this_order i.follow

  pub joined_in_order : x ≡ flat_map (text_of b) ordered
  joined_in_order = i.joined ∙ ap (λ (z : List Portion). flat_map (text_of b) z) in_this_order

-- ---- the same in a slice of the portions, and in the same octets

module _ (b c x : List ℕ) where
  pub same_text : (y : List ℕ) (slice ordered : List Portion) → c ≡ b → slice ≡ ordered → y ≡ flat_map (text_of c) slice
      → x ≡ flat_map (text_of b) ordered → y ≡ x
  same_text y slice ordered e s k j = k ∙ ap₂ (λ (u : List ℕ) (v : List Portion). flat_map (text_of u) v) e s ∙ sym j

  pub not_long : (slice ordered : List Portion) → c ≡ b → slice ≡ ordered → limit < length (flat_map (text_of c) slice) → length x ≤ limit
      → x ≡ flat_map (text_of b) ordered → ⊥
  not_long slice ordered e s long short j =
      let size = ap length (same_text (flat_map (text_of c) slice) slice ordered e s refl j) in absurd (omega (arith, size, long, short))

  pub follow_slice : (slice again ordered : List Portion) (total : ℕ) → c ≡ b → slice ≡ ordered → again ≡ ordered
      → total ≡ length (flat_map (text_of c) slice) → Follow b (length x) 0 ordered → x ≡ flat_map (text_of b) ordered
      → Follow c total 0 again
  follow_slice slice again ordered total e s t size follow j =
      let whole : total ≡ length x = size ∙ ap length (same_text (flat_map (text_of c) slice) slice ordered e s refl j) in
      subst (λ (n : ℕ). Follow c n 0 again) (sym whole)
      (subst₂ (λ (u : List ℕ) (v : List Portion). Follow u (length x) 0 v) (sym e) (sym t) follow)
