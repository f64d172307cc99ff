-- Lengths of parts that are put one after another, and how they grow.
use Rattle.std.proofs.Common.{◌≡◌, ℕ, zero, suc, ◌+◌, ◌*◌, ◌<◌, ◌≤◌, ◌++◌, List, [], ◌∷◌, length, take, drop, get_or, slice_get, Option, Some}
use Rattle.std.proofs.Common.{None, IfSome, Result, Ok, Err, refl, sym, ap, ◌∙◌, subst, inl, inr, map, option_map, unwrap_or, is_ok}
use Rattle.std.proofs.Common.{if◌then◌else◌, nat_le, le-leb, arith, append_assoc, append-nil, length-append}
use Rattle.std.specs.List.{flat_map, AllByRecursion}
use Rattle.std.proofs.lemmas.Grind.{flat_map-append}
use Rattle.std.proofs.lemmas.List.{take-take, take_at, take-append-drop}
use Rattle.std.proofs.lemmas.Option.{slice_get-map, slice_get-get_or}
use Rattle.px_bytes.specs.Allocations.{enlarged}
use Rattle.px_bytes.specs.Parts.{limit}
use Rattle.px_bytes.specs.Waiting.{Buffer}
use Rattle.px_bytes.specs.lemmas.WaitingLaws.{HasPut, FailsPut, parts_more, put_both, fails_first, fails_second}
use Rattle.px_iim.specs.Writing.{longest_counted, within as within_most}
use Rattle.px_iim.specs.calls.Heads.{Grows, normal_head, AreShort}
use Rattle.px_iim.specs.Group.{Group, Record, IsGroup, IsItem}
use Rattle.px_iim.specs.Record.{normal_dataset, normal_group, normal_iim}
use Rattle.px_iim.specs.calls.View.{item_view}
use Rattle.px_iim.specs.declared.group.Item.{Item}
use Rattle.std.proofs.lemmas.Bool.{cond-true, cond-false, cases_lt, lt-leb}

-- ---- the parts of a list's elements

module _ {X : Type 0} (f : X → List ℕ) (xs : List X) (i : ℕ) (x : X) (read : slice_get xs i ≡ Some x) where
  pub grows_more : (old now new : List ℕ) → now ≡ old ++ flat_map f (take i xs) → new ≡ now ++ f x
      → new ≡ old ++ flat_map f (take (i + 1) xs)
  grows_more old now new e h =
      h ∙ ap (λ (l : List ℕ). l ++ f x) e ∙ append_assoc old (flat_map f (take i xs)) (f x)
      ∙ ap (λ (l : List ℕ). old ++ l) (sym (parts_more f xs i x read))

  pub length_more : length (flat_map f (take (i + 1) xs)) ≡ length (flat_map f (take i xs)) + length (f x)
  length_more = ap length (parts_more f xs i x read) ∙ length-append (flat_map f (take i xs)) (f x)

  pub all_at : (P : X → Type 0) → AllByRecursion P xs → P x
  all_at P a = go xs i read a where
    go : (ys : List X) (j : ℕ) → slice_get ys j ≡ Some x → AllByRecursion P ys → P x
    go [] j e b = absurd (cc)
    go (y ∷ ys) zero e b = let same : y ≡ x = cc in subst P same b.0
    go (y ∷ ys) (suc j) e b = go ys j e b.1

pub length_parts : {X : Type 0} (f : X → List ℕ) (xs : List X) (n : ℕ) → length (flat_map f (take n xs)) ≤ length (flat_map f xs)
length_parts f xs n =
    let whole = ap length (sym (flat_map-append f (take n xs) (drop n xs)) ∙ ap (flat_map f) (take-append-drop n xs)) in
    omega (arith, whole, length-append (flat_map f (take n xs)) (flat_map f (drop n xs)))

-- ---- lengths

pub within_past : (n : ℕ) → longest_counted < n → None ≡ within_most n
within_past n h = sym (cond-false (nat_le n longest_counted) (Some n) None (lt-leb n longest_counted h))

pub within_some : (n m : ℕ) → n ≡ m → m ≤ longest_counted → Some n ≡ within_most m
within_some n m e h = ap (λ (k : ℕ). Some k) e ∙ sym (cond-true (nat_le m longest_counted) (Some m) None (le-leb m longest_counted h))

pub some_within : (n m : ℕ) → Some n ≡ within_most m → (n ≡ m) × (m ≤ longest_counted)
some_within n m e = elim (cases_lt longest_counted m) [
  | inl l ↦ let clash : ◌≡◌ {A = Option ℕ} (Some n) None = e ∙ sym (within_past m l) in absurd (cc)
  | inr l ↦ let same : ◌≡◌ {A = Option ℕ} (Some n) (Some m) = e ∙ sym (within_some m m refl l) in (cc, l)
]

pub none_more : (m n : ℕ) → None ≡ within_most m → m ≤ n → None ≡ within_most n
none_more m n e h = elim (cases_lt longest_counted m) [
  | inl l ↦ within_past n (omega arith)
  | inr l ↦ let clash : ◌≡◌ {A = Option ℕ} None (Some m) = e ∙ sym (within_some m m refl l) in absurd (cc)
]

-- what a loop names if there is no item
abbrev pub no_item : Item
no_item = record { rec = 0; number = 0; octets = record { ref_ptr = (0, 0); now = [] } }

pub within_counted : (o : Option ℕ) (n : ℕ) → o ≡ within_most n → IfSome o (λ t. t ≤ longest_counted)
within_counted None n e = tt
within_counted (Some t) n e = let s = some_within t n e in omega arith

pub item_read : (items : List Item) (i : ℕ) (d : Item) → i < length items
    → slice_get (map item_view items) i ≡ Some (item_view (get_or items i d))
item_read items i d h = slice_get-map item_view items i ∙ ap (option_map item_view) (slice_get-get_or items i d h)

pub group_short : (g : Group) → IsGroup g → AreShort g.items
group_short g h = go g.items h.items where
  go : (xs : List (ℕ × List ℕ)) → AllByRecursion (IsItem g.rec g.number) xs → AreShort xs
  go [] a = tt
  go (x ∷ xs) a = ((a.0).bounded, go xs a.1)

-- ---- a walk over groups: those that are left make the rest of the form

-- the groups that are left begin with x
module _ (i left : Record) (x : Group) (step : i ≡ x ∷ left) (all : List ℕ) where
  pub short_next : AllByRecursion IsGroup i → AreShort x.items
  short_next a = group_short x (let both : AllByRecursion IsGroup (x ∷ left) = subst (AllByRecursion IsGroup) step a in both.0)

  pub whole_next : AllByRecursion IsGroup i → AllByRecursion IsGroup left
  whole_next a = let both : AllByRecursion IsGroup (x ∷ left) = subst (AllByRecursion IsGroup) step a in both.1

  pub length_next : length (normal_iim i) ≡ length (normal_group x) + length (normal_iim left)
  length_next = ap (λ (k : Record). length (normal_iim k)) step ∙ length-append (normal_group x) (normal_iim left)

  rest_next : (out : List ℕ) → out ++ normal_iim i ≡ all → out ++ normal_group x ++ normal_iim left ≡ all
  rest_next out e = append_assoc out (normal_group x) (normal_iim left) ∙ ap (λ (k : Record). out ++ normal_iim k) (sym step) ∙ e

  module _ {W : Type 0} (taken : W → Option (List ℕ)) (a b c : W) (h k : Buffer) where
    -- x was put
    pub put_next : (m : Buffer) (parts : List ℕ) → HasPut taken a b h k parts → parts ++ normal_iim i ≡ all
        → HasPut taken b c k m (normal_group x)
        → (now : List ℕ) × HasPut taken a c h m now × (now ++ normal_iim left ≡ all)
    put_next m parts p e q = (parts ++ normal_group x, put_both taken a b c h k m parts (normal_group x) p q, rest_next parts e)

    -- the put of x failed
    pub put_failed : (parts : List ℕ) → HasPut taken a b h k parts → parts ++ normal_iim i ≡ all → FailsPut taken b c k (normal_group x)
        → FailsPut taken a c h all
    put_failed parts p e q =
        subst (FailsPut taken a c h) (rest_next parts e)
        (fails_first taken a c h (parts ++ normal_group x) (normal_iim left) (fails_second taken a b c h k parts (normal_group x) p q))

  -- x was appended
  pub grows_next : (old now new parts : List ℕ) → now ≡ old ++ parts → parts ++ normal_iim i ≡ all → new ≡ now ++ normal_group x
      → (more : List ℕ) × (new ≡ old ++ more) × (more ++ normal_iim left ≡ all)
  grows_next old now new parts e f h =
      (parts ++ normal_group x, h ∙ ap (λ (l : List ℕ). l ++ normal_group x) e ∙ append_assoc old parts (normal_group x), rest_next parts f)

-- none is left
pub rest_none : (i : Record) (out all : List ℕ) → i ≡ [] → out ++ normal_iim i ≡ all → out ≡ all
rest_none i out all e f = sym (append-nil out) ∙ ap (λ (k : Record). out ++ normal_iim k) (sym e) ∙ f

-- ---- how lengths grow

pub grows_stop : (old now new parts : List ℕ) → now ≡ old ++ parts → take (length now) new ≡ now → take (length old) new ≡ old
grows_stop old now new parts e f =
    let short : length old ≤ length now = omega (arith, ap length e, length-append old parts) in
    sym (take-take (length old) (length now) new short) ∙ ap (take (length old)) (f ∙ e) ∙ take_at old parts (length old) refl

pub grows_item : {A E : Type 0} (r : Result A E) (old now new head octets whole : List ℕ) → now ≡ old ++ head
    → new ≡ (if is_ok r then now ++ octets else now) → head ++ octets ≡ whole → Grows r old new whole
grows_item (Ok x) old now new head octets whole e h w =
    h ∙ ap (λ (l : List ℕ). l ++ octets) e ∙ append_assoc old head octets ∙ ap (λ (l : List ℕ). old ++ l) w
grows_item (Err x) old now new head octets whole e h w = ap (take (length old)) (h ∙ e) ∙ take_at old head (length old) refl

-- a DataSet is its head and its data
pub head_and_data : (rec number : ℕ) (octets head : List ℕ) → head ≡ normal_head rec number (length octets)
    → head ++ octets ≡ normal_dataset rec (number, octets)
unfolding normal_head normal_dataset
head_and_data rec number octets head e = ap (λ (h : List ℕ). h ++ octets) e

-- a length that is counted and no more than the limit
pub within_most_number : (o : Option ℕ) (n l : ℕ) → o ≡ within_most n → l ≡ unwrap_or o (limit + 1) → l ≤ limit → (l ≡ n) × (n ≤ limit)
within_most_number None n l e f h = absurd (omega arith)
within_most_number (Some m) n l e f h = let s = some_within m n e in (omega (arith, s.0), omega (arith, s.0))

pub not_counted : (o : Option ℕ) (n l : ℕ) → o ≡ within_most n → l ≡ unwrap_or o (limit + 1) → limit < l → limit < n
not_counted None n l e f h = elim (cases_lt longest_counted n) [
  | inl k ↦ omega arith
  | inr k ↦ let clash : ◌≡◌ {A = Option ℕ} None (Some n) = e ∙ sym (within_some n n refl k) in absurd (cc)
]
not_counted (Some m) n l e f h = let s = some_within m n e in omega (arith, s.0)

-- the length of a form that isn't too long
pub within_number : (o : Option ℕ) (n l : ℕ) → o ≡ within_most n → l ≡ unwrap_or o 0 → n ≤ longest_counted → l ≡ n
within_number None n l e f h = let clash : ◌≡◌ {A = Option ℕ} None (Some n) = e ∙ sym (within_some n n refl h) in absurd (cc)
within_number (Some m) n l e f h = let s = some_within m n e in omega (arith, s.0)

-- what a reservation for it asks for
pub reserve_asks : {A B : Type 0} (len more n capacity asked asked_now : ℕ) → more ≡ n
    → (len + more ≤ capacity → A × B × (asked_now ≡ asked)) → (capacity < len + more → asked_now ≡ asked + enlarged capacity (len + more) * 1)
    → asked_now ≤ asked + enlarged capacity (len + n)
reserve_asks len more n capacity asked asked_now is fits grows = elim (cases_lt capacity (len + more)) [
  | inl l ↦ let now = grows l in omega (arith, is, now)
  | inr l ↦ let now = (fits l).2 in omega (arith, is, now)
]
