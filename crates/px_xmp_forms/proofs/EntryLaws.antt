-- Entries and items: in a row, sorted, and with a label twice.
use Rattle.std.proofs.Common.{◌≡◌, ◌≢◌, ◌≤◌, ◌<◌, ◌+◌, ◌-◌, ◌++◌, ◌∙◌, ◌==◌, ◌⊎◌, inl, inr, refl, ℕ, zero, suc, Bool, true, false, cond, List, [], ◌∷◌, codes, sym, ap}
use Rattle.std.proofs.Common.{Option, Some, None, MatchOption, length, length-append, take, get_or, subst, arith, max, nat_lt, ltb, eqb-true, eq-eqb}
use Rattle.std.proofs.lemmas.List.{append_cancel_left, take_at}
use Rattle.std.proofs.lemmas.Bool.{cases_Bool, eqb-false, ltb-true, ltb-false}
use Rattle.std.proofs.lemmas.List.Sorted.{IsPermutation-refl, IsPermutation-trans, IsPermutation-swap, IsPermutation-keeps, sorted_far, ranks_by}
use Rattle.std.proofs.lemmas.List.Sorted.{sum_by-IsPermutation}
use Rattle.std.proofs.lemmas.List.Sums.{sum_by-cons}
use Rattle.std.proofs.lemmas.List.Edits.{Swapped, swapped_from_swap, length-swap}
use Rattle.std.specs.List.{swap, sum_by}
use Rattle.std.specs.List.Sorted.{IsPermutation, IsSorted}
use Rattle.std.specs.Cmp.Lexicographic.{slice_cmp, nat_list_cmp_total}
use Rattle.std.specs.Ordering.{nat_cmp, is_lt, ordering_then}
use Rattle.std.specs.declared.cmp.Ordering.{Ordering}
use Rattle.std.specs.declared.cmp.Ordering.TheVariants.{Less, Equal, Greater}
use Rattle.px_xmp_text.specs.Values as values
use Rattle.px_xmp_text.specs.Values.{Label, Property, Item, Literal, End, IsLabel, IsContent, Without, opening_tag, end_tag, simple, compound_start, compound_end, written}
use Rattle.px_xmp_forms.specs.Forms.{HaveShortLanguages}
use Rattle.px_xmp_forms.specs.Entries.{Value, Entry, Plain, Inside, before, row, entry_octets, IsRepeated, AreDistinct}
use Rattle.px_xmp_forms.specs.Outputs.{IsItem, AreItems}
use Rattle.px_xmp_forms.specs.declared.items.Item as items
use Rattle.px_xmp_forms.proofs.FormLaws.{opening_more, written_more, in_row, join_written, join_content}

-- ---- labels

-- what is before the first d, and what follows it
cut : (d : ℕ) (a b x y : List ℕ) → Without d a → Without d b → a ++ d ∷ x ≡ b ++ d ∷ y → (a ≡ b) × (x ≡ y)
cut d [] [] x y h k e = (refl, cc)
cut d [] (c ∷ b) x y h k e = absurd (k.0 (cc))
cut d (c ∷ a) [] x y h k e = absurd (h.0 (cc))
cut d (c ∷ a) (f ∷ b) x y h k e =
    let r = cut d a b x y h.1 k.1 (cc) in
    let s = r.0 in (cc, r.1)

differ : (a b : ℕ) → a ≡ b → (a == b) ≡ false → ⊥
differ a b e h = let t = eq-eqb a b e in absurd (cc)

-- the start tag of no label begins with that of another
pub label_from : (l m : Label) (x y : List ℕ) → IsLabel l → IsLabel m → opening_tag l x ≡ opening_tag m y → l ≡ m
label_from Item Item x y h k e = refl
label_from Item (Property s n) x y h k e = absurd (differ 114 112 (ap (λ (z : List ℕ). get_or z 1 0) e) refl)
label_from (Property s n) Item x y h k e = absurd (differ 112 114 (ap (λ (z : List ℕ). get_or z 1 0) e) refl)
label_from (Property s n) (Property t m) x y h k e =
    let a = cut 32 n m _ _ h.1 k.1 (append_cancel_left (codes "<p:") _ _ e) in
    let b = cut 34 s t x y h.0 k.0 (append_cancel_left (codes "xmlns:p=\"") _ _ a.1) in
    let p = a.0 in
    let q = b.0 in cc

-- an entry begins with its label
pub tag_first : (l : Label) (v : Value) → (k : List ℕ) × (written (before l v End) [] ≡ opening_tag l k)
tag_first l (Plain p) = (simple l p [], refl)
tag_first l (Inside s c) = (compound_start s (written c (compound_end s (end_tag l []))), refl)

pub label_can : (l : Label) (v : Value) → IsContent (before l v End) → IsLabel l
label_can l (Plain p) h = h.0
label_can l (Inside s c) h = h.0

pub name_is : (x : items.Item) (e : Entry) → IsItem x e → take x.element.label_len x.element.piece ≡ opening_tag e.label []
name_is x e h =
    let (k, t) = tag_first e.label e.value in
    let whole : x.element.piece ≡ opening_tag e.label [] ++ k = h.element.octets ∙ t ∙ opening_more e.label k in
    ap (λ (n : ℕ). take n x.element.piece) h.element.label ∙ ap (take (length (opening_tag e.label []))) whole
    ∙ take_at (opening_tag e.label []) k (length (opening_tag e.label [])) refl

-- ---- rows

pub before_row : (l : Label) (v : Value) (c : values.Content) → before l v c ≡ in_row (before l v End) c
unfolding in_row
before_row l (Plain p) c = refl
before_row l (Inside s inner) c = refl

pub row_more : (e : Entry) (es : List Entry) → written (row (e ∷ es)) [] ≡ entry_octets e ++ written (row es) []
row_more e es =
    ap (λ (c : values.Content). written c []) (before_row e.label e.value (row es)) ∙ join_written (before e.label e.value End) (row es) []
    ∙ written_more (before e.label e.value End) (written (row es) [])

pub row_can : (e : Entry) (es : List Entry) → IsContent (before e.label e.value End) → IsContent (row es) → IsContent (row (e ∷ es))
row_can e es h k = subst IsContent (sym (before_row e.label e.value (row es))) (join_content (before e.label e.value End) (row es) h k)

row_short : (e : Entry) (es : List Entry) → HaveShortLanguages (before e.label e.value End) → HaveShortLanguages (row es) → HaveShortLanguages (row (e ∷ es))
row_short e es h k = by_value e.value h
  where
    by_value : (v : Value) → HaveShortLanguages (before e.label v End) → HaveShortLanguages (before e.label v (row es))
    by_value (Plain p) h = (h.0, k)
    by_value (Inside s inner) h = (h.0, k)

-- entries in another order have as many octets
pub row_length : (es fs : List Entry) → IsPermutation es fs → length (written (row fs) []) ≡ length (written (row es) [])
row_length es fs p = as_sum fs ∙ sum_by-IsPermutation (λ e. length (entry_octets e)) es fs p ∙ sym (as_sum es)
  where
    as_sum : (es : List Entry) → length (written (row es) []) ≡ sum_by (λ e. length (entry_octets e)) es
    as_sum [] = refl
    as_sum (e ∷ es) =
        ap length (row_more e es) ∙ length-append (entry_octets e) (written (row es) [])
        ∙ ap (λ (n : ℕ). length (entry_octets e) + n) (as_sum es) ∙ sym (sum_by-cons (λ e. length (entry_octets e)) e es)

-- ---- items, one for each entry

pub as_many : (xs : List items.Item) (es : List Entry) → AreItems xs es → length xs ≡ length es
as_many [] [] h = refl
as_many (x ∷ xs) (e ∷ es) h = ap (λ (n : ℕ). suc n) (as_many xs es h.1)
as_many [] (e ∷ es) h = absurd h
as_many (x ∷ xs) [] h = absurd h

pub item_at : (xs : List items.Item) (es : List Entry) (k : ℕ) (x : items.Item) (e : Entry) → AreItems xs es → k < length es
    → IsItem (get_or xs k x) (get_or es k e)
item_at [] [] k x e h l = absurd (omega arith)
item_at (y ∷ xs) (f ∷ es) zero x e h l = h.0
item_at (y ∷ xs) (f ∷ es) (suc k) x e h l = item_at xs es k x e h.1 (omega arith)
item_at [] (f ∷ es) k x e h l = absurd h
item_at (y ∷ xs) [] k x e h l = absurd h

pub items_push : (xs : List items.Item) (es : List Entry) (x : items.Item) (e : Entry) → AreItems xs es → IsItem x e → AreItems (xs ++ x ∷ []) (es ++ e ∷ [])
items_push [] [] x e h k = (k, tt)
items_push (y ∷ xs) (f ∷ es) x e h k = (h.0, items_push xs es x e h.1 k)
items_push [] (f ∷ es) x e h k = absurd h
items_push (y ∷ xs) [] x e h k = absurd h

pub items_can : (xs : List items.Item) (es : List Entry) → AreItems xs es → IsContent (row es)
items_can [] [] h = tt
items_can (x ∷ xs) (e ∷ es) h = row_can e es h.0.element.can (items_can xs es h.1)
items_can [] (e ∷ es) h = absurd h
items_can (x ∷ xs) [] h = absurd h

pub items_short : (xs : List items.Item) (es : List Entry) → AreItems xs es → HaveShortLanguages (row es)
items_short [] [] h = tt
items_short (x ∷ xs) (e ∷ es) h = row_short e es h.0.element.short (items_short xs es h.1)
items_short [] (e ∷ es) h = absurd h
items_short (x ∷ xs) [] h = absurd h

-- items from places
pub items_from : (xs : List items.Item) (es : List Entry) → length xs ≡ length es
    → ((k : ℕ) (x : items.Item) (e : Entry) → k < length es → IsItem (get_or xs k x) (get_or es k e)) → AreItems xs es
items_from [] [] l h = tt
items_from (x ∷ xs) (e ∷ es) l h =
    (h 0 x e (omega arith), items_from xs es (omega arith) (λ k y f p. h (suc k) y f (omega arith)))
items_from [] (e ∷ es) l h = absurd (omega arith)
items_from (x ∷ xs) [] l h = absurd (omega arith)

-- ---- a place after a swap

equal_or_not : (i j : ℕ) → (i ≡ j) ⊎ (i ≢ j)
equal_or_not i j = elim (cases_Bool (i == j)) [ inl a ↦ inl (eqb-true i j a) | inr b ↦ inr (eqb-false i j b) ]

-- a swap of a and b exchanges the places k and m
abbrev Exchanged : ℕ → ℕ → ℕ → ℕ → Type 0
Exchanged a b k m = ((k ≡ a) × (m ≡ b)) ⊎ (((k ≡ b) × (m ≡ a)) ⊎ ((k ≢ a) × (k ≢ b) × (m ≡ k)))

record Moved (a b k n m : ℕ) : Type 1 where
  pub which : Exchanged a b k m
  pub inside : m < n
  pub to : (X : Type 0) (xs : List X) (d : X) → length xs ≡ n → get_or (swap xs a b) k d ≡ get_or xs m d
  pub back : (X : Type 0) (xs : List X) (d : X) → length xs ≡ n → get_or (swap xs a b) m d ≡ get_or xs k d

moved : (a b k n : ℕ) → a < n → b < n → k < n → (m : ℕ) × Moved a b k n m
moved a b k n p q l = by_cases (equal_or_not k a) (equal_or_not k b)
  where
    swapped : (X : Type 0) (xs : List X) (d : X) → length xs ≡ n → Swapped (λ i. get_or xs i d) (λ i. get_or (swap xs a b) i d) a b
    swapped X xs d e = swapped_from_swap xs (swap xs a b) a b d (omega arith) (omega arith) refl

    by_cases : (k ≡ a) ⊎ (k ≢ a) → (k ≡ b) ⊎ (k ≢ b) → (m : ℕ) × Moved a b k n m
    by_cases (inl i) y = (
      b,
      record {
        which = inl (i, refl);
        inside = q;
        to = λ X xs d e. ap (λ (j : ℕ). get_or (swap xs a b) j d) i ∙ (swapped X xs d e).0;
        back = λ X xs d e. (swapped X xs d e).1 ∙ ap (λ (j : ℕ). get_or xs j d) (sym i);
      },
    )
    by_cases (inr i) (inl j) = (
      a,
      record {
        which = inr (inl (j, refl));
        inside = p;
        to = λ X xs d e. ap (λ (j : ℕ). get_or (swap xs a b) j d) j ∙ (swapped X xs d e).1;
        back = λ X xs d e. (swapped X xs d e).0 ∙ ap (λ (j : ℕ). get_or xs j d) (sym j);
      },
    )
    by_cases (inr i) (inr j) = (
      k,
      record {
        which = inr (inr (i, j, refl));
        inside = l;
        to = λ X xs d e. (swapped X xs d e).2 k i j;
        back = λ X xs d e. (swapped X xs d e).2 k i j;
      },
    )

items_swap : (xs : List items.Item) (es : List Entry) (a b : ℕ) → a < length xs → b < length xs → AreItems xs es → AreItems (swap xs a b) (swap es a b)
items_swap xs es a b p q h =
    let n = as_many xs es h in
    let len = length-swap es a b in
    items_from (swap xs a b) (swap es a b) (length-swap xs a b ∙ n ∙ sym len) (λ k x e l.
    let (m, w) = moved a b k (length es) (omega arith) (omega arith) (omega arith) in
    let y : IsItem (get_or xs m x) (get_or es m e) = item_at xs es m x e h w.inside in
    let z : IsItem (get_or (swap xs a b) k x) (get_or es m e) =
    subst (λ (u : items.Item). IsItem u (get_or es m e)) (sym (w.to items.Item xs x n)) y in
    subst (λ (u : Entry). IsItem (get_or (swap xs a b) k x) u) (sym (w.to Entry es e refl)) z)

-- items in another order are those of the entries in that order
pub items_moved : (xs ys : List items.Item) (es : List Entry) → IsPermutation xs ys → AreItems xs es
    → (fs : List Entry) × IsPermutation es fs × AreItems ys fs
items_moved xs ys es p h =
    IsPermutation-keeps xs (λ zs. (fs : List Entry) × IsPermutation es fs × AreItems zs fs) (es, IsPermutation-refl es, h)
    (λ zs a b l r s.
    let (fs, same, are) = s in
    let n = as_many zs fs are in (
      swap fs a b,
      IsPermutation-trans es fs (swap fs a b) same (IsPermutation-swap fs (swap fs a b) a b (omega arith) (omega arith) refl),
      items_swap zs fs a b l r are,
    )) ys p

repeated_swap : (place : ℕ) (es : List Entry) (a b : ℕ) → a < length es → b < length es → IsRepeated es place → IsRepeated (swap es a b) place
repeated_swap place es a b p q r =
    let len = length-swap es a b in
    let (i, x) = moved a b r.first (length es) p q r.within.0 in
    let (j, y) = moved a b r.second (length es) p q r.within.1 in
    record {
      first = i;
      second = j;
      two = λ e. let u = x.which in let v = y.which in r.two (omega arith);
      within = (omega (arith, x.inside), omega (arith, y.inside));
      label = λ d. ap (λ (e : Entry). e.label) (x.back Entry es d refl) ∙ r.label d ∙ sym (ap (λ (e : Entry). e.label) (y.back Entry es d refl));
      place_is = λ d.
          r.place_is d
          ∙ ap (λ (n : ℕ). max n (get_or es r.second d).place) (sym (ap (λ (e : Entry). e.place) (x.back Entry es d refl)))
          ∙ ap (λ (n : ℕ). max (get_or (swap es a b) i d).place n) (sym (ap (λ (e : Entry). e.place) (y.back Entry es d refl)));
    }

pub repeated_moved : (place : ℕ) (es fs : List Entry) → IsPermutation es fs → IsRepeated es place → IsRepeated fs place
repeated_moved place es fs p r = IsPermutation-keeps es (λ zs. IsRepeated zs place) r (λ zs a b l m s. repeated_swap place zs a b l m s) fs p

pub distinct_moved : (es fs : List Entry) → IsPermutation es fs → AreDistinct fs → AreDistinct es
distinct_moved es fs p h place r = h place (repeated_moved place es fs p r)

-- ---- order

abbrev Order : List ℕ → List ℕ → Ordering
Order a b = slice_cmp nat_cmp a b

-- sorted items are sorted entries
pub items_sorted : (xs : List items.Item) (es : List Entry) → AreItems xs es → IsSorted (λ a b. slice_cmp nat_cmp a.element.piece b.element.piece) xs
    → IsSorted (λ a b. slice_cmp nat_cmp (entry_octets a) (entry_octets b)) es
items_sorted [] es h s k d low high = absurd (omega (arith, as_many [] es h))
items_sorted (x ∷ xs) es h s k d low high =
    let n = as_many (x ∷ xs) es h in
    let a = item_at (x ∷ xs) es k x d h (omega arith) in
    let b = item_at (x ∷ xs) es (k + 1) x d h (omega arith) in
    ap (λ (z : List ℕ). is_lt (slice_cmp nat_cmp z (entry_octets (get_or es k d)))) (sym b.element.octets)
    ∙ ap (λ (z : List ℕ). is_lt (slice_cmp nat_cmp (get_or (x ∷ xs) (k + 1) x).element.piece z)) (sym a.element.octets)
    ∙ s k x low (omega arith)

not_less : (p q : Bool) (r : Ordering) → is_lt (ordering_then (cond p Less (cond q Equal Greater)) r) ≡ false → (p ≡ false) × (q ≡ true → is_lt r ≡ false)
not_less true q r h = absurd (cc)
not_less false true r h = (refl, λ _. h)
not_less false false r h = (refl, λ e. absurd (cc))

-- what is between two lists with one front has that front
between_front : (n a b x : List ℕ) → is_lt (slice_cmp nat_cmp x (n ++ a)) ≡ false → is_lt (slice_cmp nat_cmp (n ++ b) x) ≡ false
    → (r : List ℕ) × (x ≡ n ++ r)
between_front [] a b x h k = (x, refl)
between_front (c ∷ n) a b [] h k = absurd (cc)
between_front (c ∷ n) a b (d ∷ x) h k =
    let p = not_less (nat_lt d c) (d == c) (slice_cmp nat_cmp x (n ++ a)) h in
    let q = not_less (nat_lt c d) (c == d) (slice_cmp nat_cmp (n ++ b) x) k in
    let e : d ≡ c = omega (arith, ltb-false d c p.0, ltb-false c d q.0) in
    let (r, f) = between_front n a b x (p.1 (eq-eqb d c e)) (q.1 (eq-eqb c d (sym e))) in
    (r, ap (λ (z : ℕ). z ∷ x) e ∙ ap (λ (z : List ℕ). c ∷ z) f)

-- ---- a label twice

abbrev pub AreOrdered : List Entry → Type 0
AreOrdered es = IsSorted (λ a b. slice_cmp nat_cmp (entry_octets a) (entry_octets b)) es

-- of the first n entries, no two in a row have one label
abbrev pub NeighboursDiffer : List Entry → ℕ → Type 0
NeighboursDiffer es n = (k : ℕ) (d : Entry) → k + 1 < n → (get_or es k d).label ≢ (get_or es (k + 1) d).label

-- an entry between two with one label has that label
between_labels : (a b c : Entry) → IsContent (before a.label a.value End) → IsContent (before b.label b.value End) → a.label ≡ c.label
    → is_lt (slice_cmp nat_cmp (entry_octets b) (entry_octets a)) ≡ false → is_lt (slice_cmp nat_cmp (entry_octets c) (entry_octets b)) ≡ false
    → a.label ≡ b.label
between_labels a b c ha hb same low high =
    let (k, ea) = tag_first a.label a.value in
    let (m, eb) = tag_first b.label b.value in
    let (n, ec) = tag_first c.label c.value in
    let fa : entry_octets a ≡ opening_tag a.label [] ++ k = ea ∙ opening_more a.label k in
    let fc : entry_octets c ≡ opening_tag a.label [] ++ n =
    ec ∙ opening_more c.label n ∙ ap (λ (l : Label). opening_tag l [] ++ n) (sym same) in
    let (r, f) = between_front (opening_tag a.label []) k n (entry_octets b)
    (ap (λ (z : List ℕ). is_lt (slice_cmp nat_cmp (entry_octets b) z)) (sym fa) ∙ low)
    (ap (λ (z : List ℕ). is_lt (slice_cmp nat_cmp z (entry_octets b))) (sym fc) ∙ high) in
    label_from a.label b.label r m (label_can a.label a.value ha) (label_can b.label b.value hb) (opening_more a.label r ∙ sym f ∙ eb)

element_can : (xs : List items.Item) (es : List Entry) → AreItems xs es → (k : ℕ) (d : Entry) → k < length es
    → IsContent (before (get_or es k d).label (get_or es k d).value End)
element_can [] es h k d l = absurd (omega (arith, as_many [] es h))
element_can (x ∷ xs) es h k d l = (item_at (x ∷ xs) es k x d h l).element.can

strictly : (i j : ℕ) → i ≢ j → j ≤ i → j < i
strictly i j n l = omega arith

some_entry : Entry
some_entry = record { label = Item; value = Plain (Literal [] []); place = 0 }

-- sorted entries, of which no two in a row have one label, have each label once
pub all_differ : (xs : List items.Item) (es : List Entry) → AreItems xs es → AreOrdered es → NeighboursDiffer es (length es) → AreDistinct es
all_differ xs es h o n place r = by_order (ltb r.first r.second) refl
  where
    in_order : (i j : ℕ) (d : Entry) → i < j → j < length es → (get_or es i d).label ≡ (get_or es j d).label → ⊥
    in_order i j d l w e =
        let can : (k : ℕ) → k < length es → IsContent (before (get_or es k d).label (get_or es k d).value End) = λ k p.
        element_can xs es h k d p in
        let rank = ranks_by nat_list_cmp_total entry_octets in
        let low = sorted_far (λ a b. is_lt (slice_cmp nat_cmp (entry_octets a) (entry_octets b))) rank es o i (i + 1) d (omega arith) (omega arith) in
        let high = sorted_far (λ a b. is_lt (slice_cmp nat_cmp (entry_octets a) (entry_octets b))) rank es o (i + 1) j d (omega arith) w in
        n i d (omega arith) (between_labels (get_or es i d) (get_or es (i + 1) d) (get_or es j d) (can i (omega arith)) (can (i + 1) (omega arith)) e low high)

    by_order : (b : Bool) → ltb r.first r.second ≡ b → ⊥
    by_order true e = in_order r.first r.second some_entry (ltb-true r.first r.second e) r.within.1 (r.label some_entry)
    by_order false e =
        in_order r.second r.first some_entry (let two = r.two in let le = ltb-false r.first r.second e in strictly r.first r.second two le) r.within.0 (sym (r.label some_entry))

-- two neighbours with one label
pub neighbours_repeat : (es : List Entry) (n place : ℕ) → 1 ≤ n → n < length es
    → ((d : Entry) → (get_or es (n - 1) d).label ≡ (get_or es n d).label)
    → ((d : Entry) → place ≡ max (get_or es (n - 1) d).place (get_or es n d).place) → IsRepeated es place
neighbours_repeat es n place l w e p =
    record { first = n - 1; second = n; two = λ q. omega arith; within = (omega arith, w); label = e; place_is = p }

-- ---- items that are written one after another

-- one item more
pub items_next : (xs ys : List items.Item) (x : items.Item) (fs : List Entry) → AreItems xs fs → xs ≡ x ∷ ys
    → (gs : List Entry) × AreItems ys gs × (written (row fs) [] ≡ x.element.piece ++ written (row gs) [])
items_next xs ys x fs h e = parts fs (subst (λ (zs : List items.Item). AreItems zs fs) e h)
  where
    parts : (fs : List Entry) → AreItems (x ∷ ys) fs → (gs : List Entry) × AreItems ys gs × (written (row fs) [] ≡ x.element.piece ++ written (row gs) [])
    parts [] h = absurd h
    parts (f ∷ gs) h = (gs, h.1, row_more f gs ∙ ap (λ (z : List ℕ). z ++ written (row gs) []) (sym h.0.element.octets))

pub items_end : (xs : List items.Item) (fs : List Entry) → xs ≡ [] → AreItems xs fs → written (row fs) [] ≡ []
items_end xs fs e h = none fs (subst (λ (zs : List items.Item). AreItems zs fs) e h)
  where
    none : (fs : List Entry) → AreItems [] fs → written (row fs) [] ≡ []
    none [] h = refl
    none (f ∷ fs) h = absurd h

-- ---- a label that stands twice, of neighbours

pub repeat_then : (es : List Entry) (n m : ℕ) (place r : Option ℕ) → MatchOption place (NeighboursDiffer es n) (IsRepeated es)
    → MatchOption r ⊥ (λ p. (place ≡ Some p) ⊎ (p ≡ m)) → IsRepeated es m → MatchOption r (NeighboursDiffer es (n + 1)) (IsRepeated es)
repeat_then es n m place None h k q = absurd k
repeat_then es n m place (Some p) h k q = elim k [
  | inl e ↦ subst (λ (z : Option ℕ). MatchOption z (NeighboursDiffer es n) (IsRepeated es)) e h
  | inr e ↦ subst (λ (z : ℕ). IsRepeated es z) (sym e) q
]

pub repeat_else : (es : List Entry) (n : ℕ) (place : Option ℕ) → 1 ≤ n → ((d : Entry) → (get_or es (n - 1) d).label ≢ (get_or es n d).label)
    → MatchOption place (NeighboursDiffer es n) (IsRepeated es) → MatchOption place (NeighboursDiffer es (n + 1)) (IsRepeated es)
repeat_else es n (Some p) l other h = h
repeat_else es n None l other h = λ k d w. elim (equal_or_not (k + 1) n) [
  | inl e ↦ λ same.
      let k_is : k ≡ n - 1 = omega arith in
      other d (ap (λ (i : ℕ). (get_or es i d).label) (sym k_is) ∙ same ∙ ap (λ (i : ℕ). (get_or es i d).label) e)
  | inr e ↦ h k d (below k e w)
]
  where
    below : (k : ℕ) → (k + 1 ≢ n) → k + 1 < n + 1 → k + 1 < n
    below k e w = omega arith

-- names are equal exactly if labels are
pub same_label : (x y : items.Item) (e f : Entry) → IsItem x e → IsItem y f
    → take x.element.label_len x.element.piece ≡ take y.element.label_len y.element.piece → e.label ≡ f.label
same_label x y e f h k same =
    label_from e.label f.label [] [] (label_can e.label e.value h.element.can) (label_can f.label f.value k.element.can)
    (sym (name_is x e h) ∙ same ∙ name_is y f k)

pub same_name : (x y : items.Item) (e f : Entry) → IsItem x e → IsItem y f → e.label ≡ f.label
    → take x.element.label_len x.element.piece ≡ take y.element.label_len y.element.piece
same_name x y e f h k same = name_is x e h ∙ ap (λ (l : Label). opening_tag l []) same ∙ sym (name_is y f k)

pub neighbours_few : (es : List Entry) (n m : ℕ) → (m ≤ n) ⊎ (m ≤ 1) → NeighboursDiffer es n → NeighboursDiffer es m
neighbours_few es n m (inl l) h = λ k d w. h k d (omega arith)
neighbours_few es n m (inr l) h = λ k d w. absurd (omega arith)
