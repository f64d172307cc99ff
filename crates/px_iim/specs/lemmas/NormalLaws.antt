-- A normal form has its record, and different records have different ones.
use Rattle.std.proofs.Common.{◌≡◌, ◌<◌, ◌≤◌, ◌⊎◌, ◌+◌, ℕ, nat_lt, true, false, inl, inr, refl, sym, ap, ap₂, subst, ◌∙◌, arith, ltb-true}
use Rattle.std.proofs.Common.{lt-ltb, Option, List, [], ◌∷◌, ◌++◌, length, drop, drop_at, map, filter_map, flat_map, length-append}
use Rattle.std.proofs.Common.{append_assoc, append-nil}
use Rattle.std.specs.List.{AllByRecursion, cons_option}
use Rattle.std.proofs.lemmas.Bool.{cond-true, cond-false, cases_Bool, true≢false}
use Rattle.std.proofs.lemmas.List.Elements.{filter_map-append}
use Rattle.px_bytes.specs.declared.Order.TheVariants.{Most}
use Rattle.px_bytes.specs.Numbers.{AreBytes, number, spelling}
use Rattle.px_bytes.specs.lemmas.NumberLaws.{number_spelling, length_spelling}
use Rattle.px_bytes.specs.Parts.{limit}
use Rattle.px_bytes.specs.lemmas.EachLaws.{each_map}
use Rattle.px_bytes.specs.lemmas.ByteLaws.{bytes_cons, bytes_append, bytes_spelling}
use Rattle.px_iim.specs.DataSet.{DataSet, marker, top_bit, IsStandardCount, IsExtendedCount, IsEncoding, Encodes}
use Rattle.px_iim.specs.Group.{Group, Record, is_at, IsAscending, items_at, item_in, Gathers, IsItem, IsGroup, AreGroups}
use Rattle.px_iim.specs.Record.{SaysIim, normal_count, normal_dataset, normal_group, normal_iim}
use Rattle.px_iim.specs.lemmas.KeyLaws.{at_parts, at_true, at_false}
use Rattle.px_iim.specs.lemmas.GroupLaws.{Item, new_group, items_here, items_there, item_here, item_there}
use Rattle.px_iim.specs.lemmas.GatherLaws.{IsSome, no_more}
use Rattle.px_iim.specs.lemmas.EncodingLaws.{number_front}
use Rattle.px_iim.specs.lemmas.RecordLaws.{one_record}
use Rattle.px_iim.specs.Laws.{FormHasMeaning, FormDecides}

-- ---- the count

pub normal_count_short : (n : ℕ) → n < top_bit → normal_count n ≡ spelling Most 2 n
unfolding normal_count
normal_count_short n h = cond-true _ _ _ (lt-ltb n top_bit h)

pub normal_count_long : (n : ℕ) → nat_lt n top_bit ≡ false → normal_count n ≡ spelling Most 2 (top_bit + 4) ++ spelling Most 4 n
unfolding normal_count
normal_count_long n h = cond-false _ _ _ h

short_count : (n : ℕ) → n < top_bit → IsStandardCount n (normal_count n)
short_count n h =
    let e = normal_count_short n h in
    (ap length e ∙ length_spelling Most 2 n, ap (number Most 2) e ∙ number_spelling Most 2 n (omega arith), h)

long_count : (n : ℕ) → n ≤ limit → nat_lt n top_bit ≡ false → IsExtendedCount n (normal_count n)
long_count n l h =
    let e = normal_count_long n h in
    let two = length_spelling Most 2 (top_bit + 4) in
    let four = length_spelling Most 4 n in (
      4,
      omega arith,
      omega arith,
      ap length e ∙ length-append (spelling Most 2 (top_bit + 4)) (spelling Most 4 n) ∙ ap₂ (λ (a b : ℕ). a + b) two four,
      ap (number Most 2) e ∙ number_front 2 (spelling Most 2 (top_bit + 4)) (spelling Most 4 n) (omega arith)
          ∙ number_spelling Most 2 (top_bit + 4) (omega arith),
      ap (λ (z : List ℕ). number Most 4 (drop 2 z)) e
          ∙ ap (number Most 4) (drop_at (spelling Most 2 (top_bit + 4)) (spelling Most 4 n) 2 two) ∙ number_spelling Most 4 n (omega arith),
    )

pub normal_counts : (n : ℕ) → n ≤ limit → IsStandardCount n (normal_count n) ⊎ IsExtendedCount n (normal_count n)
normal_counts n l = elim (cases_Bool (nat_lt n top_bit)) [
  | inl t ↦ inl (short_count n (ltb-true n top_bit t))
  | inr f ↦ inr (long_count n l f)
]

count_bytes : (n : ℕ) → AreBytes (normal_count n)
count_bytes n = elim (cases_Bool (nat_lt n top_bit)) [
  | inl t ↦ subst AreBytes (sym (normal_count_short n (ltb-true n top_bit t))) (bytes_spelling Most 2 n)
  | inr f ↦ subst AreBytes (sym (normal_count_long n f)) (bytes_append (spelling Most 2 (top_bit + 4)) (spelling Most 4 n)
      (bytes_spelling Most 2 (top_bit + 4)) (bytes_spelling Most 4 n))
]

-- ---- the DataSets of a record

abbrev pub dataset_in : Group → Item → DataSet
dataset_in g x = record { rec = g.rec; number = x.0; octets = x.1 }

-- the groups' DataSets, group after group
abbrev pub sequence_in : Record → List DataSet
sequence_in [] = []
sequence_in (g ∷ gs) = map (dataset_in g) g.items ++ sequence_in gs

normal_encoding : (g : Group) (x : Item) → length x.1 ≤ limit → IsEncoding (dataset_in g x) (normal_dataset g.rec x)
unfolding normal_dataset
normal_encoding g x l = (normal_count (length x.1), refl, normal_counts (length x.1) l)

pub encodes_append : (ds es : List DataSet) (a b : List ℕ) → Encodes ds a → Encodes es b → Encodes (ds ++ es) (a ++ b)
encodes_append [] es a b h k = subst (λ (z : List ℕ). Encodes es (z ++ b)) (sym h) k
encodes_append (d ∷ ds) es a b (x, y, e, s, t) k =
    (x, y ++ b, ap (λ (z : List ℕ). z ++ b) e ∙ append_assoc x y b, s, encodes_append ds es y b t k)

encodes_items : (g : Group) (xs : List Item) → AllByRecursion (IsItem g.rec g.number) xs
    → Encodes (map (dataset_in g) xs) (flat_map (normal_dataset g.rec) xs)
encodes_items g [] h = refl
encodes_items g (x ∷ xs) h =
    (normal_dataset g.rec x, flat_map (normal_dataset g.rec) xs, refl, normal_encoding g x h.0.bounded, encodes_items g xs h.1)

pub encodes_groups : (i : Record) → AllByRecursion IsGroup i → Encodes (sequence_in i) (normal_iim i)
encodes_groups [] h = refl
encodes_groups (g ∷ gs) h =
    encodes_append (map (dataset_in g) g.items) (sequence_in gs) (normal_group g) (normal_iim gs) (encodes_items g g.items h.0.items)
    (encodes_groups gs h.1)

-- ---- gathered again

module _ (rec number : ℕ) where
  filter_here : (g : Group) (xs : List Item) → AllByRecursion (IsItem g.rec g.number) xs → is_at rec number g ≡ true
      → filter_map (item_in rec number) (map (dataset_in g) xs) ≡ xs
  filter_here g [] h t = refl
  filter_here g (x ∷ xs) h t =
      let p = at_parts rec number g t in
      ap₂ (λ (o : Option Item) (ys : List Item). cons_option o ys) (item_here rec number (dataset_in g x) p.0 (h.0.member ∙ p.1))
      (filter_here g xs h.1 t)

  filter_there : (g : Group) (xs : List Item) → AllByRecursion (IsItem g.rec g.number) xs → is_at rec number g ≡ false
      → filter_map (item_in rec number) (map (dataset_in g) xs) ≡ []
  filter_there g [] h f = refl
  filter_there g (x ∷ xs) h f =
      let other =
      at_false rec number (new_group (dataset_in g x)) (λ p q. true≢false (sym (at_true rec number g p (sym h.0.member ∙ q)) ∙ f)) in
      ap₂ (λ (o : Option Item) (ys : List Item). cons_option o ys) (item_there rec number (dataset_in g x) other) (filter_there g xs h.1 f)

  pub filtered_again : (i : Record) → IsAscending i → AllByRecursion IsGroup i
      → items_at rec number i ≡ filter_map (item_in rec number) (sequence_in i)
  filtered_again [] a h = refl
  filtered_again (g ∷ gs) a h =
      let whole = filter_map-append (item_in rec number) (map (dataset_in g) g.items) (sequence_in gs) in
      let rest = filtered_again gs a.1 h.1 in
      elim (cases_Bool (is_at rec number g)) [
        | inl t ↦ items_here rec number g gs t ∙ sym (append-nil g.items)
            ∙ ap₂ (λ (ys zs : List Item). ys ++ zs) (sym (filter_here g g.items h.0.items t)) (sym (no_more g gs a.0 rec number t) ∙ rest)
            ∙ sym whole
        | inr f ↦ items_there rec number g gs f ∙ rest
            ∙ ap (λ (ys : List Item). ys ++ filter_map (item_in rec number) (sequence_in gs)) (sym (filter_there g g.items h.0.items f))
            ∙ sym whole
      ]

pub gathered_again : (i : Record) → AreGroups i → Gathers (sequence_in i) i
gathered_again i h = record {
  ascending = h.ascending;
  some = each_map IsGroup IsSome (λ g k. k.some) i h.groups;
  filtered = λ rec number. filtered_again rec number i h.ascending h.groups;
}

-- ---- its bytes

dataset_bytes : (g : Group) (x : Item) → g.rec < 256 → IsItem g.rec g.number x → AreBytes (normal_dataset g.rec x)
unfolding normal_dataset
dataset_bytes g x r h =
    let after : List ℕ = normal_count (length x.1) ++ x.1 in
    bytes_cons marker (g.rec ∷ x.0 ∷ after) (omega arith)
    (bytes_cons g.rec (x.0 ∷ after) r (bytes_cons x.0 after h.byte (bytes_append (normal_count (length x.1)) x.1
    (count_bytes (length x.1)) h.bytes)))

items_bytes : (g : Group) (xs : List Item) → g.rec < 256 → AllByRecursion (IsItem g.rec g.number) xs
    → AreBytes (flat_map (normal_dataset g.rec) xs)
items_bytes g [] r h = λ i. omega arith
items_bytes g (x ∷ xs) r h =
    bytes_append (normal_dataset g.rec x) (flat_map (normal_dataset g.rec) xs) (dataset_bytes g x r h.0) (items_bytes g xs r h.1)

pub groups_bytes : (i : Record) → AllByRecursion IsGroup i → AreBytes (normal_iim i)
groups_bytes [] h = λ i. omega arith
groups_bytes (g ∷ gs) h = bytes_append (normal_group g) (normal_iim gs) (items_bytes g g.items h.0.byte h.0.items) (groups_bytes gs h.1)

-- ---- its length

count_long : (n : ℕ) → n ≤ limit → 2 ≤ length (normal_count n)
count_long n l = elim (normal_counts n l) [
  | inl s ↦ let e = s.0 in omega arith
  | inr s ↦ let e = s.3 in omega arith
]

dataset_long : (g : Group) (x : Item) → length x.1 ≤ limit → 5 ≤ length (normal_dataset g.rec x)
unfolding normal_dataset
dataset_long g x l = let c = count_long (length x.1) l in let e = length-append (normal_count (length x.1)) x.1 in omega arith

items_long : (g : Group) (xs : List Item) → 1 ≤ length xs → AllByRecursion (IsItem g.rec g.number) xs
    → 5 ≤ length (flat_map (normal_dataset g.rec) xs)
items_long g [] l h = absurd (omega arith)
items_long g (x ∷ xs) l h = let d = dataset_long g x h.0.bounded in
    let e = length-append (normal_dataset g.rec x) (flat_map (normal_dataset g.rec) xs) in omega arith

groups_long : (i : Record) → 1 ≤ length i → AllByRecursion IsGroup i → 5 ≤ length (normal_iim i)
groups_long [] l h = absurd (omega arith)
groups_long (g ∷ gs) l h =
    let d = items_long g g.items h.0.some h.0.items in let e = length-append (normal_group g) (normal_iim gs) in omega arith

sequence_long : (i : Record) → 1 ≤ length i → AllByRecursion IsGroup i → 1 ≤ length (sequence_in i)
sequence_long [] l h = absurd (omega arith)
sequence_long (g ∷ gs) l h = some_in g.items h.0.some
  where
    some_in : (xs : List Item) → 1 ≤ length xs → 1 ≤ length (map (dataset_in g) xs ++ sequence_in gs)
    some_in [] m = absurd (omega arith)
    some_in (x ∷ xs) m = omega arith

-- ---- the laws

pub form_has_meaning : FormHasMeaning
form_has_meaning i r = (
  groups_bytes i r.whole.groups,
  groups_long i r.some r.whole.groups,
  λ l. record {
    bounded = l;
    sequence = sequence_in i;
    some = sequence_long i r.some r.whole.groups;
    encoded = normal_iim i;
    zeros = [];
    whole = sym (append-nil (normal_iim i));
    encodes = encodes_groups i r.whole.groups;
    short = omega arith;
    blank = tt;
    gathered = gathered_again i r.whole;
  },
)

pub form_decides : FormDecides
form_decides i j r s l m = (
  λ e. one_record (normal_iim j) i j (subst (λ (x : List ℕ). SaysIim x i) e ((form_has_meaning i r).2 l)) ((form_has_meaning j s).2 m),
  λ e. ap (λ (k : Record). normal_iim k) e,
)
