-- Entries in the order of their octets are in one row.
use Rattle.std.proofs.Common.{◌≡◌, ◌≤◌, ◌<◌, ◌+◌, ◌++◌, ◌∙◌, inl, inr, refl, ℕ, suc, Bool, true, false, cond, List, [], ◌∷◌, sym, ap, length, get_or, subst, arith, append_assoc, codes}
use Rattle.std.proofs.lemmas.Bool.{cases_Bool}
use Rattle.std.proofs.lemmas.List.Sorted.{sum_by-IsPermutation, sorted_far, ranks_by}
use Rattle.std.proofs.lemmas.List.Sums.{sum_by-cons}
use Rattle.std.proofs.lemmas.Cmp.{nat_list_cmp_total, tied_itself, ranked, by_ranked}
use Rattle.std.specs.Bool.{⊤}
use Rattle.std.specs.List.{sum_by, AllByRecursion}
use Rattle.std.specs.List.Sorted.{IsPermutation, IsSorted}
use Rattle.std.specs.Cmp.Lexicographic.{slice_cmp}
use Rattle.std.specs.Ordering.{nat_cmp, is_lt, is_eq, ordering_then, ordering_reverse}
use Rattle.std.specs.declared.cmp.Ordering.{Ordering}
use Rattle.std.specs.declared.cmp.Ordering.TheVariants.{Less, Equal, Greater}
use Rattle.px_xmp_text.specs.Texts.{normal_text}
use Rattle.px_xmp_text.specs.Values.{Label, Simple, Compound, Content, Property, Item, Literal, Uri, Structure, Bag, Seq, Alt, End, Flat, Nested}
use Rattle.px_xmp_text.specs.Values.{opening_tag, end_tag, simple, compound_start, compound_end, written, packet_end, IsContent, PacketIsInjective}
use Rattle.px_xmp_forms.specs.Forms.{language_octets}
use Rattle.px_xmp_forms.specs.Entries.{Value, Plain, Inside, Entry, before, row, entry_octets, Sorts}

-- ---- what follows is appended

pub opening_more : (l : Label) (k : List ℕ) → opening_tag l k ≡ opening_tag l [] ++ k
opening_more (Property space local) k = simp append_assoc refl
opening_more Item k = refl

pub end_more : (l : Label) (k : List ℕ) → end_tag l k ≡ end_tag l [] ++ k
end_more (Property space local) k = simp append_assoc refl
end_more Item k = refl

pub start_more : (s : Compound) (k : List ℕ) → compound_start s k ≡ compound_start s [] ++ k
start_more Structure k = refl
start_more Bag k = refl
start_more Seq k = refl
start_more Alt k = refl

stop_more : (s : Compound) (k : List ℕ) → compound_end s k ≡ compound_end s [] ++ k
stop_more Structure k = refl
stop_more Bag k = refl
stop_more Seq k = refl
stop_more Alt k = refl

pub literal_octets : (l : Label) (y t k : List ℕ) → simple l (Literal y t) k ≡ language_octets y ++ (normal_text t ++ end_tag l k)
literal_octets l [] t k = refl
literal_octets l (o ∷ y) t k = simp append_assoc refl

simple_more : (l : Label) (p : Simple) (k : List ℕ) → simple l p k ≡ simple l p [] ++ k
simple_more l (Literal y t) k =
    literal_octets l y t k ∙ ap (λ (z : List ℕ). language_octets y ++ (normal_text t ++ z)) (end_more l k)
    ∙ sym (ap (λ (z : List ℕ). z ++ k) (literal_octets l y t [])
    ∙ append_assoc (language_octets y) (normal_text t ++ end_tag l []) k
    ∙ ap (λ (z : List ℕ). language_octets y ++ z) (append_assoc (normal_text t) (end_tag l []) k))
simple_more l (Uri u) k = simp append_assoc refl

pub written_more : (c : Content) (k : List ℕ) → written c k ≡ written c [] ++ k
written_more End k = refl
written_more (Flat l p rest) k =
    ap (λ (z : List ℕ). opening_tag l (simple l p z)) (written_more rest k)
    ∙ ap (λ (z : List ℕ). opening_tag l z) (simple_shift l p (written rest []) k)
    ∙ opening_shift l (simple l p (written rest [])) k
  where
    simple_shift : (l : Label) (p : Simple) (x k : List ℕ) → simple l p (x ++ k) ≡ simple l p x ++ k
    simple_shift l p x k = simple_more l p (x ++ k) ∙ sym (append_assoc (simple l p []) x k) ∙ sym (ap (λ (z : List ℕ). z ++ k) (simple_more l p x))

    opening_shift : (l : Label) (x k : List ℕ) → opening_tag l (x ++ k) ≡ opening_tag l x ++ k
    opening_shift l x k = opening_more l (x ++ k) ∙ sym (append_assoc (opening_tag l []) x k) ∙ sym (ap (λ (z : List ℕ). z ++ k) (opening_more l x))
written_more (Nested l s inner rest) k =
    let at : (x : List ℕ) → written (Nested l s inner rest) x
    ≡ opening_tag l [] ++ (compound_start s [] ++ (written inner [] ++ (compound_end s [] ++ (end_tag l [] ++ written rest x)))) = λ x.
    opening_more l _ ∙ ap (λ (z : List ℕ). opening_tag l [] ++ z) (start_more s _
    ∙ ap (λ (z : List ℕ). compound_start s [] ++ z) (written_more inner _
    ∙ ap (λ (z : List ℕ). written inner [] ++ z) (stop_more s _ ∙ ap (λ (z : List ℕ). compound_end s [] ++ z) (end_more l _)))) in
    at k ∙ ap (λ (z : List ℕ). opening_tag l [] ++ (compound_start s [] ++ (written inner [] ++ (compound_end s [] ++ (end_tag l [] ++ z)))))
    (written_more rest k) ∙ sym (ap (λ (z : List ℕ). z ++ k) (at []) ∙ simp append_assoc refl)

-- ---- the order of octets

abbrev order : List ℕ → List ℕ → Ordering
order x y = slice_cmp nat_cmp x y

abbrev is_before : List ℕ → List ℕ → Bool
is_before x y = is_lt (order x y)

-- ---- octets that tie are the same

then_equal : (o p : Ordering) → ordering_then o p ≡ Equal → (o ≡ Equal) × (p ≡ Equal)
then_equal Less p h = absurd (cc)
then_equal Equal p h = (refl, h)
then_equal Greater p h = absurd (cc)

nat_tied : (x y : ℕ) → nat_cmp x y ≡ Equal → x ≡ y
nat_tied x y h = by_ranked (x < y) (x ≡ y) (y < x) (nat_cmp x y) (ranked x y (nat_cmp x y) refl) (λ e p. absurd (cc)) (λ e p. p) (λ e p. absurd (cc))

tied : (x y : List ℕ) → order x y ≡ Equal → x ≡ y
tied [] [] h = refl
tied [] (o ∷ y) h = absurd (cc)
tied (o ∷ x) [] h = absurd (cc)
tied (o ∷ x) (p ∷ y) h =
    let e = then_equal (nat_cmp o p) (order x y) h in
    ap (λ (n : ℕ). n ∷ x) (nat_tied o p e.0) ∙ ap (λ (z : List ℕ). p ∷ z) (tied x y e.1)

not_less : (o : Ordering) → is_lt o ≡ false → is_lt (ordering_reverse o) ≡ false → o ≡ Equal
not_less Less h k = absurd (cc)
not_less Equal h k = refl
not_less Greater h k = absurd (cc)

-- octets of which neither are before the other are the same
neither : (x y : List ℕ) → is_before x y ≡ false → is_before y x ≡ false → x ≡ y
neither x y h k = tied x y (not_less (order x y) h (ap is_lt (sym (nat_list_cmp_total.antisymm y x)) ∙ k))

-- ---- sums over the octets of entries

abbrev pub total : (List ℕ → ℕ) → List Entry → ℕ
total f [] = 0
total f (e ∷ es) = f (entry_octets e) + total f es

total_is : (f : List ℕ → ℕ) (es : List Entry) → total f es ≡ sum_by (λ e. f (entry_octets e)) es
total_is f [] = refl
total_is f (e ∷ es) =
    ap (λ (n : ℕ). f (entry_octets e) + n) (total_is f es) ∙ sym (sum_by-cons (λ (x : Entry). f (entry_octets x)) e es)

abbrev pub SameTotals : List Entry → List Entry → Type 0
SameTotals es fs = (f : List ℕ → ℕ) → total f es ≡ total f fs

pub totals_moved : (es fs : List Entry) → IsPermutation es fs → SameTotals es fs
totals_moved es fs h f =
    total_is f es ∙ sym (sum_by-IsPermutation (λ (x : Entry). f (entry_octets x)) es fs h) ∙ sym (total_is f fs)

-- one for the octets k
abbrev one_for : List ℕ → List ℕ → ℕ
one_for k x = cond (is_eq (order x k)) 1 0

for_itself : (k : List ℕ) → one_for k k ≡ 1
for_itself k = ap (λ (o : Ordering). cond (is_eq o) 1 0) (tied_itself nat_list_cmp_total k)

equal_from : (o : Ordering) → is_eq o ≡ true → o ≡ Equal
equal_from Less h = absurd (cc)
equal_from Equal h = refl
equal_from Greater h = absurd (cc)

-- ---- entries that rise

abbrev NotBefore : List ℕ → Entry → Type 0
NotBefore k e = is_before (entry_octets e) k ≡ false

abbrev Rises : List Entry → Type 0
Rises [] = ⊤
Rises (e ∷ es) = AllByRecursion (NotBefore (entry_octets e)) es × Rises es

-- octets that are those of an entry are not before k, if no entry is
not_before : (x k : List ℕ) (es : List Entry) → AllByRecursion (NotBefore k) es → 1 ≤ total (one_for x) es → is_before x k ≡ false
not_before x k [] h n = absurd (omega arith)
not_before x k (e ∷ es) h n = elim (cases_Bool (is_eq (order (entry_octets e) x))) [
  | inl a ↦ subst (λ (z : List ℕ). is_before z k ≡ false) (tied (entry_octets e) x (equal_from (order (entry_octets e) x) a)) h.0
  | inr b ↦
      let none : one_for x (entry_octets e) ≡ 0 = ap (λ (t : Bool). cond t 1 0) b in
      not_before x k es h.1 (omega arith)
]

abbrev IsFar : List Entry → Type 0
IsFar es = (i j : ℕ) (d : Entry) → i ≤ j → j < length es → is_before (entry_octets (get_or es j d)) (entry_octets (get_or es i d)) ≡ false

each_is : (P : Entry → Type 0) (es : List Entry) → ((j : ℕ) (d : Entry) → j < length es → P (get_or es j d)) → AllByRecursion P es
each_is P [] h = tt
each_is P (e ∷ es) h = (h 0 e (omega arith), each_is P es (λ j d l. h (suc j) d (omega arith)))

rises_far : (es : List Entry) → IsFar es → Rises es
rises_far [] h = tt
rises_far (e ∷ es) h = (
  each_is (NotBefore (entry_octets e)) es (λ j d l. h 0 (suc j) d (omega arith) (omega arith)),
  rises_far es (λ i j d l m. h (suc i) (suc j) d (omega arith) (omega arith)),
)

rises_sorted : (es : List Entry) → IsSorted (λ a b. slice_cmp nat_cmp (entry_octets a) (entry_octets b)) es → Rises es
rises_sorted es h =
    rises_far es (sorted_far (λ (a b : Entry). is_before (entry_octets a) (entry_octets b)) (ranks_by nat_list_cmp_total entry_octets) es h)

-- ---- the octets of entries, one after another

abbrev all_octets : List Entry → List (List ℕ)
all_octets [] = []
all_octets (e ∷ es) = entry_octets e ∷ all_octets es

rise_once : (es fs : List Entry) → SameTotals es fs → Rises es → Rises fs → all_octets es ≡ all_octets fs
rise_once [] [] s r q = refl
rise_once [] (f ∷ fs) s r q = let e : 0 ≡ 1 + total (λ x. 1) fs = s (λ x. 1) in absurd (omega arith)
rise_once (e ∷ es) [] s r q = let f : 1 + total (λ x. 1) es ≡ 0 = s (λ x. 1) in absurd (omega arith)
rise_once (e ∷ es) (f ∷ fs) s r q =
    let x : List ℕ = entry_octets e in
    let y : List ℕ = entry_octets f in
    let self : (k : List ℕ) → is_before k k ≡ false = λ k. ap is_lt (tied_itself nat_list_cmp_total k) in
    let one : one_for x x ≡ 1 = for_itself x in
    let other : one_for y y ≡ 1 = for_itself y in
    let sum : one_for x x + total (one_for x) es ≡ one_for x y + total (one_for x) fs = s (one_for x) in
    let back : one_for y x + total (one_for y) es ≡ one_for y y + total (one_for y) fs = s (one_for y) in
    let first : is_before x y ≡ false = not_before x y (f ∷ fs) (self y, q.0) (omega arith) in
    let second : is_before y x ≡ false = not_before y x (e ∷ es) (self x, r.0) (omega arith) in
    let same : x ≡ y = neither x y first second in
    let others : SameTotals es fs = λ g. (let all : g x + total g es ≡ g y + total g fs = s g in
    let head : g x ≡ g y = ap g same in omega arith) in
    ap (λ (k : List ℕ). k ∷ all_octets es) same ∙ ap (λ (k : List (List ℕ)). y ∷ k) (rise_once es fs others r.1 q.1)

-- ---- rows

pub before_more : (l : Label) (v : Value) (c : Content) (k : List ℕ) → written (before l v c) k ≡ written (before l v End) [] ++ written c k
before_more l (Plain p) c k = written_more (Flat l p End) (written c k)
before_more l (Inside s inner) c k = written_more (Nested l s inner End) (written c k)

abbrev joined : List (List ℕ) → List ℕ → List ℕ
joined [] k = k
joined (x ∷ xs) k = x ++ joined xs k

row_joined : (es : List Entry) (k : List ℕ) → written (row es) k ≡ joined (all_octets es) k
row_joined [] k = refl
row_joined (e ∷ es) k =
    before_more e.label e.value (row es) k ∙ ap (λ (z : List ℕ). entry_octets e ++ z) (row_joined es k)

-- two orders of the same entries are one row, of what can be written
pub sorted_once : PacketIsInjective → (es fs gs : List Entry) → Sorts es fs → Sorts es gs → IsContent (row fs) → IsContent (row gs) → row fs ≡ row gs
sorted_once law es fs gs h k can could =
    let same : SameTotals fs gs = λ f. sym (totals_moved es fs h.same f) ∙ totals_moved es gs k.same f in
    let octets : all_octets fs ≡ all_octets gs = rise_once fs gs same (rises_sorted fs h.order) (rises_sorted gs k.order) in
    let whole : written (row fs) packet_end ≡ written (row gs) packet_end =
    row_joined fs packet_end ∙ ap (λ (z : List (List ℕ)). joined z packet_end) octets ∙ sym (row_joined gs packet_end) in
    (law (row fs) (row gs) can could).0 (ap (λ (z : List ℕ). codes "<x:xmpmeta xmlns:x=\"adobe:ns:meta/\"><rdf:RDF xmlns:rdf=\"http://www.w3.org/1999/02/22-rdf-syntax-ns#\">" ++ (codes "<rdf:Description rdf:about=\"\">" ++ z)) whole)
