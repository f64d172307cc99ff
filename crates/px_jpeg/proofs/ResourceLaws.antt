-- One resource, computed from the bytes, and as the grammar says it; and resources one after another.
use Rattle.std.proofs.Common.{◌≡◌, ◌≤◌, ◌+◌, ◌*◌, ◌%◌, ◌⊎◌, ℕ, zero, suc, true, false, nat_le, inl, inr}
use Rattle.std.proofs.Common.{List, [], ◌∷◌, ◌++◌, length, take, drop, refl, sym, ap, ◌∙◌, subst, arith}
use Rattle.std.proofs.Common.{leb-true, le-leb, length-drop, length-append, append_assoc, drop_at, length-take-le}
use Rattle.std.proofs.lemmas.Bool.{cond-true, cond-false, cases_Bool, and_parts, and_from, both_ways, false_from_ne_true}
use Rattle.std.proofs.lemmas.List.{take-append-drop, drop-drop}
use Rattle.px_jpeg.specs.declared.resources.Resource.{Resource}
use Rattle.std.proofs.Common.{min}
use Rattle.std.proofs.Math.ListN.{drop_of_length-le}
use Rattle.std.proofs.Math.Seq.{drop-length}
use Rattle.std.proofs.lemmas.Bool.{cases_lt}
use Rattle.std.specs.List.{AllByRecursion}
use Rattle.px_jpeg.specs.Laws.{OneCut}
use Rattle.px_jpeg.specs.Resources.{IsResource, Sequence, HasResources, ResourcesInside}
use Rattle.px_jpeg.specs.ResourceReading.{is_signature, number4, place, count_at, is_resource, resource, step, resources_from, rest_from}
use Rattle.px_jpeg.specs.ResourceReading.{resources_of, rest_of}

-- ---- what the test means

pub record IsClaimed (x : List ℕ) : Type 0 where
  pub twelve : 12 ≤ length x
  pub signed : is_signature (take 4 x) ≡ true
  pub named : place x + 4 ≤ length x
  pub whole : place x + 4 + count_at x ≤ length x

pub resource_holds : (x : List ℕ) → is_resource x ≡ true → IsClaimed x
unfolding is_resource
resource_holds x h =
    let a = and_parts _ (nat_le (place x + 4 + count_at x) (length x)) h in
    let b = and_parts _ (nat_le (place x + 4) (length x)) a.0 in
    let c = and_parts (nat_le 12 (length x)) (is_signature (take 4 x)) b.0 in record {
      twelve = leb-true 12 (length x) c.0;
      signed = c.1;
      named = leb-true (place x + 4) (length x) b.1;
      whole = leb-true (place x + 4 + count_at x) (length x) a.1;
    }

pub holds_resource : (x : List ℕ) → IsClaimed x → is_resource x ≡ true
unfolding is_resource
holds_resource x h =
    and_from _ (nat_le (place x + 4 + count_at x) (length x))
    (and_from _ (nat_le (place x + 4) (length x))
    (and_from (nat_le 12 (length x)) (is_signature (take 4 x)) (le-leb 12 (length x) h.twelve) h.signed)
    (le-leb (place x + 4) (length x) h.named)) (le-leb (place x + 4 + count_at x) (length x) h.whole)

-- ---- from the grammar

-- the resource r is at the start of x
pub record Reads (p : ℕ) (r : Resource) (n : ℕ) (x : List ℕ) : Type 0 where
  pub there : is_resource x ≡ true
  pub value : resource p x ≡ r
  pub sized : place x + 4 + count_at x ≡ n

number4_front : (c y : List ℕ) → length c ≡ 4 → number4 (c ++ y) ≡ number4 c
number4_front [] y l = absurd (omega arith)
number4_front (a ∷ []) y l = absurd (omega arith)
number4_front (a ∷ b ∷ []) y l = absurd (omega arith)
number4_front (a ∷ b ∷ c ∷ []) y l = absurd (omega arith)
number4_front (a ∷ b ∷ c ∷ d ∷ z) y l = refl

module _ (s1 s2 s3 s4 h l : ℕ) (name fill count octets rest : List ℕ) (f : length fill ≡ (length name + 1) % 2) (k : length count ≡ 4) where
  abbrev pub tail : List ℕ
  tail = name ++ (fill ++ (count ++ (octets ++ rest)))

  abbrev pub block : List ℕ
  block = s1 ∷ s2 ∷ s3 ∷ s4 ∷ h ∷ l ∷ length name ∷ tail

  place_is : place block ≡ 7 + length name + length fill
  place_is = omega (arith, f)

  abbrev front : List ℕ
  front = s1 ∷ s2 ∷ s3 ∷ s4 ∷ h ∷ l ∷ length name ∷ (name ++ fill)

  regrouped : block ≡ front ++ (count ++ (octets ++ rest))
  regrouped = ap (λ (z : List ℕ). s1 ∷ s2 ∷ s3 ∷ s4 ∷ h ∷ l ∷ length name ∷ z) (sym (append_assoc name fill (count ++ (octets ++ rest))))

  front_long : length front ≡ place block
  front_long = omega (arith, length-append name fill, place_is)

  after_is : drop (place block) block ≡ count ++ (octets ++ rest)
  after_is = ap (drop (place block)) regrouped ∙ drop_at front (count ++ (octets ++ rest)) (place block) front_long

  long : length block ≡ 7 + length name + length fill + length count + length octets + length rest
  long =
      omega (
        arith,
        length-append name (fill ++ (count ++ (octets ++ rest))),
        length-append fill (count ++ (octets ++ rest)),
        length-append count (octets ++ rest),
        length-append octets rest,
      )

  count_is : count_at block ≡ number4 count
  count_is = ap number4 after_is ∙ number4_front count (octets ++ rest) k

  pub block_reads : (p : ℕ) (r : Resource) → is_signature (s1 ∷ s2 ∷ s3 ∷ s4 ∷ []) ≡ true → number4 count ≡ length octets
      → r.number ≡ 256 * h + l → r.start ≡ p + 11 + length name + length fill → r.size ≡ length octets
      → Reads p r (11 + length name + length fill + length octets) block
  unfolding resource
  block_reads p r s c number start size =
      let a : p + place block + 4 ≡ r.start = omega (arith, place_is) in
      let b : count_at block ≡ r.size = omega (arith, count_is) in
      record {
        there = holds_resource block (record {
          twelve = omega (arith, long);
          signed = s;
          named = omega (arith, long, place_is);
          whole = omega (arith, long, place_is, count_is);
        });
        value = λ i. record { number = sym number i; start = a i; size = b i };
        sized = omega (arith, place_is, count_is);
      }

from_parts : (p : ℕ) (r : Resource) (sig : List ℕ) (h l : ℕ) (name fill count octets rest : List ℕ)
    → length fill ≡ (length name + 1) % 2 → length count ≡ 4 → is_signature sig ≡ true → length sig ≡ 4 → number4 count ≡ length octets
    → r.number ≡ 256 * h + l → r.start ≡ p + 11 + length name + length fill → r.size ≡ length octets
    → Reads p r (11 + length name + length fill + length octets)
    (sig ++ (h ∷ l ∷ length name ∷ (name ++ (fill ++ (count ++ (octets ++ rest))))))
from_parts p r [] h l name fill count octets rest f k s four c n t z = absurd (omega arith)
from_parts p r (s1 ∷ []) h l name fill count octets rest f k s four c n t z = absurd (omega arith)
from_parts p r (s1 ∷ s2 ∷ []) h l name fill count octets rest f k s four c n t z = absurd (omega arith)
from_parts p r (s1 ∷ s2 ∷ s3 ∷ []) h l name fill count octets rest f k s four c n t z = absurd (omega arith)
from_parts p r (s1 ∷ s2 ∷ s3 ∷ s4 ∷ []) h l name fill count octets rest f k s four c n t z =
    block_reads s1 s2 s3 s4 h l name fill count octets rest f k p r s c n t z
from_parts p r (s1 ∷ s2 ∷ s3 ∷ s4 ∷ s5 ∷ w) h l name fill count octets rest f k s four c n t z = absurd (omega arith)

pub resource_reads : (p : ℕ) (r : Resource) (a rest : List ℕ) → IsResource p r a → Reads p r (length a) (a ++ rest)
resource_reads p r a rest i =
    let joined : a ++ rest ≡ i.signature ++ (i.high ∷ i.low ∷ length i.name ∷ (i.name ++ (i.fill ++ (i.count ++ (i.octets ++ rest))))) =
    ap (λ (z : List ℕ). z ++ rest) i.whole ∙ simp append_assoc in
    let l : length a ≡ 11 + length i.name + length i.fill + length i.octets =
    omega (
      arith,
      ap length i.whole,
      i.four,
      i.long,
      length-append i.signature (i.high ∷ i.low ∷ length i.name ∷ (i.name ++ (i.fill ++ (i.count ++ i.octets)))),
      length-append i.name (i.fill ++ (i.count ++ i.octets)),
      length-append i.fill (i.count ++ i.octets),
      length-append i.count i.octets,
    ) in
    let start : r.start ≡ p + 11 + length i.name + length i.fill = omega (arith, i.start, l) in
    subst (Reads p r (length a)) (sym joined) (subst (λ (n : ℕ). Reads p r n (i.signature ++ (i.high ∷ i.low ∷ length i.name ∷ (i.name
    ++ (i.fill ++ (i.count ++ (i.octets ++ rest))))))) (sym l) (from_parts p r i.signature i.high i.low i.name i.fill i.count i.octets rest
    i.filled i.long i.signed i.four i.counted i.number start i.size))

-- ---- to the grammar

-- x begins with the resource r, in n bytes
pub record Begins (p : ℕ) (r : Resource) (n : ℕ) (x : List ℕ) : Type 0 where
  pub front : List ℕ
  pub whole : x ≡ front ++ drop n x
  pub is : IsResource p r front
  pub long : length front ≡ n

module _ (p s1 s2 s3 s4 h l n : ℕ) (z : List ℕ) where
  abbrev x : List ℕ
  x = s1 ∷ s2 ∷ s3 ∷ s4 ∷ h ∷ l ∷ n ∷ z

  abbrev odd : ℕ
  odd = (n + 1) % 2

  abbrev name : List ℕ
  name = take n z

  abbrev fill : List ℕ
  fill = take odd (drop n z)

  abbrev after : List ℕ
  after = drop odd (drop n z)

  after_place : drop (place x) x ≡ after
  after_place =
      let e : place x ≡ suc (suc (suc (suc (suc (suc (suc (n + odd))))))) = omega arith in
      ap (λ (k : ℕ). drop k x) e ∙ sym (drop-drop odd n z)

  module _ (t : IsClaimed x) where
    abbrev count : List ℕ
    count = take 4 after

    abbrev octets : List ℕ
    octets = take (count_at x) (drop 4 after)

    abbrev rest : List ℕ
    rest = drop (count_at x) (drop 4 after)

    space : n + odd + 4 + count_at x ≤ length z
    space = omega (arith, t.whole)

    name_long : length name ≡ n
    name_long = length-take-le n z (omega (arith, space))

    fill_long : length fill ≡ odd
    fill_long = length-take-le odd (drop n z) (omega (arith, space, length-drop n z))

    after_long : 4 + count_at x ≤ length after
    after_long = omega (arith, space, length-drop odd (drop n z), length-drop n z)

    count_long : length count ≡ 4
    count_long = length-take-le 4 after (omega (arith, after_long))

    octets_long : length octets ≡ count_at x
    octets_long = length-take-le (count_at x) (drop 4 after) (omega (arith, after_long, length-drop 4 after))

    counted : number4 count ≡ length octets
    counted =
        sym (number4_front count (drop 4 after) count_long) ∙ ap number4 (take-append-drop 4 after) ∙ ap number4 (sym after_place)
        ∙ sym octets_long

    encoded : z ≡ name ++ (fill ++ (count ++ (octets ++ rest)))
    encoded =
        sym (take-append-drop n z)
        ∙ ap (λ (w : List ℕ). name ++ w) (sym (take-append-drop odd (drop n z))
        ∙ ap (λ (w : List ℕ). fill ++ w) (sym (take-append-drop 4 after)
        ∙ ap (λ (w : List ℕ). count ++ w) (sym (take-append-drop (count_at x) (drop 4 after)))))

    abbrev cut : List ℕ
    cut = s1 ∷ s2 ∷ s3 ∷ s4 ∷ h ∷ l ∷ n ∷ (name ++ (fill ++ (count ++ octets)))

    whole : x ≡ cut ++ rest
    whole = ap (λ (w : List ℕ). s1 ∷ s2 ∷ s3 ∷ s4 ∷ h ∷ l ∷ n ∷ w) (encoded ∙ simp append_assoc)

    cut_long : length cut ≡ place x + 4 + count_at x
    cut_long =
        omega (
          arith,
          name_long,
          fill_long,
          count_long,
          octets_long,
          length-append name (fill ++ (count ++ octets)),
          length-append fill (count ++ octets),
          length-append count octets,
        )

    begins : Begins p (resource p x) (place x + 4 + count_at x) x
    unfolding resource
    begins = record {
      front = cut;
      whole = whole ∙ ap (λ (w : List ℕ). cut ++ w) (sym (drop_at cut rest (place x + 4 + count_at x) cut_long)
          ∙ ap (drop (place x + 4 + count_at x)) (sym whole));
      is = record {
        signature = s1 ∷ s2 ∷ s3 ∷ s4 ∷ [];
        high = h;
        low = l;
        name = name;
        fill = fill;
        count = count;
        octets = octets;
        signed = t.signed;
        four = omega arith;
        number = refl;
        filled = fill_long ∙ ap (λ (k : ℕ). (k + 1) % 2) (sym name_long);
        long = count_long;
        counted = counted;
        whole = ap (λ (k : ℕ). s1 ∷ s2 ∷ s3 ∷ s4 ∷ h ∷ l ∷ k ∷ (name ++ (fill ++ (count ++ octets)))) (sym name_long);
        start = omega (arith, cut_long, octets_long);
        size = sym octets_long;
      };
      long = cut_long;
    }

pub resource_begins : (p : ℕ) (x : List ℕ) → is_resource x ≡ true → Begins p (resource p x) (place x + 4 + count_at x) x
resource_begins p [] h = let t = (resource_holds [] h).twelve in absurd (omega arith)
resource_begins p (a ∷ []) h = let t = (resource_holds (a ∷ []) h).twelve in absurd (omega arith)
resource_begins p (a ∷ b ∷ []) h = let t = (resource_holds (a ∷ b ∷ []) h).twelve in absurd (omega arith)
resource_begins p (a ∷ b ∷ c ∷ []) h = let t = (resource_holds (a ∷ b ∷ c ∷ []) h).twelve in absurd (omega arith)
resource_begins p (a ∷ b ∷ c ∷ d ∷ []) h = let t = (resource_holds (a ∷ b ∷ c ∷ d ∷ []) h).twelve in absurd (omega arith)
resource_begins p (a ∷ b ∷ c ∷ d ∷ e ∷ []) h = let t = (resource_holds (a ∷ b ∷ c ∷ d ∷ e ∷ []) h).twelve in absurd (omega arith)
resource_begins p (a ∷ b ∷ c ∷ d ∷ e ∷ f ∷ []) h = let t = (resource_holds (a ∷ b ∷ c ∷ d ∷ e ∷ f ∷ []) h).twelve in absurd (omega arith)
resource_begins p (a ∷ b ∷ c ∷ d ∷ e ∷ f ∷ n ∷ z) h = begins p a b c d e f n z (resource_holds (a ∷ b ∷ c ∷ d ∷ e ∷ f ∷ n ∷ z) h)

-- ---- resources one after another

nil_no : is_resource [] ≡ true → ⊥
nil_no h = let t = (resource_holds [] h).twelve in omega arith

next_shorter : (x : List ℕ) (n : ℕ) → is_resource x ≡ true → length x ≤ suc n → length (drop (step x) x) ≤ n
unfolding step
next_shorter x n h l = omega (arith, length-drop (step x) x, (resource_holds x h).twelve)

-- the padding byte off
next_off : (x : List ℕ) (a : List ℕ) (p : ℕ) → length a ≡ place x + 4 + count_at x
    → (p + length a + count_at x % 2 ≡ p + step x) × (drop (count_at x % 2) (drop (place x + 4 + count_at x) x) ≡ drop (step x) x)
unfolding step
next_off x a p l = (omega (arith, l), drop-drop (count_at x % 2) (place x + 4 + count_at x) x)

from_sequence : (n p : ℕ) (x : List ℕ) → length x ≤ n
    → Sequence p (resources_from n p x) x (rest_from n x) × (is_resource (rest_from n x) ≡ false)
unfolding resources_from rest_from resource
from_sequence zero p [] l = (refl, false_from_ne_true (is_resource []) nil_no)
from_sequence zero p (o ∷ x) l = absurd (omega arith)
from_sequence (suc n) p x l = elim (cases_Bool (is_resource x)) [
  | inl t ↦
      let b = resource_begins p x t in
      let o = next_off x b.front p b.long in
      let (s, e) = from_sequence n (p + step x) (drop (step x) x) (next_shorter x n t l) in
      let i : Sequence (p + length b.front + count_at x % 2) (resources_from n (p + step x) (drop (step x) x))
      (drop (count_at x % 2) (drop (place x + 4 + count_at x) x)) (rest_from n (drop (step x) x)) =
      subst (λ (k : ℕ). Sequence k (resources_from n (p + step x) (drop (step x) x)) (drop (count_at x % 2)
      (drop (place x + 4 + count_at x) x)) (rest_from n (drop (step x) x))) (sym o.0)
      (subst (λ (y : List ℕ). Sequence (p + step x) (resources_from n (p + step x) (drop (step x) x)) y (rest_from n (drop (step x) x)))
      (sym o.1) s) in
      let q : Sequence p (resource p x ∷ resources_from n (p + step x) (drop (step x) x)) x (rest_from n (drop (step x) x)) =
      (b.front, drop (place x + 4 + count_at x) x, b.whole, b.is, i) in (
        subst (λ (rs : List Resource). Sequence p rs x (rest_from (suc n) x)) (sym (cond-true (is_resource x) _ _ t))
            (subst (λ (y : List ℕ). Sequence p (resource p x ∷ resources_from n (p + step x) (drop (step x) x)) x y)
            (sym (cond-true (is_resource x) _ _ t)) q),
        ap is_resource (cond-true (is_resource x) _ _ t) ∙ e,
      )
  | inr f ↦ (
    subst (λ (rs : List Resource). Sequence p rs x (rest_from (suc n) x)) (sym (cond-false (is_resource x) _ _ f))
        (sym (cond-false (is_resource x) (rest_from n (drop (step x) x)) x f)),
    ap is_resource (cond-false (is_resource x) _ _ f) ∙ f,
  )
]

pub means_resources : (x : List ℕ) → HasResources x (resources_of 0 x) (rest_of x)
unfolding resources_of rest_of
means_resources x =
    let (s, e) = from_sequence (length x) 0 x (omega arith) in record {
      sequence = s;
      over = λ p r a b w i. both_ways (is_resource (rest_of x)) e (ap is_resource w ∙ (resource_reads p r a b i).there);
    }

-- ---- one cut

from_nil : (n p : ℕ) → resources_from n p [] ≡ []
unfolding resources_from
from_nil zero p = refl
from_nil (suc n) p = cond-false (is_resource []) _ _ (false_from_ne_true (is_resource []) nil_no)

rest_nil : (n : ℕ) → rest_from n [] ≡ []
unfolding rest_from
rest_nil zero = refl
rest_nil (suc n) = cond-false (is_resource []) _ _ (false_from_ne_true (is_resource []) nil_no)

same_resources : (n m p : ℕ) (x : List ℕ) → length x ≤ n → length x ≤ m → resources_from n p x ≡ resources_from m p x
unfolding resources_from
same_resources zero m p [] h k = sym (from_nil m p)
same_resources zero m p (o ∷ x) h k = absurd (omega arith)
same_resources (suc n) zero p [] h k = from_nil (suc n) p
same_resources (suc n) zero p (o ∷ x) h k = absurd (omega arith)
same_resources (suc n) (suc m) p x h k = elim (cases_Bool (is_resource x)) [
  | inl t ↦
      cond-true (is_resource x) _ _ t
      ∙ ap (λ (rs : List Resource). resource p x ∷ rs) (same_resources n m (p + step x) (drop (step x) x) (next_shorter x n t h)
      (next_shorter x m t k)) ∙ sym (cond-true (is_resource x) _ _ t)
  | inr f ↦ cond-false (is_resource x) _ _ f ∙ sym (cond-false (is_resource x) _ _ f)
]

pub resources_none : (p : ℕ) (x : List ℕ) → is_resource x ≡ false → resources_of p x ≡ []
unfolding resources_of resources_from
resources_none p [] f = refl
resources_none p (o ∷ x) f = cond-false (is_resource (o ∷ x)) _ _ f

pub resources_more : (p : ℕ) (x : List ℕ) → is_resource x ≡ true
    → resources_of p x ≡ resource p x ∷ resources_of (p + step x) (drop (step x) x)
unfolding resources_of resources_from
resources_more p [] t = absurd (nil_no t)
resources_more p (o ∷ x) t =
    cond-true (is_resource (o ∷ x)) _ _ t
    ∙ ap (λ (rs : List Resource). resource p (o ∷ x) ∷ rs)
    (same_resources (length x) (length (drop (step (o ∷ x)) (o ∷ x))) (p + step (o ∷ x)) (drop (step (o ∷ x)) (o ∷ x))
    (next_shorter (o ∷ x) (length x) t (omega arith)) (omega arith))

pub resources_nil : (p : ℕ) → resources_of p [] ≡ []
unfolding resources_of resources_from
resources_nil p = refl

sequence_is : (rs : List Resource) (n p : ℕ) (x rest : List ℕ) → Sequence p rs x rest → is_resource rest ≡ false → length x ≤ n
    → (rs ≡ resources_from n p x) × (rest ≡ rest_from n x)
unfolding resources_from rest_from resource
sequence_is [] zero p x rest s f l = (refl, sym s)
sequence_is [] (suc n) p x rest s f l =
    let g = ap is_resource s ∙ f in
    (sym (cond-false (is_resource x) _ _ g), sym s ∙ sym (cond-false (is_resource x) _ _ g))
sequence_is (r ∷ rs) zero p x rest (a, b, w, i, s) f l =
    let t = resource_reads p r a b i in
    let h = resource_holds x (ap is_resource w ∙ t.there) in absurd (omega (arith, h.twelve))
sequence_is (r ∷ rs) (suc n) p x rest (a, b, w, i, s) f l =
    let y = a ++ b in
    let t = resource_reads p r a b i in
    let k = ap length w in
    let z : count_at y ≡ r.size = ap (λ (q : Resource). q.size) t.value in
    let o = next_off y a p (sym t.sized) in
    let e : p + length a + r.size % 2 ≡ p + step y = ap (λ (m : ℕ). p + length a + m % 2) (sym z) ∙ o.0 in
    let d : drop (r.size % 2) b ≡ drop (step y) y =
    ap (λ (m : ℕ). drop (m % 2) b) (sym z)
    ∙ ap (drop (count_at y % 2)) (sym (drop_at a b (place y + 4 + count_at y) (sym t.sized))) ∙ o.1 in
    let v = subst (λ (m : ℕ). Sequence m rs (drop (r.size % 2) b) rest) e s in
    let u = subst (λ (c : List ℕ). Sequence (p + step y) rs c rest) d v in
    let q = sequence_is rs n (p + step y) (drop (step y) y) rest u f (next_shorter y n t.there (omega arith)) in (
      ap (λ (c : Resource). c ∷ rs) (sym t.value) ∙ ap (λ (c : List Resource). resource p y ∷ c) q.0
          ∙ sym (cond-true (is_resource y) _ _ t.there) ∙ ap (resources_from (suc n) p) (sym w),
      q.1 ∙ sym (cond-true (is_resource y) _ _ t.there) ∙ ap (rest_from (suc n)) (sym w),
    )

over_false : (x : List ℕ) → ((p : ℕ) (r : Resource) (a b : List ℕ) → x ≡ a ++ b → IsResource p r a → ⊥) → is_resource x ≡ false
over_false x h = false_from_ne_true (is_resource x) (λ t. let b = resource_begins 0 x t in
    h 0 (resource 0 x) b.front (drop (place x + 4 + count_at x) x) b.whole b.is)

pub one_cut : OneCut
one_cut x rs qs rest more s t =
    let a = sequence_is rs (length x) 0 x rest s.sequence (over_false rest s.over) (omega arith) in
    let b = sequence_is qs (length x) 0 x more t.sequence (over_false more t.over) (omega arith) in
    (a.0 ∙ sym b.0, a.1 ∙ sym b.1)

-- ---- the data are in the bytes

each_more : (n m : ℕ) (rs : List Resource) → n ≤ m → AllByRecursion (λ r. r.start + r.size ≤ n) rs → AllByRecursion
    (λ r. r.start + r.size ≤ m) rs
each_more n m [] l h = tt
each_more n m (r ∷ rs) l h = (let k = h.0 in omega arith, each_more n m rs l h.1)

nil_drop : (n : ℕ) → drop {A = ℕ} n [] ≡ []
nil_drop zero = refl
nil_drop (suc n) = refl

-- a padding byte may be missing at the end, and then nothing is left
sequence_inside : (rs : List Resource) (p q : ℕ) (x rest : List ℕ) → Sequence p rs x rest → (x ≡ []) ⊎ (p + length x ≤ q)
    → AllByRecursion (λ r. r.start + r.size ≤ q) rs
sequence_inside [] p q x rest s l = tt
sequence_inside (r ∷ rs) p q x rest (a, b, w, i, s) (inl e) =
    let t = resource_holds (a ++ b) (resource_reads p r a b i).there in
    let k = ap length w in let n = ap length e in absurd (omega (arith, t.twelve))
sequence_inside (r ∷ rs) p q x rest (a, b, w, i, s) (inr l) =
    let k = ap length w ∙ length-append a b in
    (omega (arith, i.start, i.size), sequence_inside rs (p + length a + r.size % 2) q (drop (r.size % 2) b) rest s (left b refl))
  where
    left : (c : List ℕ) → c ≡ b → (drop (r.size % 2) b ≡ []) ⊎ (p + length a + r.size % 2 + length (drop (r.size % 2) b) ≤ q)
    left [] e = inl (ap (drop (r.size % 2)) (sym e) ∙ nil_drop (r.size % 2))
    left (o ∷ c) e =
        let k = ap length w ∙ length-append a b in
        let n = ap length e in
        inr (omega (arith, length-drop (r.size % 2) b))

pub resources_inside : (x : List ℕ) → ResourcesInside x (resources_of 0 x)
resources_inside x = sequence_inside (resources_of 0 x) 0 (length x) x (rest_of x) (means_resources x).sequence (inr (omega arith))

-- ---- one step of a walk

pub resource_next : (b : List ℕ) (at : ℕ) (y : List ℕ) (r : Resource) (e : y ≡ drop at b) (h : is_resource y ≡ true) (v : r ≡ resource at y)
    → at ≤ length b
    → (r.start + r.size ≤ length b) × (resources_of at (drop at b) ≡ r ∷ resources_of (min (length b) (r.start + r.size + r.size % 2))
    (drop (min (length b) (r.start + r.size + r.size % 2)) b))
unfolding resource step
resource_next b at y r e h v l =
    let t = resource_holds y h in
    let s : r.start ≡ at + place y + 4 = ap (λ (q : Resource). q.start) v in
    let z : r.size ≡ count_at y = ap (λ (q : Resource). q.size) v in
    let z2 : r.size % 2 ≡ count_at y % 2 = ap (λ (n : ℕ). n % 2) z in
    let k = ap length e ∙ length-drop at b in
    let end : r.start + r.size + r.size % 2 ≡ at + step y = omega (arith, s, z, z2) in
    let here : resources_of at (drop at b) ≡ r ∷ resources_of (at + step y) (drop (at + step y) b) =
    ap (resources_of at) (sym e) ∙ resources_more at y h
    ∙ ap (λ (q : Resource). q ∷ resources_of (at + step y) (drop (step y) y)) (sym v)
    ∙ ap (λ (c : List ℕ). r ∷ resources_of (at + step y) c) (ap (drop (step y)) e ∙ drop-drop (step y) at b) in (
      omega (arith, s, z, k, t.whole),
      here ∙ ap (λ (n : ℕ). r ∷ resources_of n (drop n b)) (sym end)
          ∙ ap (λ (rs : List Resource). r ∷ rs) (clamped (r.start + r.size + r.size % 2)),
    )
  where
    clamped : (n : ℕ) → resources_of n (drop n b) ≡ resources_of (min (length b) n) (drop (min (length b) n) b)
    clamped n = elim (cases_lt n (length b)) [
      | inl k ↦ let m : n ≡ min (length b) n = omega arith in ap (λ (j : ℕ). resources_of j (drop j b)) m
      | inr k ↦
          let m : min (length b) n ≡ length b = omega arith in
          ap (resources_of n) (drop_of_length-le b k) ∙ resources_nil n ∙ sym (resources_nil (length b))
          ∙ ap (resources_of (length b)) (sym (drop-length b)) ∙ ap (λ (j : ℕ). resources_of j (drop j b)) (sym m)
    ]

-- ---- there are at most as many as bytes

few : (n p : ℕ) (x : List ℕ) → length (resources_from n p x) ≤ n
unfolding resources_from
few zero p x = omega arith
few (suc n) p x = elim (cases_Bool (is_resource x)) [
  | inl t ↦
      let e : resources_from (suc n) p x ≡ resource p x ∷ resources_from n (p + step x) (drop (step x) x) =
      cond-true (is_resource x) _ _ t in
      let l = ap length e in
      let k = few n (p + step x) (drop (step x) x) in omega arith
  | inr f ↦ let e : resources_from (suc n) p x ≡ [] = cond-false (is_resource x) _ _ f in let l = ap length e in omega arith
]

pub resources_few : (p : ℕ) (x : List ℕ) → length (resources_of p x) ≤ length x
unfolding resources_of
resources_few p x = few (length x) p x
