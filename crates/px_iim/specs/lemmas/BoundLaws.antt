-- A normal form is at most twice as long as any block with its record.
use Rattle.std.proofs.Common.{◌≡◌, ◌<◌, ◌≤◌, ◌+◌, ◌*◌, ℕ, nat_lt, inl, inr, ap, ◌∙◌, arith, ltb-true, ltb-false, List, [], ◌∷◌, ◌++◌}
use Rattle.std.proofs.Common.{length, flat_map, length-append, append-nil}
use Rattle.std.proofs.lemmas.Bool.{cases_Bool}
use Rattle.std.proofs.lemmas.Grind.{flat_map-append}
use Rattle.px_bytes.specs.declared.Order.TheVariants.{Most}
use Rattle.px_bytes.specs.Numbers.{spelling}
use Rattle.px_bytes.specs.lemmas.NumberLaws.{length_spelling}
use Rattle.px_iim.specs.DataSet.{DataSet, top_bit, IsEncoding, Encodes}
use Rattle.px_iim.specs.Group.{Group, Record, named, put, gather}
use Rattle.px_iim.specs.Record.{normal_count, normal_dataset, normal_group, normal_iim}
use Rattle.px_iim.specs.lemmas.KeyLaws.{group_cases}
use Rattle.px_iim.specs.lemmas.GroupLaws.{Item, new_group, longer, put_nil, put_at, put_under, put_over}
use Rattle.px_iim.specs.lemmas.GatherLaws.{gather_gathers}
use Rattle.px_iim.specs.lemmas.NormalLaws.{normal_count_short, normal_count_long}
use Rattle.px_iim.specs.Laws.{NormalBound}

-- ---- one DataSet

pub length_count_short : (n : ℕ) → n < top_bit → length (normal_count n) ≡ 2
length_count_short n h = ap length (normal_count_short n h) ∙ length_spelling Most 2 n

pub length_count_long : (n : ℕ) → top_bit ≤ n → length (normal_count n) ≡ 6
length_count_long n h =
    let two = length_spelling Most 2 (top_bit + 4) in
    let four = length_spelling Most 4 n in
    let both = length-append (spelling Most 2 (top_bit + 4)) (spelling Most 4 n) in
    ap length (normal_count_long n (elim (cases_Bool (nat_lt n top_bit)) [
      | inl t ↦ (let l = ltb-true n top_bit t in absurd (omega arith))
      | inr f ↦ f
    ])) ∙ omega arith

-- the number of bytes of a DataSet in a normal form
abbrev pub cost : DataSet → ℕ
cost d = length (normal_dataset d.rec (d.number, d.octets))

pub length_normal_dataset : (rec : ℕ) (x : Item) → length (normal_dataset rec x) ≡ 3 + length (normal_count (length x.1)) + length x.1
unfolding normal_dataset
length_normal_dataset rec x = let e = length-append (normal_count (length x.1)) x.1 in omega arith

-- the standard form is the shortest, and the extended one has at least one more byte
pub cost_bound : (d : DataSet) (a : List ℕ) → IsEncoding d a → cost d ≤ 2 * length a
cost_bound d a (c, e, h) =
    let l = length_normal_dataset d.rec (d.number, d.octets) in
    let m = ap length e in
    let k = length-append c d.octets in
    elim h [
      | inl s ↦ let two = s.0 in let n = length_count_short (length d.octets) s.2 in omega arith
      | inr s ↦ let more = s.3 in let least = s.1 in elim (cases_Bool (nat_lt (length d.octets) top_bit)) [
        | inl t ↦ let n = length_count_short (length d.octets) (ltb-true (length d.octets) top_bit t) in omega arith
        | inr f ↦ let n = length_count_long (length d.octets) (ltb-false (length d.octets) top_bit f) in omega arith
      ]
    ]

-- ---- a record

abbrev pub costs : List DataSet → ℕ
costs [] = 0
costs (d ∷ ds) = cost d + costs ds

costs_bound : (ds : List DataSet) (a : List ℕ) → Encodes ds a → costs ds ≤ 2 * length a
costs_bound [] a h = omega arith
costs_bound (d ∷ ds) a (x, y, e, s, t) =
    let l = cost_bound d x s in let m = costs_bound ds y t in let k = ap length e ∙ length-append x y in omega arith

length_new : (d : DataSet) → length (normal_group (new_group d)) ≡ cost d
length_new d = ap length (append-nil (normal_dataset d.rec (d.number, d.octets)))

length_longer : (d : DataSet) (g : Group) → g.rec ≡ d.rec → length (normal_group (longer d g)) ≡ length (normal_group g) + cost d
length_longer d g p =
    let x : Item = (d.number, d.octets) in
    let whole = ap length (flat_map-append (normal_dataset g.rec) g.items (x ∷ [])) in
    let split = length-append (flat_map (normal_dataset g.rec) g.items) (normal_dataset g.rec x ++ []) in
    let last = ap length (append-nil (normal_dataset g.rec x)) in
    let same = ap (λ (r : ℕ). length (normal_dataset r x)) p in
    omega arith

-- the bytes that a DataSet adds
pub length_put : (d : DataSet) (i : Record) → length (normal_iim (put d i)) ≡ length (normal_iim i) + cost d
length_put d [] =
    let e = ap (λ (k : Record). length (normal_iim k)) (put_nil d) in
    let a = length-append (normal_group (new_group d)) [] in
    let n = length_new d in omega arith
length_put d (g ∷ gs) =
    let b = length-append (normal_group g) (normal_iim gs) in
    elim (group_cases d.rec (named d.rec d.number) g) [
      | inl t ↦
          let e = ap (λ (k : Record). length (normal_iim k)) (put_at d g gs t.0) in
          let a = length-append (normal_group (longer d g)) (normal_iim gs) in
          let n = length_longer d g t.1 in omega arith
      | inr (inl u) ↦
          let e = ap (λ (k : Record). length (normal_iim k)) (put_under d g gs u.0 u.1) in
          let a = length-append (normal_group (new_group d)) (normal_iim (g ∷ gs)) in
          let n = length_new d in omega arith
      | inr (inr o) ↦
          let e = ap (λ (k : Record). length (normal_iim k)) (put_over d g gs o.0 o.1) in
          let a = length-append (normal_group g) (normal_iim (put d gs)) in
          let n = length_put d gs in omega arith
    ]

pub length_gather : (ds : List DataSet) (i : Record) → length (normal_iim (gather i ds)) ≡ length (normal_iim i) + costs ds
unfolding gather
length_gather [] i = omega arith
length_gather (d ∷ ds) i = let e = length_gather ds (put d i) in let f = length_put d i in omega arith

pub normal_bound : NormalBound
normal_bound x i s =
    let e = ap (λ (k : Record). length (normal_iim k)) ((gather_gathers s.sequence i).0 s.gathered) in
    let l = length_gather s.sequence [] in
    let c = costs_bound s.sequence s.encoded s.encodes in
    let m = ap length s.whole ∙ length-append s.encoded s.zeros in
    omega arith
