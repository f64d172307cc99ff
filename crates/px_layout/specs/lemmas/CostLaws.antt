-- The size of an entry in the normal form: at most twice its size in a block.
use Rattle.std.proofs.Common.{◌≡◌, ℕ, suc, ◌+◌, ◌*◌, ◌%◌, ◌<◌, ◌≤◌, nat_lt, if◌then◌else◌, inl, inr, true, false, Bool, Option, Some, None}
use Rattle.std.proofs.Common.{option_map, find, List, [], ◌∷◌, map, filter_map, length, refl, sym, ◌∙◌, subst, arith, ltb-false}
use Rattle.std.specs.Prelude.{◌⊎◌}
use Rattle.std.specs.List.{AllByRecursion, cons_option}
use Rattle.std.proofs.Math.Nat.{mod-lt, mod-le}
use Rattle.std.proofs.lemmas.Bool.{cond-true, cond-false, cond_both, cases_Bool}
use Rattle.px_bytes.specs.Range.{Range, range}
use Rattle.px_field.specs.Values.{Value}
use Rattle.px_bytes.specs.declared.Order.{Order}
use Rattle.px_meaning.specs.declared.Dir.{Dir}
use Rattle.px_meaning.specs.Entry.{Entry, raw_size, offset, Rising}
use Rattle.px_meaning.specs.Footprint.{placed_range}
use Rattle.px_meaning.specs.Writable.{Item, Field, item_size, field_items}
use Rattle.px_layout.specs.declared.chunks.Chunk.{Chunk}
use Rattle.px_layout.specs.declared.chunks.Chunk.TheVariants.{Placed}
use Rattle.px_layout.specs.Chunks.{placed_chunk}
use Rattle.px_layout.specs.Normal.{even, padded_size}
use Rattle.px_bytes.specs.lemmas.ApartLaws.{total}
use Rattle.px_bytes.specs.lemmas.EachLaws.{each_map}

-- ---- padding

pub even_near : (n : ℕ) → even n ≤ n + 1
even_near n = let e : n % 2 < 2 = mod-lt n (omega arith) in omega arith

pub even_double : (n k : ℕ) → n ≤ k → even n ≤ 2 * k
even_double n k h = let e = mod-le n 2 in omega arith

-- ---- one entry

-- the bytes of a value that has an offset, none for one in its entry
abbrev pub apart_size : ℕ → ℕ
apart_size n = if nat_lt 4 n then n else 0

-- the bytes of an entry and its value, in a block and in the normal form
abbrev pub weight : Entry → ℕ
weight e = 12 + apart_size (raw_size e)

abbrev pub cost : ℕ × Item → ℕ
cost i = 12 + (if nat_lt 4 (item_size i.1) then even (item_size i.1) else 0)

-- a value of at most twice the bytes has at most twice the size
pub cost_widened : (i : ℕ × Item) (e : Entry) → item_size i.1 ≤ 2 * raw_size e → cost i ≤ 2 * weight e
cost_widened i e h =
    cond_both (nat_lt 4 (item_size i.1)) (even (item_size i.1)) 0 (λ n. 12 + n ≤ 2 * weight e) (λ _. long (item_size i.1) (raw_size e) h)
    (λ _. none (apart_size (raw_size e)))
  where
    none : (w : ℕ) → 12 + 0 ≤ 2 * (12 + w)
    none w = omega arith

    long : (k s : ℕ) → k ≤ 2 * s → 12 + even k ≤ 2 * (12 + apart_size s)
    long k s h =
        let n = even_near k in cond_both (nat_lt 4 s) s 0 (λ w. 12 + even k ≤ 2 * (12 + w)) (λ _. omega arith)
        (λ f. let l = ltb-false 4 s f in omega arith)

-- ---- all entries

abbrev pub weights : List Entry → ℕ
weights [] = 0
weights (e ∷ es) = weight e + weights es

abbrev pub costs : List (ℕ × Item) → ℕ
costs [] = 0
costs (i ∷ xs) = cost i + costs xs

-- an entry of that tag pays: twice its weight is the cost or more
abbrev pub Pays : ℕ → ℕ → List Entry → Type 0
Pays t c [] = ⊥
Pays t c (e ∷ es) = ((e.tag ≡ t) × (c ≤ 2 * weight e)) ⊎ Pays t c es

-- some entry pays for each item
abbrev pub PayEach : List Entry → List (ℕ × Item) → Type 0
PayEach es xs = AllByRecursion (λ i. Pays i.0 (cost i) es) xs

pays_above : (k t c : ℕ) (es : List Entry) → AllByRecursion (λ u. k < u) (map (λ e. e.tag) es) → Pays t c es → k < t
pays_above k t c [] h p = absurd p
pays_above k t c (e ∷ es) h p = elim p [ inl q ↦ (let l = h.0 in let s = q.0 in omega arith) | inr q ↦ pays_above k t c es h.1 q ]

-- the first entry pays for no tag above its own
pay_later : (e : Entry) (es : List Entry) (xs : List (ℕ × Item)) → AllByRecursion (λ u. e.tag < u) (map (λ i. i.0) xs)
    → PayEach (e ∷ es) xs → PayEach es xs
pay_later e es [] h p = tt
pay_later e es (x ∷ xs) h p =
    (elim p.0 [ inl q ↦ absurd (let l = h.0 in let s = q.0 in omega arith) | inr q ↦ q ], pay_later e es xs h.1 p.1)

-- As tags ascend, no entry is counted twice.
pub pay_all : (xs : List (ℕ × Item)) (es : List Entry) → Rising (map (λ i. i.0) xs) → Rising (map (λ e. e.tag) es) → PayEach es xs
    → costs xs ≤ 2 * weights es
pay_all [] es r s p = omega arith
pay_all (x ∷ xs) [] r s p = absurd p.0
pay_all (x ∷ xs) (e ∷ es) r s p = elim p.0 [
  | inl q ↦
      let above : AllByRecursion (λ u. e.tag < u) (map (λ i. i.0) xs) =
      each_map (λ u. x.0 < u) (λ u. e.tag < u) (λ u l. let t = q.0 in omega arith) (map (λ i. i.0) xs) r.0 in
      let rest : costs xs ≤ 2 * weights es = pay_all xs es r.1 s.1 (pay_later e es xs above p.1) in
      let c = q.1 in omega arith
  | inr q ↦
      let k : e.tag < x.0 = pays_above e.tag x.0 (cost x) es s.0 q in
      let above : AllByRecursion (λ u. e.tag < u) (map (λ i. i.0) xs) =
      each_map (λ u. x.0 < u) (λ u. e.tag < u) (λ u l. omega arith) (map (λ i. i.0) xs) r.0 in
      let rest : costs (x ∷ xs) ≤ 2 * weights es = pay_all (x ∷ xs) es r s.1 (q, pay_later e es xs above p.1) in
      omega arith
]

-- ---- which entry pays

-- one that is found
pub pays_found : (t c : ℕ) (test : Entry → Bool) (es : List Entry) (e : Entry) → find test es ≡ Some e → e.tag ≡ t → c ≤ 2 * weight e
    → Pays t c es
pays_found t c test [] e r l k = cc
pays_found t c test (y ∷ es) e r l k = elim (cases_Bool (test y)) [
  | inl q ↦ let s : Some y ≡ Some e = sym (cond-true (test y) (Some y) (find test es) q) ∙ r in
      let same : e ≡ y = cc in
      inl (subst (λ z. (z.tag ≡ t) × (c ≤ 2 * weight z)) same (l, k))
  | inr q ↦ inr (pays_found t c test es e (sym (cond-false (test y) (Some y) (find test es) q) ∙ r) l k)
]

-- a property of each is one of the element that is found, and it passes the test
pub found_is : (P : Entry → Type 0) (test : Entry → Bool) (es : List Entry) (e : Entry) → AllByRecursion P es → find test es ≡ Some e
    → P e × (test e ≡ true)
found_is P test [] e h r = cc
found_is P test (y ∷ es) e h r = elim (cases_Bool (test y)) [
  | inl q ↦ let s : Some y ≡ Some e = sym (cond-true (test y) (Some y) (find test es) q) ∙ r in
      let same : y ≡ e = cc in
      subst (λ z. P z × (test z ≡ true)) same (h.0, q)
  | inr q ↦ found_is P test es e h.1 (sym (cond-false (test y) (Some y) (find test es) q) ∙ r)
]

-- one that makes a field
pub pay_fields : (val : Entry → Option Value) (es : List Entry)
    → AllByRecursion (λ e. (v : Value) → val e ≡ Some v → cost (e.tag, Field v) ≤ 2 * weight e) es →
    PayEach es (field_items (filter_map (λ e. option_map (λ v. (e.tag, v)) (val e)) es))
pay_fields val [] h = tt
pay_fields val (e ∷ es) h =
    go (val e) refl (each_map (λ i. Pays i.0 (cost i) es) (λ i. Pays i.0 (cost i) (e ∷ es)) (λ i p. inr p) (field_items rest)
    (pay_fields val es h.1))
  where
    rest : List (ℕ × Value)
    rest = filter_map (λ e. option_map (λ v. (e.tag, v)) (val e)) es

    go : (x : Option Value) → val e ≡ x → PayEach (e ∷ es) (field_items rest)
        → PayEach (e ∷ es) (field_items (cons_option (option_map (λ v. (e.tag, v)) x) rest))
    go None q k = k
    go (Some v) q k = (inl (refl, h.0 v q), k)

-- ---- chunks and ranges

pub padded_placed : (d : Dir) (xs : List (ℕ × Item)) → 12 * length xs + padded_size (filter_map (placed_chunk d) xs) ≡ costs xs
unfolding placed_chunk
padded_placed d [] = refl
padded_placed d (i ∷ xs) =
    let rest : List (Chunk × ℕ) = filter_map (placed_chunk d) xs in
    let s : ℕ = item_size i.1 in
    let e : 12 * length xs + padded_size rest ≡ costs xs = padded_placed d xs in
    elim (nat_lt 4 s) as (λ t. 12 * suc (length xs) + padded_size (cons_option (if t then Some (Placed d i.0, s) else None)
    rest) ≡ 12 + (if t then even s else 0) + costs xs) [
      | true ↦ omega arith
      | false ↦ omega arith
    ]

pub total_placed : (o : Order) (es : List Entry) → 12 * length es + total (filter_map (placed_range o) es) ≡ weights es
unfolding placed_range
total_placed o [] = refl
total_placed o (e ∷ es) =
    let rest : List Range = filter_map (placed_range o) es in
    let s : ℕ = raw_size e in
    let k : 12 * length es + total rest ≡ weights es = total_placed o es in
    elim (nat_lt 4 s) as (λ t. 12 * suc (length es) + total (cons_option (if t then Some (range (offset o e) s) else None) rest) ≡ 12 + (if
    t then s else 0) + weights es) [
      | true ↦ omega arith
      | false ↦ omega arith
    ]
