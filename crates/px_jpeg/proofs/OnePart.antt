-- One part, computed from the bytes, and as the grammar says it.
use Rattle.std.proofs.Common.{◌≡◌, ◌≢◌, ◌≤◌, ◌+◌, ◌-◌, ◌*◌, ◌==◌, ◌⊎◌, ℕ, zero, suc, Bool, true, false, not, nat_le, inl, inr}
use Rattle.std.proofs.Common.{List, [], ◌∷◌, ◌++◌, length, take, drop, get_or, refl, sym, ap, ◌∙◌, subst, arith, if◌then◌else◌}
use Rattle.std.proofs.Common.{eq-eqb, leb-true, le-leb, length-drop, length-append, append_assoc, drop_at, length-take-le}
use Rattle.std.proofs.lemmas.Bool.{cond-true, cond-false, cases_Bool, eqb-false, ne_eqb, and_parts, and_from, or_cases, or_left, or_right}
use Rattle.std.proofs.lemmas.Bool.{not-true, not_from_false, both_ways}
use Rattle.std.proofs.lemmas.List.{take-append-drop}
use Rattle.px_jpeg.specs.declared.parts.Part.{Part}
use Rattle.px_jpeg.specs.Head.{AreFill, stands_alone, IsAlone, IsSegment, IsPart}
use Rattle.px_jpeg.specs.Fault.{Opens}
use Rattle.px_jpeg.specs.Reading.{marks, after, code_of, count, is_whole, is_part_of, size_of, part_of, is_part, part, size}
use Rattle.px_jpeg.proofs.Marks.{marks_fill, marks_other, Filled, filled_from_marks, all_fill, after_other}

-- ---- the definitions, at what the code finds

pub is_part_is : (x y : List ℕ) (n : ℕ) → n ≡ marks x → y ≡ drop n x → is_part_of n y ≡ is_part x
unfolding is_part
is_part_is x y n m e = ap (is_part_of n) (e ∙ ap (λ (k : ℕ). drop k x) m) ∙ ap (λ (k : ℕ). is_part_of k (after x)) m

pub part_is : (p : ℕ) (x y : List ℕ) (n : ℕ) → n ≡ marks x → y ≡ drop n x → part_of (p + n) y ≡ part p x
unfolding part
part_is p x y n m e = ap (part_of (p + n)) (e ∙ ap (λ (k : ℕ). drop k x) m) ∙ ap (λ (k : ℕ). part_of (p + k) (after x)) m

pub size_is : (x y : List ℕ) (n : ℕ) → n ≡ marks x → y ≡ drop n x → n + size_of y ≡ size x
unfolding size
size_is x y n m e = ap (λ (z : List ℕ). n + size_of z) (e ∙ ap (λ (k : ℕ). drop k x) m) ∙ ap (λ (k : ℕ). k + size_of (after x)) m

part_alone : (p : ℕ) (y : List ℕ) → stands_alone (code_of y) ≡ true
    → ◌≡◌ {A = Part} (record { code = code_of y; start = p + 1; size = 0 }) (part_of p y)
part_alone p y h = ap (λ (b : Bool). let q : Part = record {
  code = code_of y;
  start = p + (if b then 1 else 3);
  size = if b then 0 else count y - 2;
} in q) (sym h)

part_segment : (p : ℕ) (y : List ℕ) → stands_alone (code_of y) ≡ false
    → ◌≡◌ {A = Part} (record { code = code_of y; start = p + 3; size = count y - 2 }) (part_of p y)
part_segment p y h = ap (λ (b : Bool). let q : Part = record {
  code = code_of y;
  start = p + (if b then 1 else 3);
  size = if b then 0 else count y - 2;
} in q) (sym h)

-- ---- what the code finds

nonzero : (c : ℕ) → c ≢ 0 → not (c == 0) ≡ true
nonzero c h = not_from_false (c == 0) (ne_eqb c 0 h)

pub found_alone : (p : ℕ) (x y : List ℕ) (n : ℕ) → n ≡ marks x → y ≡ drop n x → 1 ≤ n → 1 ≤ length y → code_of y ≢ 0
    → stands_alone (code_of y) ≡ true
    → (is_part x ≡ true) × ◌≡◌ {A = Part} (record { code = code_of y; start = p + n + 1; size = 0 }) (part p x)
found_alone p x y n m e k l c h = (
  sym (is_part_is x y n m e)
      ∙ and_from _ (is_whole y) (and_from _ (not (code_of y == 0))
      (and_from (nat_le 1 n) (nat_le 1 (length y)) (le-leb 1 n k) (le-leb 1 (length y) l))
      (nonzero (code_of y) c)) (or_left (stands_alone (code_of y)) _ h),
  part_alone (p + n) y h ∙ part_is p x y n m e,
)

pub found_segment : (p : ℕ) (x y : List ℕ) (n : ℕ) → n ≡ marks x → y ≡ drop n x → 1 ≤ n → code_of y ≢ 0
    → stands_alone (code_of y) ≡ false → 3 ≤ length y → 2 ≤ count y → 1 + count y ≤ length y
    → (is_part x ≡ true) × ◌≡◌ {A = Part} (record { code = code_of y; start = p + n + 3; size = count y - 2 }) (part p x)
found_segment p x y n m e k c h l t w = (
  sym (is_part_is x y n m e)
      ∙ and_from _ (is_whole y) (and_from _ (not (code_of y == 0))
      (and_from (nat_le 1 n) (nat_le 1 (length y)) (le-leb 1 n k) (le-leb 1 (length y) (omega arith)))
      (nonzero (code_of y) c))
      (or_right (stands_alone (code_of y)) _ (and_from _ (nat_le (1 + count y) (length y))
      (and_from (nat_le 3 (length y)) (nat_le 2 (count y)) (le-leb 3 (length y) l)
      (le-leb 2 (count y) t)) (le-leb (1 + count y) (length y) w))),
  part_segment (p + n) y h ∙ part_is p x y n m e,
)

pub found_nothing : (x y : List ℕ) (n : ℕ) → n ≡ marks x → y ≡ drop n x → length y ≡ 0 → AreFill x
found_nothing x y n m e l = all_fill x (omega (arith, ap length e, length-drop n x))

pub found_other : (x : List ℕ) → 0 ≡ marks x → 1 ≤ length x → (o : ℕ) × (more : List ℕ) × (x ≡ o ∷ more) × (o ≢ 255)
found_other [] m l = absurd (omega arith)
found_other (o ∷ x) m l = (
  o,
  x,
  refl,
  λ h. let e = cond-true (o == 255) (suc (marks x)) 0 (eq-eqb o 255 h) in let f : marks (o ∷ x) ≡ suc (marks x) = e in
      absurd (omega arith),
)

-- a marker's code at the end of the bytes FF
module _ (x : List ℕ) (k c : ℕ) (z : List ℕ) (m : marks x ≡ suc k) (e : drop (suc k) x ≡ c ∷ z) where
  pub fill_coded : Filled x k
  fill_coded = filled_from_marks k x m

  pub coded_whole : x ≡ fill_coded.fill ++ 255 ∷ c ∷ z
  coded_whole = fill_coded.whole ∙ ap (λ (y : List ℕ). fill_coded.fill ++ 255 ∷ y) e

  pub coded_other : c ≢ 255
  coded_other = after_other x z c (ap (λ (n : ℕ). drop n x) m ∙ e)

pub found_zero : (x y : List ℕ) (n : ℕ) → n ≡ marks x → y ≡ drop n x → 1 ≤ n → 1 ≤ length y → code_of y ≡ 0
    → (fill : List ℕ) × (more : List ℕ) × AreFill fill × (x ≡ fill ++ 255 ∷ 0 ∷ more)
found_zero x y zero m e k l h = absurd (omega arith)
found_zero x [] (suc n) m e k l h = absurd (omega arith)
found_zero x (c ∷ z) (suc n) m e k l h =
    let f = fill_coded x n c z (sym m) (sym e) in
    (f.fill, z, f.filled, coded_whole x n c z (sym m) (sym e) ∙ ap (λ (d : ℕ). f.fill ++ 255 ∷ d ∷ z) h)

pub found_open : (x y : List ℕ) (n : ℕ) → n ≡ marks x → y ≡ drop n x → 1 ≤ n → 1 ≤ length y → code_of y ≢ 0 → stands_alone
    (code_of y) ≡ false
    → (more : List ℕ) × Opens x more × (length y ≡ 1 + length more) × ((i : ℕ) → get_or y (1 + i) 0 ≡ get_or more i 0)
found_open x y zero m e k l c h = absurd (omega arith)
found_open x [] (suc n) m e k l c h = absurd (omega arith)
found_open x (d ∷ z) (suc n) m e k l c h =
    let f = fill_coded x n d z (sym m) (sym e) in (
      z,
      record {
        fill = f.fill;
        code = d;
        filled = f.filled;
        marker = (c, coded_other x n d z (sym m) (sym e));
        segment = h;
        whole = coded_whole x n d z (sym m) (sym e);
      },
      omega arith,
      λ i. ap (λ (j : ℕ). get_or (d ∷ z) j 0) (let s : 1 + i ≡ suc i = omega arith in s),
    )

-- ---- from the grammar

-- the bytes FF end at a code
module _ (fill : List ℕ) (c : ℕ) (w : List ℕ) (f : AreFill fill) (o : c ≢ 255) where
  pub opened_marks : marks (fill ++ 255 ∷ c ∷ w) ≡ length fill + 1
  opened_marks = marks_fill fill (255 ∷ c ∷ w) f ∙ ap (λ (n : ℕ). length fill + suc n) (marks_other c w o)

  pub opened_after : drop (length fill + 1) (fill ++ 255 ∷ c ∷ w) ≡ c ∷ w
  opened_after =
      ap (drop (length fill + 1)) (sym (append_assoc fill (255 ∷ []) (c ∷ w)))
      ∙ drop_at (fill ++ 255 ∷ []) (c ∷ w) (length fill + 1) (length-append fill (255 ∷ []))

-- the part q is at the start of x, in n bytes
pub record Reads (p : ℕ) (q : Part) (n : ℕ) (x : List ℕ) : Type 0 where
  pub there : is_part x ≡ true
  pub value : part p x ≡ q
  pub sized : size x ≡ n

reads_alone : (p : ℕ) (q : Part) (a rest : List ℕ) → IsAlone p q a → Reads p q (length a) (a ++ rest)
reads_alone p q a rest r =
    let x = r.fill ++ 255 ∷ q.code ∷ rest in
    let y = q.code ∷ rest in
    let n = length r.fill + 1 in
    let whole : a ++ rest ≡ x = ap (λ (z : List ℕ). z ++ rest) r.whole ∙ append_assoc r.fill (255 ∷ q.code ∷ []) rest in
    let m : n ≡ marks x = sym (opened_marks r.fill q.code rest r.filled r.marker.1) in
    let e : y ≡ drop n x = sym (opened_after r.fill q.code rest r.filled r.marker.1) in
    let f = found_alone p x y n m e (omega arith) (omega arith) r.marker.0 r.alone in
    let s : q.start ≡ p + n + 1 = omega (arith, r.start) in
    let same : ◌≡◌ {A = Part} q (record { code = q.code; start = p + n + 1; size = 0 }) =
    λ i. record { code = q.code; start = s i; size = r.empty i } in
    let long = length-append r.fill (255 ∷ q.code ∷ []) in
    let k = ap length r.whole in
    subst (Reads p q (length a)) (sym whole) (record {
      there = f.0;
      value = sym f.1 ∙ sym same;
      sized = sym (size_is x y n m e) ∙ ap (λ (j : ℕ). n + j) (cond-true (stands_alone q.code) 1 (1 + count y) r.alone) ∙ omega arith;
    })

reads_segment : (p : ℕ) (q : Part) (a rest : List ℕ) → IsSegment p q a → Reads p q (length a) (a ++ rest)
reads_segment p q a rest r =
    let x = r.fill ++ 255 ∷ q.code ∷ r.high ∷ r.low ∷ (r.octets ++ rest) in
    let y = q.code ∷ r.high ∷ r.low ∷ (r.octets ++ rest) in
    let n = length r.fill + 1 in
    let whole : a ++ rest ≡ x = ap (λ (z : List ℕ). z ++ rest) r.whole ∙ append_assoc r.fill
    (255 ∷ q.code ∷ r.high ∷ r.low ∷ r.octets) rest in
    let m : n ≡ marks x = sym (opened_marks r.fill q.code (r.high ∷ r.low ∷ (r.octets ++ rest)) r.filled r.marker.1) in
    let e : y ≡ drop n x = sym (opened_after r.fill q.code (r.high ∷ r.low ∷ (r.octets ++ rest)) r.filled r.marker.1) in
    let c : count y ≡ 2 + length r.octets = r.counted in
    let l = length-append r.octets rest in
    let f = found_segment p x y n m e (omega arith) r.marker.0 r.segment (omega arith) (omega arith) (omega arith) in
    let s : q.start ≡ p + n + 3 = omega (arith, r.start) in
    let z : q.size ≡ count y - 2 = omega (arith, r.size) in
    let same : ◌≡◌ {A = Part} q (record { code = q.code; start = p + n + 3; size = count y - 2 }) =
    λ i. record { code = q.code; start = s i; size = z i } in
    let long = length-append r.fill (255 ∷ q.code ∷ r.high ∷ r.low ∷ r.octets) in
    let k = ap length r.whole in
    subst (Reads p q (length a)) (sym whole) (record {
      there = f.0;
      value = sym f.1 ∙ sym same;
      sized = sym (size_is x y n m e) ∙ ap (λ (j : ℕ). n + j) (cond-false (stands_alone q.code) 1 (1 + count y) r.segment) ∙ omega arith;
    })

pub part_reads : (p : ℕ) (q : Part) (a rest : List ℕ) → IsPart p q a → Reads p q (length a) (a ++ rest)
part_reads p q a rest (inl r) = reads_alone p q a rest r
part_reads p q a rest (inr r) = reads_segment p q a rest r

-- ---- to the grammar

-- x begins with the part q, in n bytes
pub record Begins (p : ℕ) (q : Part) (n : ℕ) (x : List ℕ) : Type 0 where
  pub front : List ℕ
  pub whole : x ≡ front ++ drop n x
  pub is : IsPart p q front
  pub long : length front ≡ n

-- what the test of a part means
pub record IsClaimed (n : ℕ) (y : List ℕ) : Type 0 where
  pub some : 1 ≤ n
  pub there : 1 ≤ length y
  pub nonzero : code_of y ≢ 0
  pub whole : (stands_alone (code_of y) ≡ true) ⊎ ((3 ≤ length y) × (2 ≤ count y) × (1 + count y ≤ length y))

pub part_holds : (n : ℕ) (y : List ℕ) → is_part_of n y ≡ true → IsClaimed n y
part_holds n y h =
    let a = and_parts _ (is_whole y) h in
    let b = and_parts _ (not (code_of y == 0)) a.0 in
    let c = and_parts (nat_le 1 n) (nat_le 1 (length y)) b.0 in record {
      some = leb-true 1 n c.0;
      there = leb-true 1 (length y) c.1;
      nonzero = eqb-false (code_of y) 0 (not-true (code_of y == 0) b.1);
      whole = elim (or_cases (stands_alone (code_of y)) _ a.1) [
        | inl s ↦ inl s
        | inr t ↦
            let d = and_parts _ (nat_le (1 + count y) (length y)) t in
            let g = and_parts (nat_le 3 (length y)) (nat_le 2 (count y)) d.0 in
            inr (leb-true 3 (length y) g.0, leb-true 2 (count y) g.1, leb-true (1 + count y) (length y) d.1)
      ];
    }

cut_at : (x a rest : List ℕ) (n : ℕ) → x ≡ a ++ rest → length a ≡ n → x ≡ a ++ drop n x
cut_at x a rest n w l = w ∙ ap (λ (z : List ℕ). a ++ z) (sym (drop_at a rest n l) ∙ ap (drop n) (sym w))

begins_alone : (p k c : ℕ) (x z : List ℕ) → marks x ≡ suc k → drop (suc k) x ≡ c ∷ z → c ≢ 0 → stands_alone c ≡ true
    → Begins p (part_of (p + suc k) (c ∷ z)) (suc k + size_of (c ∷ z)) x
begins_alone p k c x z m e o s =
    let f = fill_coded x k c z m e in
    let a = f.fill ++ 255 ∷ c ∷ [] in
    let n : size_of (c ∷ z) ≡ 1 = cond-true (stands_alone c) 1 (1 + count (c ∷ z)) s in
    let l = length-append f.fill (255 ∷ c ∷ []) in
    let g = f.long in
    let long : length a ≡ suc k + size_of (c ∷ z) = omega arith in
    record {
      front = a;
      whole = cut_at x a z (suc k + size_of (c ∷ z)) (coded_whole x k c z m e ∙ sym (append_assoc f.fill (255 ∷ c ∷ []) z)) long;
      is = inl (record {
        fill = f.fill;
        filled = f.filled;
        marker = (o, coded_other x k c z m e);
        alone = s;
        whole = refl;
        start = let t : ◌≡◌ {A = ℕ} (if stands_alone c then 1 else 3) 1 = cond-true (stands_alone c) 1 3 s in omega arith;
        empty = cond-true (stands_alone c) 0 (count (c ∷ z) - 2) s;
      });
      long = long;
    }

begins_segment : (p k c h l : ℕ) (x z : List ℕ) → marks x ≡ suc k → drop (suc k) x ≡ c ∷ h ∷ l ∷ z → c ≢ 0 → stands_alone c ≡ false
    → 2 ≤ 256 * h + l → 256 * h + l ≤ 2 + length z
    → Begins p (part_of (p + suc k) (c ∷ h ∷ l ∷ z)) (suc k + size_of (c ∷ h ∷ l ∷ z)) x
begins_segment p k c h l x z m e o s two space =
    let y = c ∷ h ∷ l ∷ z in
    let f = fill_coded x k c (h ∷ l ∷ z) m e in
    let octets = take (256 * h + l - 2) z in
    let rest = drop (256 * h + l - 2) z in
    let a = f.fill ++ 255 ∷ c ∷ h ∷ l ∷ octets in
    let n : size_of y ≡ 1 + count y = cond-false (stands_alone c) 1 (1 + count y) s in
    let j = length-append f.fill (255 ∷ c ∷ h ∷ l ∷ octets) in
    let g = f.long in
    let t = length-take-le (256 * h + l - 2) z (omega arith) in
    let long : length a ≡ suc k + size_of y = omega arith in
    record {
      front = a;
      whole = cut_at x a rest (suc k + size_of y) (coded_whole x k c (h ∷ l ∷ z) m e
          ∙ ap (λ (v : List ℕ). f.fill ++ 255 ∷ c ∷ h ∷ l ∷ v) (sym (take-append-drop (256 * h + l - 2) z))
          ∙ sym (append_assoc f.fill (255 ∷ c ∷ h ∷ l ∷ octets) rest)) long;
      is = inr (record {
        fill = f.fill;
        high = h;
        low = l;
        octets = octets;
        filled = f.filled;
        marker = (o, coded_other x k c (h ∷ l ∷ z) m e);
        segment = s;
        whole = refl;
        counted = omega arith;
        start = let v : ◌≡◌ {A = ℕ} (if stands_alone c then 1 else 3) 3 = cond-false (stands_alone c) 1 3 s in omega arith;
        size = cond-false (stands_alone c) 0 (count y - 2) s ∙ sym t;
      });
      long = long;
    }

begins_of : (p k : ℕ) (x y : List ℕ) → marks x ≡ suc k → drop (suc k) x ≡ y → IsClaimed (suc k) y
    → Begins p (part_of (p + suc k) y) (suc k + size_of y) x
begins_of p k x [] m e holds = let t = holds.there in absurd (omega arith)
begins_of p k x (c ∷ z) m e holds = elim (cases_Bool (stands_alone c)) [
  | inl s ↦ begins_alone p k c x z m e holds.nonzero s
  | inr s ↦ elim holds.whole [
    | inl t ↦ absurd (both_ways (stands_alone c) s t)
    | inr w ↦ long z e w s
  ]
]
  where
    long : (v : List ℕ) → drop (suc k) x ≡ c ∷ v → (3 ≤ length (c ∷ v)) × (2 ≤ count (c ∷ v)) × (1 + count (c ∷ v) ≤ length (c ∷ v))
        → stands_alone c ≡ false → Begins p (part_of (p + suc k) (c ∷ v)) (suc k + size_of (c ∷ v)) x
    long [] e w s = absurd (omega (arith, w.0))
    long (h ∷ []) e w s = absurd (omega (arith, w.0))
    long (h ∷ l ∷ v) e w s = begins_segment p k c h l x v m e holds.nonzero s w.1 (omega (arith, w.2))

pub part_begins : (p : ℕ) (x : List ℕ) → is_part x ≡ true → Begins p (part p x) (size x) x
part_begins p x h =
    let e : is_part_of (marks x) (after x) ≡ true = is_part_is x (after x) (marks x) refl refl ∙ h in
    of (marks x) refl (part_holds (marks x) (after x) e)
  where
    of : (n : ℕ) → n ≡ marks x → IsClaimed (marks x) (after x) → Begins p (part p x) (size x) x
    of zero m h = let s = h.some in absurd (omega arith)
    of (suc k) m h =
        let e : after x ≡ drop (suc k) x = ap (λ (n : ℕ). drop n x) (sym m) in
        let b = begins_of p k x (after x) (sym m) (sym e) (subst (λ (n : ℕ). IsClaimed n (after x)) (sym m) h) in
        subst (λ (n : ℕ). Begins p (part p x) n x) (size_is x (after x) (suc k) m e)
        (subst (λ (q : Part). Begins p q (suc k + size_of (after x)) x) (part_is p x (after x) (suc k) m e) b)
