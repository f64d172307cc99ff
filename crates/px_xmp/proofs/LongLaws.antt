-- A tag with more attributes than this reader judges is found.
use Rattle.std.proofs.Common.{◌≡◌, ◌≢◌, ◌≤◌, ◌<◌, ◌⊎◌, ◌+◌, ◌-◌, ◌*◌, ◌==◌, ◌||◌, ◌++◌, ◌∙◌, inl, inr, refl, ℕ, zero, suc, Bool, true, false, not, if◌then◌else◌, List, [], ◌∷◌, length, take, drop, sym, ap, subst, arith, append_assoc, length-append, length-drop, length-take-le, drop-drop, take-add, take-take, ne_eqb}
use Rattle.std.specs.List.{AllByRecursion}
use Rattle.std.proofs.lemmas.List.{drop_at, take_at, take-append-le}
use Rattle.std.proofs.lemmas.Bool.{both_ways, or_right}
use Rattle.px_xmp_marks.specs.Reading.{is_space, is_name_start, is_name_char, run, Named, Attr}
use Rattle.px_xmp_marks.specs.Grammar.{IsNcName, IsName, IsAttValue, IsAttribute, AreAttributes, closing}
use Rattle.px_xmp.specs.Limits.{IsCrowded}
use Rattle.px_xmp.specs.calls.Crowded.{has, equals_signs, IsInRun}

neither : (a b : Bool) → (a || b) ≡ false → (a ≡ false) × (b ≡ false)
neither true b h = absurd (cc)
neither false b h = (refl, h)

none_of : (a b : Bool) → a ≡ false → b ≡ false → (a || b) ≡ false
none_of true b e f = absurd (cc)
none_of false b e f = f

side : (n m : ℕ) → (n < m) ⊎ (m ≤ n)
side n zero = inr (omega arith)
side zero (suc m) = inl (omega arith)
side (suc n) (suc m) = elim (side n m) [ inl h ↦ inl (omega (arith, h)) | inr h ↦ inr (omega (arith, h)) ]

-- ---- octets without another

has_take : (c n : ℕ) (x : List ℕ) → has c x ≡ false → has c (take n x) ≡ false
has_take c zero x h = refl
has_take c (suc n) [] h = refl
has_take c (suc n) (o ∷ x) h =
    let (a, b) = neither (o == c) (has c x) h in none_of (o == c) (has c (take n x)) a (has_take c n x b)

has_drop : (c n : ℕ) (x : List ℕ) → has c x ≡ false → has c (drop n x) ≡ false
has_drop c zero x h = h
has_drop c (suc n) [] h = refl
has_drop c (suc n) (o ∷ x) h = has_drop c n x (neither (o == c) (has c x) h).1

has_joined : (c : ℕ) (x y : List ℕ) → has c x ≡ false → has c y ≡ false → has c (x ++ y) ≡ false
has_joined c [] y h g = g
has_joined c (o ∷ x) y h g =
    let (a, b) = neither (o == c) (has c x) h in none_of (o == c) (has c (x ++ y)) a (has_joined c x y b g)

has_front : (c : ℕ) (x y : List ℕ) → has c (x ++ y) ≡ false → has c x ≡ false
has_front c [] y h = refl
has_front c (o ∷ x) y h =
    let (a, b) = neither (o == c) (has c (x ++ y)) h in none_of (o == c) (has c x) a (has_front c x y b)

has_back : (c : ℕ) (x y : List ℕ) → has c (x ++ y) ≡ false → has c y ≡ false
has_back c [] y h = h
has_back c (o ∷ x) y h = has_back c x y (neither (o == c) (has c (x ++ y)) h).1

has_later : (c : ℕ) (x y : List ℕ) → has c y ≡ true → has c (x ++ y) ≡ true
has_later c [] y h = h
has_later c (o ∷ x) y h = or_right (o == c) (has c (x ++ y)) (has_later c x y h)

has_first : (y : List ℕ) (n : ℕ) → take 1 y ≡ 61 ∷ [] → has 61 (take (suc n) y) ≡ true
has_first [] n e = absurd (cc)
has_first (o ∷ y) n e = let same : o ≡ 61 = cc in subst (λ (k : ℕ). ((k == 61) || has 61 (take n y)) ≡ true) (sym same) refl

has_past : (c n : ℕ) (w t : List ℕ) → has c (drop n (w ++ t)) ≡ false → has c (drop (n - length w) t) ≡ false
has_past c n [] t h = let e : n ≡ n - 0 = omega arith in subst (λ (k : ℕ). has c (drop k t) ≡ false) e h
has_past c zero (o ∷ w) t h =
    let e : 0 ≡ 0 - length (o ∷ w) = omega arith in subst (λ (k : ℕ). has c (drop k t) ≡ false) e (has_back c (o ∷ w) t h)
has_past c (suc n) (o ∷ w) t h =
    let e : n - length w ≡ suc n - length (o ∷ w) = omega arith in subst (λ (k : ℕ). has c (drop k t) ≡ false) e (has_past c n w t h)

-- ---- a window

pub run_on : (w : ℕ) (y : List ℕ) (n : ℕ) → IsInRun w y n → (has 60 (take w y) ≡ false → has 61 (take w y) ≡ true → ⊥)
    → (m : ℕ) × IsInRun w (drop w y) m
run_on w y n h none = elim (side n w) [ inl near ↦ absurd (inside near) | inr far ↦ (n - w, outside (n - w) (omega (arith, far))) ]
  where
    inside : n < w → ⊥
    inside near = let j : ℕ = w - n - 1 in
        let k : n + suc j ≡ w = omega (arith, near) in
        let whole : take w y ≡ take n y ++ take (suc j) (drop n y) = sym (ap (λ (z : ℕ). take z y) k) ∙ take-add n (suc j) y in
        let start : n + 1 - w ≡ 0 = omega (arith, near) in
        let front : has 60 (take n y) ≡ false = subst (λ (z : ℕ). has 60 (drop z (take n y)) ≡ false) start h.before in
        let back : has 60 (take (suc j) (drop n y)) ≡ false =
        subst (λ (z : List ℕ). has 60 z ≡ false) (take-take (suc j) w (drop n y) (omega (arith, k))) (has_take 60 (suc j) (take w (drop n y)) h.after) in
        none (subst (λ (z : List ℕ). has 60 z ≡ false) (sym whole) (has_joined 60 (take n y) (take (suc j) (drop n y)) front back))
        (subst (λ (z : List ℕ). has 61 z ≡ true) (sym whole) (has_later 61 (take n y) (take (suc j) (drop n y)) (has_first (drop n y) j h.sign)))

    outside : (k : ℕ) → n ≡ w + k → IsInRun w (drop w y) k
    outside k e =
        let same : drop n y ≡ drop k (drop w y) = ap (λ (z : ℕ). drop z y) e ∙ sym (drop-drop k w y) in
        let size : length (take w y) ≡ w = length-take-le w y (omega (arith, h.within, e)) in
        let start : n + 1 - w - length (take w y) ≡ k + 1 - w = omega (arith, e, size) in
        let front : take n y ≡ take w y ++ take k (drop w y) = ap (λ (z : ℕ). take z y) e ∙ take-add w k y in
        record {
          sign = ap (take 1) (sym same) ∙ h.sign;
          within = omega (arith, h.within, e, length-drop w y);
          before = subst (λ (z : ℕ). has 60 (drop z (take k (drop w y))) ≡ false) start
              (has_past 60 (n + 1 - w) (take w y) (take k (drop w y)) (subst (λ (z : List ℕ). has 60 (drop (n + 1 - w) z) ≡ false) front h.before));
          after = subst (λ (z : List ℕ). has 60 (take w z) ≡ false) same h.after;
        }

-- ---- equals signs

pub equals_step : (y : List ℕ) → equals_signs y ≤ 1 + equals_signs (drop (run (λ o. not (o == 61)) y + 1) y)
equals_step [] = omega arith
equals_step (o ∷ y) = step (o == 61) (equals_step y)
  where
    step : (b : Bool) → equals_signs y ≤ 1 + equals_signs (drop (run (λ z. not (z == 61)) y + 1) y)
        → (if b then suc (equals_signs y) else equals_signs y)
        ≤ 1 + equals_signs (drop ((if not b then suc (run (λ z. not (z == 61)) y) else 0) + 1) (o ∷ y))
    step true h = omega arith
    step false h =
        let n : ℕ = run (λ z. not (z == 61)) y + 1 in
        let e : 1 + n ≡ suc (run (λ z. not (z == 61)) y) + 1 = omega arith in
        let same : drop n y ≡ drop (suc (run (λ z. not (z == 61)) y) + 1) (o ∷ y) = drop-drop n 1 (o ∷ y) ∙ ap (λ (k : ℕ). drop k (o ∷ y)) e in
        subst (λ (k : List ℕ). equals_signs y ≤ 1 + equals_signs k) same h

equals_joined : (x y : List ℕ) → equals_signs (x ++ y) ≡ equals_signs x + equals_signs y
equals_joined [] y = omega arith
equals_joined (o ∷ x) y = step (o == 61) (equals_joined x y)
  where
    step : (b : Bool) → equals_signs (x ++ y) ≡ equals_signs x + equals_signs y
        → (if b then suc (equals_signs (x ++ y)) else equals_signs (x ++ y)) ≡ (if b then suc (equals_signs x) else equals_signs x) + equals_signs y
    step true h = omega (arith, h)
    step false h = h

equals_prefix : (n m : ℕ) (x : List ℕ) → n ≤ m → equals_signs (take n x) ≤ equals_signs (take m x)
equals_prefix n m x h =
    let k : n + (m - n) ≡ m = omega (arith, h) in
    let whole : take m x ≡ take n x ++ take (m - n) (drop n x) = sym (ap (λ (z : ℕ). take z x) k) ∙ take-add n (m - n) x in
    omega (arith, ap equals_signs whole, equals_joined (take n x) (take (m - n) (drop n x)))

-- ---- the octets before the next `<`

pub run_stops : (y s : List ℕ) (k : ℕ) → drop k y ≡ 60 ∷ s → run (λ o. not (o == 60)) y ≤ k
run_stops [] s zero e = absurd (cc)
run_stops [] s (suc k) e = absurd (cc)
run_stops (o ∷ y) s zero e = let same : o ≡ 60 = cc in subst (λ (z : ℕ). (if not (z == 60) then suc (run (λ i. not (i == 60)) y) else 0) ≤ 0) (sym same) (omega arith)
run_stops (o ∷ y) s (suc k) e = step (o == 60) (run_stops y s k e)
  where
    step : (b : Bool) → run (λ i. not (i == 60)) y ≤ k → (if not b then suc (run (λ i. not (i == 60)) y) else 0) ≤ suc k
    step true h = omega arith
    step false h = omega (arith, h)

pub run_covers : (x y : List ℕ) → has 60 x ≡ false → length x ≤ run (λ o. not (o == 60)) (x ++ y)
run_covers [] y h = omega arith
run_covers (o ∷ x) y h =
    let (a, b) = neither (o == 60) (has 60 x) h in
    let rest = run_covers x y b in
    subst (λ (z : Bool). suc (length x) ≤ (if not z then suc (run (λ i. not (i == 60)) (x ++ y)) else 0)) (sym a) (omega (arith, rest))

-- ---- a tag

none_where : (f : ℕ → Bool) → f 60 ≡ false → (x : List ℕ) → AllByRecursion (λ o. f o ≡ true) x → has 60 x ≡ false
none_where f other [] h = refl
none_where f other (o ∷ x) h =
    none_of (o == 60) (has 60 x) (ne_eqb o 60 (λ e. absurd (both_ways (f 60) other (subst (λ (k : ℕ). f k ≡ true) e h.0)))) (none_where f other x h.1)

ncname_bare : (x : List ℕ) → IsNcName x → (1 ≤ length x) × (has 60 x ≡ false)
ncname_bare x h = (
  omega (arith, ap length h.whole),
  subst (λ (z : List ℕ). has 60 z ≡ false) (sym h.whole)
      (none_of (h.first == 60) (has 60 h.others)
      (ne_eqb h.first 60 (λ e. absurd (both_ways (is_name_start 60) refl (subst (λ (k : ℕ). is_name_start k ≡ true) e h.begins))))
      (none_where is_name_char refl h.others h.contains)),
)

name_bare : (x : List ℕ) (n : Named) → IsName x n → (1 ≤ length x) × (has 60 x ≡ false)
name_bare x n (inl (is, e)) = ncname_bare x is
name_bare x n (inr (p, l, i, j, w, e)) =
    let (a, b) = ncname_bare p i in
    let (f, g) = ncname_bare l j in (
      omega (arith, a, ap length w, length-append p (58 ∷ l)),
      subst (λ (z : List ℕ). has 60 z ≡ false) (sym w) (has_joined 60 p (58 ∷ l) b g),
    )

value_bare : (q : ℕ) (v : List ℕ) → AllByRecursion (λ o. (o ≢ q) × (o ≢ 60)) v → has 60 v ≡ false
value_bare q [] h = refl
value_bare q (o ∷ v) h = none_of (o == 60) (has 60 v) (ne_eqb o 60 h.0.1) (value_bare q v h.1)

quote_bare : (q : ℕ) → (q ≡ 34) ⊎ (q ≡ 39) → (q == 60) ≡ false
quote_bare q (inl e) = ne_eqb q 60 (λ f. omega (arith, e, f))
quote_bare q (inr e) = ne_eqb q 60 (λ f. omega (arith, e, f))

quoted_bare : (x v : List ℕ) → IsAttValue x v → (2 ≤ length x) × (has 60 x ≡ false)
quoted_bare x v h = (
  omega (arith, ap length h.whole, length-append v (h.quote ∷ [])),
  subst (λ (z : List ℕ). has 60 z ≡ false) (sym h.whole)
      (none_of (h.quote == 60) (has 60 (v ++ h.quote ∷ [])) (quote_bare h.quote h.is_quote)
      (has_joined 60 v (h.quote ∷ []) (value_bare h.quote v h.inside) (none_of (h.quote == 60) false (quote_bare h.quote h.is_quote) refl))),
)

-- octets without `<`, of which one is an equals sign
pub record Signed (x : List ℕ) (n m : ℕ) : Type 0 where
  pub front : List ℕ
  pub back : List ℕ
  pub whole : x ≡ front ++ 61 ∷ back
  pub before : n ≤ length front
  pub after : m ≤ length back

attribute_signed : (x : List ℕ) (a : Attr) → IsAttribute x a → Signed x 1 2 × (has 60 x ≡ false)
attribute_signed x a h =
    let (s, t, i, j, w) = h.eq in
    let (one, name) = name_bare h.name_octets a.name h.name in
    let (two, quoted) = quoted_bare h.quoted a.value h.value in
    let whole : x ≡ (h.name_octets ++ s) ++ 61 ∷ (t ++ h.quoted) =
    h.whole ∙ ap (λ (z : List ℕ). h.name_octets ++ (z ++ h.quoted)) w ∙ simp append_assoc refl in (
      record {
        front = h.name_octets ++ s;
        back = t ++ h.quoted;
        whole = whole;
        before = omega (arith, one, length-append h.name_octets s);
        after = omega (arith, two, length-append t h.quoted);
      },
      subst (λ (z : List ℕ). has 60 z ≡ false) (sym whole)
          (has_joined 60 (h.name_octets ++ s) (61 ∷ (t ++ h.quoted)) (has_joined 60 h.name_octets s name (none_where is_space refl s i))
          (has_joined 60 t h.quoted (none_where is_space refl t j) quoted)),
    )

pub record Counted (x : List ℕ) (n : ℕ) : Type 0 where
  pub bare : has 60 x ≡ false
  pub long : 5 * n ≤ length x
  pub many : n ≤ equals_signs x

sign_counts : (x y : List ℕ) → 1 ≤ equals_signs (x ++ 61 ∷ y)
sign_counts x y = omega (arith, equals_joined x (61 ∷ y))

attributes_counted : (x : List ℕ) (attributes : List Attr) → AreAttributes x attributes → Counted x (length attributes)
attributes_counted x [] h = record { bare = none_where is_space refl x h; long = omega arith; many = omega arith }
attributes_counted x (a ∷ more) (s, y, rest, i, one, j, k, w) =
    let (sign, bare) = attribute_signed y a j in
    let others = attributes_counted rest more k in
    let sizes : length x ≡ length s + (length y + length rest) = omega (arith, ap length w, length-append s (y ++ rest), length-append y rest) in
    let counts : equals_signs x ≡ equals_signs s + (equals_signs y + equals_signs rest) =
    omega (arith, ap equals_signs w, equals_joined s (y ++ rest), equals_joined y rest) in
    let own : 1 ≤ equals_signs y = omega (arith, ap equals_signs sign.whole, sign_counts sign.front sign.back) in
    let size : 4 ≤ length y = omega (arith, ap length sign.whole, length-append sign.front (61 ∷ sign.back), sign.before, sign.after) in
    record {
      bare = subst (λ (z : List ℕ). has 60 z ≡ false) (sym w)
          (has_joined 60 s (y ++ rest) (none_where is_space refl s i) (has_joined 60 y rest bare others.bare));
      long = omega (arith, sizes, one, size, others.long);
      many = omega (arith, counts, own, others.many);
    }

-- the equals sign of one attribute of many
attribute_among : (x : List ℕ) (attributes : List Attr) (k j : ℕ) → length attributes ≡ k + suc j → AreAttributes x attributes → Signed x (5 * k + 2) (5 * j + 2)
attribute_among x [] k j e h = absurd (omega (arith, e))
attribute_among x (a ∷ more) zero j e (s, y, rest, i, one, is, k, w) =
    let (sign, bare) = attribute_signed y a is in
    let others = attributes_counted rest more k in
    record {
      front = s ++ sign.front;
      back = sign.back ++ rest;
      whole = w ∙ ap (λ (z : List ℕ). s ++ (z ++ rest)) sign.whole ∙ simp append_assoc refl;
      before = omega (arith, one, sign.before, length-append s sign.front);
      after = omega (arith, sign.after, others.long, length-append sign.back rest, e);
    }
attribute_among x (a ∷ more) (suc m) j e (s, y, rest, i, one, is, k, w) =
    let (sign, bare) = attribute_signed y a is in
    let other = attribute_among rest more m j (omega (arith, e)) k in
    let size : 4 ≤ length y = omega (arith, ap length sign.whole, length-append sign.front (61 ∷ sign.back), sign.before, sign.after) in
    record {
      front = s ++ (y ++ other.front);
      back = other.back;
      whole = w ∙ ap (λ (z : List ℕ). s ++ (y ++ z)) other.whole ∙ simp append_assoc refl;
      before = omega (arith, one, size, other.before, length-append s (y ++ other.front), length-append y other.front);
      after = other.after;
    }

-- what follows the `<` of such a tag
pub record IsLong (x : List ℕ) (n : ℕ) : Type 0 where
  pub inner : List ℕ
  pub rest : List ℕ
  pub whole : drop n x ≡ 60 ∷ (inner ++ rest)
  pub bare : has 60 inner ≡ false
  pub long : 1285 ≤ length inner
  pub many : 257 ≤ equals_signs inner
  pub sign : Signed inner 640 640

closing_bare : (b : Bool) → has 60 (closing b) ≡ false
closing_bare true = refl
closing_bare false = refl

pub long_tag : (x : List ℕ) (n : ℕ) → IsCrowded x n → IsLong x n
long_tag x n h =
    let (y, z, name, attributes, w) = h.is_tag in
    let end = closing h.empty in
    let (one, bare) = name_bare y h.name name in
    let all = attributes_counted z h.attributes attributes in
    let j : ℕ = length h.attributes - 129 in
    let sign = attribute_among z h.attributes 128 j (omega (arith, h.many)) attributes in
    record {
      inner = y ++ (z ++ end);
      rest = h.rest;
      whole = h.whole ∙ ap (λ (v : List ℕ). v ++ h.rest) w;
      bare = has_joined 60 y (z ++ end) bare (has_joined 60 z end all.bare (closing_bare h.empty));
      long = omega (arith, all.long, h.many, length-append y (z ++ end), length-append z end);
      many = omega (arith, all.many, h.many, equals_joined y (z ++ end), equals_joined z end);
      sign = record {
        front = y ++ sign.front;
        back = sign.back ++ end;
        whole = ap (λ (v : List ℕ). y ++ (v ++ end)) sign.whole ∙ simp append_assoc refl;
        before = omega (arith, sign.before, length-append y sign.front);
        after = omega (arith, sign.after, h.many, length-append sign.back end);
      };
    }

-- ---- such a tag is found

pub long_in_run : (x : List ℕ) (n : ℕ) → IsLong x n → (m : ℕ) × IsInRun 640 x m
long_in_run x n h =
    let u = h.sign.front in
    let v = h.sign.back in
    let m : ℕ = n + (1 + length u) in
    let split : h.inner ++ h.rest ≡ u ++ (61 ∷ (v ++ h.rest)) = ap (λ (z : List ℕ). z ++ h.rest) h.sign.whole ∙ simp append_assoc refl in
    let whole : drop n x ≡ (60 ∷ u) ++ (61 ∷ (v ++ h.rest)) = h.whole ∙ ap (λ (z : List ℕ). 60 ∷ z) split in
    let tail : drop m x ≡ 61 ∷ (v ++ h.rest) =
    sym (drop-drop (1 + length u) n x) ∙ ap (drop (1 + length u)) whole ∙ drop_at (60 ∷ u) (61 ∷ (v ++ h.rest)) (1 + length u) (omega arith) in
    let front : take m x ≡ take n x ++ (60 ∷ u) =
    take-add n (1 + length u) x ∙ ap (λ (z : List ℕ). take n x ++ z) (ap (take (1 + length u)) whole ∙ take_at (60 ∷ u) (61 ∷ (v ++ h.rest)) (1 + length u) (omega arith)) in
    let size : length (take n x) ≡ n = length-take-le n x (omega (arith, ap length whole, length-drop n x)) in
    let i : ℕ = length u + 1 - 640 in
    let at : length (take n x) + suc i ≡ m + 1 - 640 = omega (arith, size, h.sign.before) in
    let past : drop (m + 1 - 640) (take m x) ≡ drop i u =
    ap (drop (m + 1 - 640)) front ∙ sym (ap (λ (k : ℕ). drop k (take n x ++ (60 ∷ u))) at) ∙ sym (drop-drop (suc i) (length (take n x)) (take n x ++ (60 ∷ u))) ∙ ap (drop (suc i)) (drop_at (take n x) (60 ∷ u) (length (take n x)) refl) in
    let inside : has 60 (u ++ (61 ∷ v)) ≡ false = subst (λ (z : List ℕ). has 60 z ≡ false) h.sign.whole h.bare in
    let ahead : take 640 (drop m x) ≡ take 640 (61 ∷ v) =
    ap (take 640) tail ∙ take-append-le 640 (61 ∷ v) h.rest (omega (arith, h.sign.after)) in (
      m,
      record {
        sign = ap (take 1) tail;
        within = omega (arith, ap length tail, length-drop m x, length-append v h.rest, h.sign.after);
        before = subst (λ (z : List ℕ). has 60 z ≡ false) (sym past) (has_drop 60 i u (has_front 60 u (61 ∷ v) inside));
        after = subst (λ (z : List ℕ). has 60 z ≡ false) (sym ahead) (has_take 60 640 (61 ∷ v) (has_back 60 u (61 ∷ v) inside));
      },
    )

-- what is passed over ends before the tag
pub tag_ahead : (x y : List ℕ) (n at len : ℕ) → IsLong x n → y ≡ drop at x → len ≡ run (λ o. not (o == 60)) y → len ≤ length y → at ≤ n + 1
    → (1285 ≤ length (take len y) → equals_signs (take len y) ≤ 256) → at + (len + 1) ≤ n + 1
tag_ahead x y n at len h octets size within before few = elim (side n at) [ inl past ↦ absurd (inside past) | inr ahead ↦ outside ahead ]
  where
    inside : n < at → ⊥
    inside past =
        let e : n + 1 ≡ at = omega (arith, past, before) in
        let whole : y ≡ h.inner ++ h.rest = octets ∙ sym (ap (λ (k : ℕ). drop k x) e) ∙ sym (drop-drop 1 n x) ∙ ap (drop 1) h.whole in
        let covers : length h.inner ≤ len =
        subst (λ (k : ℕ). length h.inner ≤ k) (sym (size ∙ ap (run (λ o. not (o == 60))) whole)) (run_covers h.inner h.rest h.bare) in
        let signs : equals_signs (take (length h.inner) y) ≤ equals_signs (take len y) = equals_prefix (length h.inner) len y covers in
        let same : take (length h.inner) y ≡ h.inner = ap (take (length h.inner)) whole ∙ take_at h.inner h.rest (length h.inner) refl in
        omega (arith, few (omega (arith, length-take-le len y within, covers, h.long)), signs, ap equals_signs same, h.many)

    outside : at ≤ n → at + (len + 1) ≤ n + 1
    outside ahead =
        let k : ℕ = n - at in
        let e : at + k ≡ n = omega (arith, ahead) in
        let stop : drop k y ≡ 60 ∷ (h.inner ++ h.rest) = ap (drop k) octets ∙ drop-drop k at x ∙ ap (λ (z : ℕ). drop z x) e ∙ h.whole in
        omega (arith, e, size, run_stops y (h.inner ++ h.rest) k stop)

pub long_within : (x : List ℕ) (n : ℕ) → IsLong x n → n + 1 < length x
long_within x n h = omega (arith, ap length h.whole, length-append h.inner h.rest, h.long, length-drop n x)
