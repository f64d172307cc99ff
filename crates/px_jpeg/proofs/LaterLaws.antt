-- The data of a segment of which only the first bytes are known, and whether more bytes make them Exif without a header.
use Rattle.std.proofs.Common.{◌≡◌, ◌≤◌, ◌<◌, ◌+◌, ◌-◌, ◌==◌, ◌⊎◌, ◌||◌, ℕ, zero, suc, true, false, inl, inr, nat_eq}
use Rattle.std.proofs.Common.{List, [], ◌∷◌, ◌++◌, length, take, drop, get_or, refl, sym, ap, ◌∙◌, arith, eqb-true}
use Rattle.std.proofs.Common.{length-append, length-drop, append_assoc}
use Rattle.std.proofs.Math.ListN.{replicate}
use Rattle.std.proofs.Math.Seq.{get_or-append_right, take-append_seam}
use Rattle.std.proofs.lemmas.Bool.{and_parts, or_cases, false_from_ne_true}
use Rattle.std.proofs.lemmas.Bool.Decides.{Decides-eqb}
use Rattle.std.proofs.lemmas.List.{length-replicate, get_or-replicate, take-append-drop, take-append-le, drop-append-le}
use Rattle.std.proofs.lemmas.Slice.Eq.{starts_is}
use Rattle.std.specs.Cmp.Lexicographic.{pointwise}
use Rattle.std.specs.List.{AllByRecursion, starts_with}
use Rattle.px_jpeg.specs.Pieces.{exif_mark, is_exif, is_header}
use Rattle.px_jpeg.specs.calls.Later.{MayBeLater}

-- ---- a text at the start

starts_front : (x p : List ℕ) → starts_with nat_eq x p ≡ true → x ≡ p ++ drop (length p) x
starts_front x p h = (starts_is Decides-eqb x p (starts_with nat_eq x p) refl).0 h

starts_back : (x p rest : List ℕ) → x ≡ p ++ rest → starts_with nat_eq x p ≡ true
starts_back x p rest e = (starts_is Decides-eqb x p (starts_with nat_eq x p) refl).1 rest e

pub exif_front : (c : ℕ) (x : List ℕ) → is_exif c x ≡ true → (c ≡ 225) × (x ≡ exif_mark ++ drop 6 x)
unfolding is_exif
exif_front c x h =
    let a = and_parts (c == 225) (starts_with nat_eq x exif_mark) h in (eqb-true c 225 a.0, starts_front x exif_mark a.1)

pub exif_back : (x rest : List ℕ) → x ≡ exif_mark ++ rest → is_exif 225 x ≡ true
unfolding is_exif
exif_back x rest e = starts_back x exif_mark rest e

-- ---- headers

header_long : (x : List ℕ) → is_header x ≡ true → (4 ≤ length x) × ((get_or x 3 0 ≡ 0) ⊎ (get_or x 3 0 ≡ 42))
unfolding is_header
header_long x h = elim (or_cases _ _ h) [
  | inl t ↦
      let e = starts_front x (73 ∷ 73 ∷ 42 ∷ 0 ∷ []) t in
      (omega (arith, ap (λ (y : List ℕ). length y) e), inl (ap (λ (y : List ℕ). get_or y 3 0) e))
  | inr t ↦
      let e = starts_front x (77 ∷ 77 ∷ 0 ∷ 42 ∷ []) t in
      (omega (arith, ap (λ (y : List ℕ). length y) e), inr (ap (λ (y : List ℕ). get_or y 3 0) e))
]

-- only the first four bytes tell
header_same : (x y : List ℕ) → 4 ≤ length x → is_header (x ++ y) ≡ is_header x
unfolding is_header
header_same x y l =
    ap (λ (z : List ℕ). pointwise nat_eq (73 ∷ 73 ∷ 42 ∷ 0 ∷ []) z || pointwise nat_eq (77 ∷ 77 ∷ 0 ∷ 42 ∷ []) z) (take-append-le 4 x y l)

-- with bytes 1 behind fewer than four bytes there is none
pub header_ones : (x : List ℕ) (n : ℕ) → length x < 4 → is_header (x ++ replicate n 1) ≡ false
header_ones x n l = false_from_ne_true (is_header (x ++ replicate n 1)) (λ h.
    let (m, k) = header_long (x ++ replicate n 1) h in
    let long : 4 ≤ length x + n = omega (arith, m, length-append x (replicate n 1), length-replicate {A = ℕ} n 1) in
    let third : get_or (x ++ replicate n 1) 3 0 ≡ 1 =
    get_or-append_right x (replicate n 1) 3 0 (omega arith) ∙ get_or-replicate n (3 - length x) 1 0 (omega arith) in
    elim k [ inl e ↦ absurd (omega arith) | inr e ↦ absurd (omega arith) ])

-- ---- bytes

pub ones_bytes : (n : ℕ) → AllByRecursion (λ o. o < 256) (replicate n 1)
ones_bytes zero = tt
ones_bytes (suc n) = (omega arith, ones_bytes n)

pub all_append : (x y : List ℕ) → AllByRecursion (λ o. o < 256) x → AllByRecursion (λ o. o < 256) y → AllByRecursion (λ o. o < 256) (x ++ y)
all_append [] y h k = k
all_append (o ∷ x) y h k = (h.0, all_append x y h.1 k)

all_drop : (n : ℕ) (x : List ℕ) → AllByRecursion (λ o. o < 256) x → AllByRecursion (λ o. o < 256) (drop n x)
all_drop zero x h = h
all_drop (suc n) [] h = tt
all_drop (suc n) (o ∷ x) h = all_drop n x h.1

pub mark_bytes : AllByRecursion (λ o. o < 256) exif_mark
mark_bytes = (omega arith, (omega arith, (omega arith, (omega arith, (omega arith, (omega arith, tt))))))

-- ---- n bytes of which x are the first

pub later_none : (n : ℕ) (x : List ℕ) → n < 6 → MayBeLater n x → ⊥
later_none n x l m =
    let e = ap (λ (y : List ℕ). length y) (exif_front 225 (x ++ m.more) m.exif).1 in
    omega (arith, e, m.counted, length-append x m.more, length-append exif_mark (drop 6 (x ++ m.more)))

-- fewer bytes than the mark has
pub later_few : (n : ℕ) (x : List ℕ) → 6 ≤ n → length x < 6 → starts_with nat_eq exif_mark x ≡ true → MayBeLater n x
later_few n x l k h =
    let mark = starts_front exif_mark x h in
    let more : List ℕ = drop (length x) exif_mark ++ replicate (n - 6) 1 in
    let whole : x ++ more ≡ exif_mark ++ replicate (n - 6) 1 =
    sym (append_assoc x (drop (length x) exif_mark) (replicate (n - 6) 1)) ∙ ap (λ (y : List ℕ). y ++ replicate (n - 6) 1) (sym mark) in
    record {
      more = more;
      octets = all_append (drop (length x) exif_mark) (replicate (n - 6) 1) (all_drop (length x) exif_mark mark_bytes) (ones_bytes (n - 6));
      counted =
          omega (
            arith,
            length-append (drop (length x) exif_mark) (replicate (n - 6) 1),
            length-drop (length x) exif_mark,
            length-replicate {A = ℕ} (n - 6) 1,
          );
      exif = exif_back (x ++ more) (replicate (n - 6) 1) whole;
      later = ap (λ (y : List ℕ). is_header (drop 6 y)) whole ∙ header_ones [] (n - 6) (omega arith);
    }

pub few_later : (n : ℕ) (x : List ℕ) → length x < 6 → MayBeLater n x → starts_with nat_eq exif_mark x ≡ true
few_later n x k m =
    let e = (exif_front 225 (x ++ m.more) m.exif).1 in
    let front : x ≡ take (length x) exif_mark =
    sym (take-append_seam x m.more) ∙ ap (take (length x)) e ∙ take-append-le (length x) exif_mark (drop 6 (x ++ m.more)) (omega arith) in
    starts_back exif_mark x (drop (length x) exif_mark)
    (sym (take-append-drop (length x) exif_mark) ∙ ap (λ (y : List ℕ). y ++ drop (length x) exif_mark) (sym front))

-- the mark, and maybe more
module _ (n : ℕ) (x : List ℕ) (l : 6 ≤ length x) where
  after_mark : (y : List ℕ) → drop 6 (x ++ y) ≡ drop 6 x ++ y
  after_mark y = drop-append-le 6 x y l

  pub marked_later : MayBeLater n x → is_exif 225 x ≡ true
  marked_later m =
      let e = (exif_front 225 (x ++ m.more) m.exif).1 in
      let front : take 6 x ≡ exif_mark =
      sym (take-append-le 6 x m.more l) ∙ ap (take 6) e ∙ take-append_seam exif_mark (drop 6 (x ++ m.more)) in
      exif_back x (drop 6 x) (sym (take-append-drop 6 x) ∙ ap (λ (y : List ℕ). y ++ drop 6 x) front)

  filled : length x ≤ n → is_exif 225 x ≡ true → is_header (drop 6 x ++ replicate (n - length x) 1) ≡ false → MayBeLater n x
  filled k h j =
      let more : List ℕ = replicate (n - length x) 1 in record {
        more = more;
        octets = ones_bytes (n - length x);
        counted = omega (arith, length-replicate {A = ℕ} (n - length x) 1);
        exif = exif_back (x ++ more) (drop 6 x ++ more)
            (ap (λ (y : List ℕ). y ++ more) (exif_front 225 x h).1 ∙ append_assoc exif_mark (drop 6 x) more);
        later = ap is_header (after_mark more) ∙ j;
      }

  pub later_short : length x ≤ n → is_exif 225 x ≡ true → length x < 10 → MayBeLater n x
  later_short k h j = filled k h (header_ones (drop 6 x) (n - length x) (omega (arith, length-drop 6 x)))

  pub later_long : length x ≤ n → is_exif 225 x ≡ true → 10 ≤ length x → is_header (drop 6 x) ≡ false → MayBeLater n x
  later_long k h j f =
      filled k h (header_same (drop 6 x) (replicate (n - length x) 1) (omega (arith, length-drop 6 x)) ∙ f)

  pub long_later : 10 ≤ length x → MayBeLater n x → is_header (drop 6 x) ≡ false
  long_later j m =
      sym (header_same (drop 6 x) m.more (omega (arith, length-drop 6 x))) ∙ ap is_header (sym (after_mark m.more)) ∙ m.later
