-- The characters of a document, one after another.
use Rattle.std.proofs.Common.{◌≡◌, ◌≤◌, ◌+◌, ℕ, true, false, List, [], ◌∷◌, ◌++◌, length, take, drop, refl, sym, ap, subst, ◌∙◌, arith, append_assoc, length-append}
use Rattle.std.proofs.lemmas.List.{drop_at, take_at, take-append-drop, length-take-le, take_all, take-append-le, drop-append-le}
use Rattle.std.proofs.lemmas.Str.{encode_same, length-encode, len_utf8_bounds, IsUtf8-append, IsUtf8-encode}
use Rattle.std.specs.List.{AllByRecursion}
use Rattle.std.specs.Char.{encode_utf8}
use Rattle.std.specs.Str.{encode_utf8_all, IsUtf8, IsValidUpTo, StartsWithNoChar}
use Rattle.px_xmp_text.specs.References.{is_char}
use Rattle.px_xmp_text.specs.calls.Forbidden.{IsForbidden}
use Rattle.px_xmp_text.specs.Characters.{AreCharacters, BeginsWithNone, IsFirstBad, CharactersOrFault}

abbrev Allowed : List ℕ → Type 0
Allowed cs = AllByRecursion (λ c. is_char c ≡ true) cs

encode_some : (c : ℕ) → 1 ≤ length (encode_utf8 c)
encode_some c = omega (arith, length-encode c, len_utf8_bounds c)

-- what follows as many octets as p has, or more, if both begin with characters
aligned : (cs ds y z : List ℕ) → Allowed cs → Allowed ds → encode_utf8_all cs ++ y ≡ encode_utf8_all ds ++ z → 1 ≤ length y → BeginsWithNone y
    → length (encode_utf8_all ds) ≤ length (encode_utf8_all cs)
aligned [] [] y z p q e l n = omega arith
aligned [] (d ∷ ds) y z p q e l n = absurd (n d (encode_utf8_all ds ++ z) q.0 (e ∙ append_assoc (encode_utf8 d) (encode_utf8_all ds) z))
aligned (c ∷ cs) [] y z p q e l n = omega arith
aligned (c ∷ cs) (d ∷ ds) y z p q e l n =
    let same = encode_same c d (encode_utf8_all cs ++ y) (encode_utf8_all ds ++ z)
    (sym (append_assoc (encode_utf8 c) (encode_utf8_all cs) y) ∙ e ∙ append_assoc (encode_utf8 d) (encode_utf8_all ds) z) in
    let more = aligned cs ds y z p.1 q.1 same.1 l n in
    let first = ap (λ (j : ℕ). length (encode_utf8 j)) same.0 in
    omega (arith, more, first, length-append (encode_utf8 c) (encode_utf8_all cs), length-append (encode_utf8 d) (encode_utf8_all ds))

-- characters at the start end where there is none, or before
before : (x : List ℕ) (m n : ℕ) → n ≤ length x → IsFirstBad x m → AreCharacters (take n x) → n ≤ m
before x m n l h (ds, q, e) =
    let (cs, p, f) = h.before in
    let lm = length-take-le m x (omega (arith, h.within)) in
    let ln = length-take-le n x l in
    let both : encode_utf8_all cs ++ drop m x ≡ encode_utf8_all ds ++ drop n x =
    ap (λ (u : List ℕ). u ++ drop m x) (sym f) ∙ take-append-drop m x ∙ sym (take-append-drop n x) ∙ ap (λ (u : List ℕ). u ++ drop n x) e in
    let some = ap length (take-append-drop m x) in
    let low = aligned cs ds (drop m x) (drop n x) p q both (omega (arith, h.within, lm, some, length-append (take m x) (drop m x))) h.none in
    omega (arith, low, lm, ln, ap length e, ap length f)

pub characters_or_fault : CharactersOrFault
characters_or_fault x m h = (
  λ a.
      let all = take_all (length x) x (omega arith) in
      let low = before x m (length x) (omega arith) h (subst AreCharacters (sym all) a) in
      absurd (omega (arith, low, h.within)),
  λ n g.
      let low = before x m n (omega (arith, g.within)) h g.before in
      let high = before x n m (omega (arith, h.within)) g h.before in
      omega (arith, low, high),
)

-- ---- steps of the reader

-- one character more
append_all : (cs : List ℕ) (c : ℕ) → Allowed cs → is_char c ≡ true
    → (ds : List ℕ) × Allowed ds × (encode_utf8_all ds ≡ encode_utf8_all cs ++ encode_utf8 c)
append_all [] c p h = (c ∷ [], (h, tt), append_nil (encode_utf8 c))
  where
    append_nil : (x : List ℕ) → x ++ [] ≡ x
    append_nil [] = refl
    append_nil (o ∷ x) = ap (λ (u : List ℕ). o ∷ u) (append_nil x)
append_all (d ∷ cs) c p h =
    let (ds, q, e) = append_all cs c p.1 h in
    (d ∷ ds, (p.0, q), ap (λ (u : List ℕ). encode_utf8 d ++ u) e ∙ sym (append_assoc (encode_utf8 d) (encode_utf8_all cs) (encode_utf8 c)))

-- a character at an offset
pub record Stepped (x rest : List ℕ) (at n : ℕ) (c : ℕ) : Type 0 where
  pub front : take n x ≡ take at x ++ encode_utf8 c
  pub left : rest ≡ drop n x
  pub inside : n ≤ length x

pub character_step : (x rest : List ℕ) (at n c : ℕ) → at ≤ length x → drop at x ≡ encode_utf8 c ++ rest → n ≡ at + length (encode_utf8 c) → Stepped x rest at n c
character_step x rest at n c l e s =
    let p = take at x ++ encode_utf8 c in
    let whole : x ≡ p ++ rest =
    sym (take-append-drop at x) ∙ ap (λ (u : List ℕ). take at x ++ u) e ∙ sym (append_assoc (take at x) (encode_utf8 c) rest) in
    let len : length p ≡ n = omega (arith, s, length-append (take at x) (encode_utf8 c), length-take-le at x l) in
    record {
      front = ap (take n) whole ∙ take_at p rest n len;
      left = sym (ap (drop n) whole ∙ drop_at p rest n len);
      inside = omega (arith, ap length whole, length-append p rest, len);
    }

pub one_more : (x rest : List ℕ) (at n c : ℕ) → AreCharacters (take at x) → is_char c ≡ true → Stepped x rest at n c → AreCharacters (take n x)
one_more x rest at n c (cs, p, e) h s =
    let (ds, q, f) = append_all cs c p h in
    (ds, q, s.front ∙ ap (λ (u : List ℕ). u ++ encode_utf8 c) e ∙ sym f)

-- no text follows the longest one
pub none_after : (x : List ℕ) (n : ℕ) → IsValidUpTo x n → StartsWithNoChar (drop n x)
none_after x n v c rest s e =
    let m = n + length (encode_utf8 c) in
    let t = character_step x rest n m c (omega (arith, v.short)) e refl in
    let some = encode_some c in
    v.longest m (omega (arith, some)) (subst IsUtf8 (sym t.front) (IsUtf8-append (take n x) (encode_utf8 c) v.front (IsUtf8-encode c s)))

pub none_in_nothing : (x : List ℕ) → length x ≤ 0 → StartsWithNoChar x
none_in_nothing x l c rest s e =
    let some = encode_some c in
    absurd (omega (arith, l, some, ap length e, length-append (encode_utf8 c) rest))

-- a character that is not allowed, in the text at the start
pub bad_in_front : (x t : List ℕ) (n : ℕ) → t ≡ take (length t) x → length t ≤ length x → IsForbidden t n → IsFirstBad x n
bad_in_front x t n e l f =
    let rest = drop (length t) x in
    let within = f.within in
    let whole : x ≡ t ++ rest = sym (take-append-drop (length t) x) ∙ ap (λ (u : List ℕ). u ++ rest) (sym e) in
    let front : take n x ≡ take n t = ap (take n) whole ∙ take-append-le n t rest (omega (arith, within)) in
    let back : drop n x ≡ encode_utf8 f.character ++ (f.rest ++ rest) =
    ap (drop n) whole ∙ drop-append-le n t rest (omega (arith, within)) ∙ ap (λ (u : List ℕ). u ++ rest) f.there
    ∙ append_assoc (encode_utf8 f.character) f.rest rest in
    record {
      within = omega (arith, within, l);
      before = subst AreCharacters (sym front) f.before;
      none = λ d more h g.
          let same = encode_same f.character d (f.rest ++ rest) more (sym back ∙ g) in
          let t : true ≡ false = sym h ∙ ap is_char (sym same.0) ∙ f.forbidden in absurd (cc);
    }
