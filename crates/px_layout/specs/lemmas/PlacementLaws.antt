-- In a block that is laid out, each piece is at its offset.
use Rattle.std.proofs.Common.{◌≡◌, ℕ, zero, suc, ◌+◌, ◌-◌, ◌<◌, ◌≤◌, ◌&&◌, nat_lt, nat_le, List, [], ◌∷◌, map, length, drop, get_or}
use Rattle.std.proofs.Common.{slice_index, refl, sym, ◌∙◌, ap, subst, arith, ltb-true, lt-ltb, le-leb, length-drop, get_or-take}
use Rattle.std.proofs.Common.{get_or-drop}
use Rattle.std.specs.List.{AllByRecursion, range_with_len}
use Rattle.std.proofs.lemmas.Bool.{and_from, and_parts, cond-true, cond-false, leb-true, false_from_ne_true}
use Rattle.std.proofs.lemmas.List.{same_lists, get_or-map, length-map, length-take-le}
use Rattle.px_bytes.specs.Parts.{part}
use Rattle.px_bytes.specs.Range.{Range, range, IsIn, Apart, AllApart}
use Rattle.px_bytes.specs.lemmas.EachLaws.{each_map₂, each_in_map}
use Rattle.px_layout.specs.Laid.{byte_at}

-- the range of a piece
abbrev pub piece_range : ℕ × List ℕ → Range
piece_range y = range y.0 (length y.1)

-- bytes are at an offset of a block
pub record IsPlaced (b : List ℕ) (x : ℕ) (y : List ℕ) : Type 0 where
  pub inside : x + length y ≤ length b
  pub is : part b x (length y) ≡ y

byte_at_covered : (f p : ℕ) (x : ℕ × List ℕ) (xs : List (ℕ × List ℕ)) → IsIn p (piece_range x)
    → byte_at f (x ∷ xs) p ≡ slice_index x.1 (p - x.0)
byte_at_covered f p x xs h =
    cond-true (nat_le x.0 p && nat_lt p (x.0 + length x.1)) (slice_index x.1 (p - x.0)) (byte_at f xs p)
    (and_from _ _ (le-leb x.0 p h.0) (lt-ltb p (x.0 + length x.1) h.1))

byte_at_passed : (f p : ℕ) (x : ℕ × List ℕ) (xs : List (ℕ × List ℕ)) → (IsIn p (piece_range x) → ⊥) → byte_at f (x ∷ xs) p ≡ byte_at f xs p
byte_at_passed f p x xs h = cond-false (nat_le x.0 p && nat_lt p (x.0 + length x.1)) (slice_index x.1 (p - x.0)) (byte_at f xs p)
    (false_from_ne_true _ (λ e. let q = and_parts (nat_le x.0 p) (nat_lt p (x.0 + length x.1)) e in h (leb-true _ _ q.0, ltb-true _ _ q.1)))

abbrev Shows : ℕ → List (ℕ × List ℕ) → ℕ × List ℕ → Type 0
Shows f xs y = (p : ℕ) → IsIn p (piece_range y) → byte_at f xs p ≡ slice_index y.1 (p - y.0)

each_shows : (f : ℕ) (xs : List (ℕ × List ℕ)) → AllApart (map piece_range xs) → AllByRecursion (Shows f xs) xs
each_shows f [] h = tt
each_shows f (x ∷ xs) h = (
  λ p i. byte_at_covered f p x xs i,
  each_map₂ (λ y. Apart (piece_range x) (piece_range y)) (Shows f xs) (Shows f (x ∷ xs))
      (λ y a s p i. byte_at_passed f p x xs (λ j. a p j i) ∙ s p i)
      xs (each_in_map (Apart (piece_range x)) piece_range xs h.0) (each_shows f xs h.1),
)

pub length_range : (a n : ℕ) → length (range_with_len a n) ≡ n
length_range a zero = refl
length_range a (suc n) = ap suc (length_range (a + 1) n)

pub get_or_range : (a n i d : ℕ) → i < n → get_or (range_with_len a n) i d ≡ a + i
get_or_range a zero i d h = absurd (omega arith)
get_or_range a (suc n) zero d h = omega arith
get_or_range a (suc n) (suc i) d h = let e = get_or_range (a + 1) n i d (omega arith) in omega arith

pub length_mapped : (g : ℕ → ℕ) (n : ℕ) → length (map g (range_with_len 0 n)) ≡ n
length_mapped g n = length-map (range_with_len 0 n) g ∙ length_range 0 n

pub mapped_at : (g : ℕ → ℕ) (n i d : ℕ) → i < n → get_or (map g (range_with_len 0 n)) i d ≡ g i
mapped_at g n i d h =
    let l : i < length (range_with_len 0 n) = subst (λ k. i < k) (sym (length_range 0 n)) h in
    get_or-map g (range_with_len 0 n) i 0 d l ∙ ap g (get_or_range 0 n i 0 h ∙ omega arith)

placed_from : (g : ℕ → ℕ) (n x : ℕ) (y : List ℕ) → x + length y ≤ n → ((p : ℕ) → IsIn p (range x (length y)) → g p ≡ slice_index y (p - x))
    → IsPlaced (map g (range_with_len 0 n)) x y
placed_from g n x y h s =
    let b = map g (range_with_len 0 n) in
    let lb : length b ≡ n = length_mapped g n in
    let ld : length (drop x b) ≡ n - x = length-drop x b ∙ ap (λ k. k - x) lb in
    let lp : length (part b x (length y)) ≡ length y = length-take-le (length y) (drop x b) (omega arith) in
    record {
      inside = omega arith;
      is = same_lists (part b x (length y)) y lp (λ k d l.
          let q : k < length y = omega arith in
          get_or-take (length y) (drop x b) k d q ∙ get_or-drop x b k d ∙ mapped_at g n (x + k) d (omega arith)
          ∙ s (x + k) (omega arith, omega arith) ∙ ap (λ j. slice_index y j) (omega arith) ∙ default y k d q);
    }
  where
    default : (y : List ℕ) (k d : ℕ) → k < length y → slice_index y k ≡ get_or y k d
    default [] k d l = absurd (omega arith)
    default (z ∷ zs) zero d l = refl
    default (z ∷ zs) (suc k) d l = default zs k d (omega arith)

-- Disjoint pieces within n bytes: each is at its offset in the block that they make.
pub each_placed : (f n : ℕ) (xs : List (ℕ × List ℕ)) → AllApart (map piece_range xs) → AllByRecursion (λ y. y.0 + length y.1 ≤ n) xs →
    AllByRecursion (λ y. IsPlaced (map (byte_at f xs) (range_with_len 0 n)) y.0 y.1) xs
each_placed f n xs a i = each_map₂ (λ y. y.0 + length y.1 ≤ n) (Shows f xs) (λ y. IsPlaced (map (byte_at f xs) (range_with_len 0 n)) y.0
    y.1)
    (λ y l s. placed_from (byte_at f xs) n y.0 y.1 l s) xs i (each_shows f xs a)
