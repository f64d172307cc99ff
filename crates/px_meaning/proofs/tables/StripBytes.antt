-- The bytes of strips, by the lists that name them.
use Rattle.std.proofs.Common.{◌≡◌, ℕ, zero, suc, ◌+◌, ◌-◌, ◌≤◌, Option, Some, option_map, List, [], ◌∷◌, ◌++◌, length, map}
use Rattle.std.proofs.Common.{refl, sym, ap, ◌∙◌, arith, slice_get, length-append, subst}
use Rattle.std.proofs.lemmas.List.{length-map}
use Rattle.std.specs.List.{AllByRecursion}
use Rattle.std.specs.Prelude.{IfSome}
use Rattle.std.proofs.lemmas.Option.{slice_get-map}
use Rattle.px_bytes.specs.Range.{Range, range}
use Rattle.px_meaning.specs.declared.strip_lists.StripLists.{StripLists}
use Rattle.px_meaning.specs.Thumbnail.{whole_number, ranges_of, bytes_of, IsInside}
use Rattle.px_meaning.specs.calls.Strips.{ranges_in, named_strips, AreNamed}

pub ranges_get : (xs ns : List ℕ) (i x n : ℕ) → slice_get xs i ≡ Some x → slice_get ns i ≡ Some n
    → slice_get (ranges_of xs ns) i ≡ Some (range x n)
ranges_get [] ns i x n h k = cc
ranges_get (y ∷ xs) [] i x n h k = cc
ranges_get (y ∷ xs) (m ∷ ns) zero x n h k = let p : y ≡ x = cc in let q : m ≡ n = cc in cc
ranges_get (y ∷ xs) (m ∷ ns) (suc i) x n h k = ranges_get xs ns i x n h k

ranges_length : (xs ns : List ℕ) → length xs ≡ length ns → length (ranges_of xs ns) ≡ length xs
ranges_length [] ns h = refl
ranges_length (x ∷ xs) [] h = cc
ranges_length (x ∷ xs) (n ∷ ns) h = let e : length xs ≡ length ns = omega arith in ap (λ (k : ℕ). suc k) (ranges_length xs ns e)

pub strip_get : (b : List ℕ) (rs : List Range) (i : ℕ) (r : Range) → slice_get rs i ≡ Some r
    → slice_get (map (bytes_of b) rs) i ≡ Some (bytes_of b r)
strip_get b rs i r h = slice_get-map (bytes_of b) rs i ∙ ap (λ (x : Option Range). option_map (bytes_of b) x) h

get_before : (xs ys : List (List ℕ)) (i : ℕ) (x : List ℕ) → slice_get xs i ≡ Some x → slice_get (xs ++ ys) i ≡ Some x
get_before [] ys i x h = cc
get_before (y ∷ xs) ys zero x h = h
get_before (y ∷ xs) ys (suc i) x h = get_before xs ys i x h

get_after : (xs ys : List (List ℕ)) (i : ℕ) → length xs ≤ i → slice_get (xs ++ ys) i ≡ slice_get ys (i - length xs)
get_after [] ys i h = ap (λ (n : ℕ). slice_get ys n) (omega arith)
get_after (y ∷ xs) ys zero h = absurd (omega arith)
get_after (y ∷ xs) ys (suc i) h =
    get_after xs ys i (omega arith) ∙ (let e : i - length xs ≡ suc i - suc (length xs) = omega arith in ap (λ (n : ℕ). slice_get ys n) e)

-- what is true of each range is true of the one at i
pub inside_at : (b : List ℕ) (rs : List Range) (i : ℕ) (r : Range) → AllByRecursion (IsInside b) rs → slice_get rs i ≡ Some r → IsInside b r
inside_at b [] i r a h = cc
inside_at b (s ∷ rs) zero r a h = let e : s ≡ r = cc in subst (λ (x : Range). IsInside b x) e a.0
inside_at b (s ∷ rs) (suc i) r a h = inside_at b rs i r a.1 h

named_length : (l : StripLists) → AreNamed l → length (named_strips (Some l)) ≡ length l.starts.elements
named_length l a =
    let xs = map whole_number l.starts.elements in
    let ns = map whole_number l.sizes.elements in
    length-map (ranges_in l) (bytes_of l.block.now)
    ∙ ranges_length xs ns (length-map l.starts.elements whole_number ∙ a.same ∙ sym (length-map l.sizes.elements whole_number))
    ∙ length-map l.starts.elements whole_number

-- the strips that a block names, and those that were pushed
module _ (named : Option StripLists) (l : StripLists) (is : named ≡ Some l) (i : IfSome named AreNamed) where
  pub named_some : AreNamed l
  named_some = subst (λ (x : Option StripLists). IfSome x AreNamed) is i

  pub front_length : length (named_strips named) ≡ length l.starts.elements
  front_length = ap (λ (x : Option StripLists). length (named_strips x)) is ∙ named_length l named_some

  pub strips_length : (pushed : List (List ℕ)) → length (named_strips named ++ pushed) ≡ length l.starts.elements + length pushed
  strips_length pushed =
      length-append (named_strips named) pushed ∙ ap (λ (k : ℕ). k + length pushed) front_length

  pub get_named : (pushed : List (List ℕ)) (k : ℕ) (s : List ℕ) → slice_get (named_strips (Some l)) k ≡ Some s
      → slice_get (named_strips named ++ pushed) k ≡ Some s
  get_named pushed k s h =
      get_before (named_strips named) pushed k s (ap (λ (x : Option StripLists). slice_get (named_strips x) k) is ∙ h)

  pub get_pushed : (pushed : List (List ℕ)) (k : ℕ) → length l.starts.elements ≤ k
      → slice_get (named_strips named ++ pushed) k ≡ slice_get pushed (k - length l.starts.elements)
  get_pushed pushed k h =
      let e = front_length in
      get_after (named_strips named) pushed k (omega arith) ∙ ap (λ (n : ℕ). slice_get pushed (k - n)) e
