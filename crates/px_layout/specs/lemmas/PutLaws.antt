-- Parts added one after another, if the bytes are known by an equation.
use Rattle.std.proofs.Common.{◌≡◌, ◌<◌, ◌+◌, ◌++◌, ◌∙◌, ℕ, List, take, drop, slice_get, Option, Some, Result, subst, ap, sym, arith}
use Rattle.std.proofs.Common.{take-append-drop, ◌≤◌, length, ap₂, append_assoc}
use Rattle.std.specs.List.{flat_map, range_with_len}
use Rattle.std.proofs.lemmas.Grind.{flat_map-append}
use Rattle.std.proofs.lemmas.Option.{slice_get-get_or}
use Rattle.std.proofs.Math.Seq.{take-add}
use Rattle.std.proofs.lemmas.Slice.{take-put_mid}
use borrow.Rule.Slice.PartMut.{put_mid}
use Rattle.px_bytes.specs.Waiting.{Buffer, PutsBuffered}
use Rattle.px_bytes.specs.lemmas.WaitingLaws.{HasPut, FailsPut, loop_more, loop_stop, put_both, puts_to_both, fails_first, fails_second}
use Rattle.px_bytes.specs.lemmas.WaitingLaws.{parts_more}
use Rattle.px_layout.specs.lemmas.PlacementLaws.{length_range, get_or_range}

-- the numbers from 0 on
pub slice_get_range : (n i : ℕ) → i < n → slice_get (range_with_len 0 n) i ≡ Some i
slice_get_range n i h =
    slice_get-get_or (range_with_len 0 n) i 0 (let e = length_range 0 n in omega arith)
    ∙ ap (λ (k : ℕ). Some k) (get_or_range 0 n i 0 h ∙ omega arith)

-- one more element is encoded after those from `start` on
pub encoded_more : {X : Type 0} (f : X → List ℕ) (xs : List X) (start i : ℕ) (x : X) (a m n : ℕ) (to ys : List ℕ)
    → slice_get xs i ≡ Some x → ys ≡ f x → flat_map f (take i xs) ≡ flat_map f (take start xs) ++ take a to
    → n ≡ a + length ys → a ≤ length to → flat_map f (take (i + 1) xs) ≡ flat_map f (take start xs) ++ take n (put_mid a m to ys)
encoded_more f xs start i x a m n to ys read y h p l =
    parts_more f xs i x read ∙ ap₂ (λ (u v : List ℕ). u ++ v) h (sym y)
    ∙ append_assoc (flat_map f (take start xs)) (take a to) ys
    ∙ ap (λ (u : List ℕ). flat_map f (take start xs) ++ u) (sym (take-put_mid a m to ys n p l))

module _ {W : Type 0} (taken : W → Option (List ℕ)) where
  -- the same bytes
  pub puts_as : {A E : Type 0} (r : Result A E) (a b : W) (h k : Buffer) (xs ys : List ℕ) → xs ≡ ys → PutsBuffered taken r a b h k xs
      → PutsBuffered taken r a b h k ys
  puts_as r a b h k xs ys e p = subst (λ (z : List ℕ). PutsBuffered taken r a b h k z) e p

  pub fails_as : (a b : W) (h : Buffer) (xs ys : List ℕ) → xs ≡ ys → FailsPut taken a b h xs → FailsPut taken a b h ys
  fails_as a b h xs ys e p = subst (FailsPut taken a b h) e p

  pub has_as : (a b : W) (h k : Buffer) (xs ys : List ℕ) → xs ≡ ys → HasPut taken a b h k xs → HasPut taken a b h k ys
  has_as a b h k xs ys e p = subst (HasPut taken a b h k) e p

  -- the same of a first and a second part
  pub both_as : {A E : Type 0} (r : Result A E) (a b c : W) (h k m : Buffer) (xs ys zs : List ℕ) → xs ++ ys ≡ zs → HasPut taken a b h k xs
      → PutsBuffered taken r b c k m ys → PutsBuffered taken r a c h m zs
  both_as r a b c h k m xs ys zs e p q = puts_as r a c h m (xs ++ ys) zs e (puts_to_both taken r a b c h k m xs ys p q)

  pub first_as : (a b : W) (h : Buffer) (xs ys zs : List ℕ) → xs ++ ys ≡ zs → FailsPut taken a b h xs → FailsPut taken a b h zs
  first_as a b h xs ys zs e p = fails_as a b h (xs ++ ys) zs e (fails_first taken a b h xs ys p)

  -- the second of three parts failed
  pub second_of : (a b c : W) (h k : Buffer) (xs ys zs : List ℕ) → HasPut taken a b h k xs → FailsPut taken b c k ys
      → FailsPut taken a c h (xs ++ (ys ++ zs))
  second_of a b c h k xs ys zs p q = fails_second taken a b c h k xs (ys ++ zs) p (fails_first taken b c k ys zs q)

  -- n more elements of a list, and n at which a call failed
  module _ {X : Type 0} (f : X → List ℕ) (xs : List X) (i n : ℕ) (y : List ℕ) (e : y ≡ flat_map f (take n (drop i xs))) where
    pub more_many : (a b c : W) (h k m : Buffer) → HasPut taken a b h k (flat_map f (take i xs)) → HasPut taken b c k m y
        → HasPut taken a c h m (flat_map f (take (i + n) xs))
    more_many a b c h k m p q =
        let both : flat_map f (take i xs) ++ y ≡ flat_map f (take (i + n) xs) =
        ap (λ (l : List ℕ). flat_map f (take i xs) ++ l) e ∙ sym (flat_map-append f (take i xs) (take n (drop i xs)))
        ∙ ap (flat_map f) (sym (take-add i n xs)) in
        has_as a c h m (flat_map f (take i xs) ++ y) _ both (put_both taken a b c h k m (flat_map f (take i xs)) y p q)

    pub stop_many : (a b c : W) (h k : Buffer) → HasPut taken a b h k (flat_map f (take i xs)) → FailsPut taken b c k y
        → FailsPut taken a c h (flat_map f xs)
    stop_many a b c h k p q =
        let rest = flat_map f (drop n (drop i xs)) in
        let after : y ++ rest ≡ flat_map f (drop i xs) =
        ap (λ (l : List ℕ). l ++ rest) e ∙ sym (flat_map-append f (take n (drop i xs)) (drop n (drop i xs)))
        ∙ ap (flat_map f) (take-append-drop n (drop i xs)) in
        let all : flat_map f (take i xs) ++ (y ++ rest) ≡ flat_map f xs =
        ap (λ (l : List ℕ). flat_map f (take i xs) ++ l) after ∙ sym (flat_map-append f (take i xs) (drop i xs))
        ∙ ap (flat_map f) (take-append-drop i xs) in
        fails_as a c h (flat_map f (take i xs) ++ (y ++ rest)) (flat_map f xs) all (second_of a b c h k (flat_map f (take i xs)) y rest p q)

  -- the elements of a list up to n, after those up to i, and a failed call
  module _ {X : Type 0} (f : X → List ℕ) (xs : List X) (i n : ℕ) (y : List ℕ)
      (e : flat_map f (take n xs) ≡ flat_map f (take i xs) ++ y) where
    pub more_after : (a b c : W) (h k m : Buffer) → HasPut taken a b h k (flat_map f (take i xs)) → HasPut taken b c k m y
        → HasPut taken a c h m (flat_map f (take n xs))
    more_after a b c h k m p q =
        has_as a c h m (flat_map f (take i xs) ++ y) (flat_map f (take n xs)) (sym e)
        (put_both taken a b c h k m (flat_map f (take i xs)) y p q)

    pub stop_after : (a b c : W) (h k : Buffer) → HasPut taken a b h k (flat_map f (take i xs)) → FailsPut taken b c k y
        → FailsPut taken a c h (flat_map f xs)
    stop_after a b c h k p q =
        let rest = flat_map f (drop n xs) in
        let all : flat_map f (take i xs) ++ (y ++ rest) ≡ flat_map f xs =
        sym (append_assoc (flat_map f (take i xs)) y rest) ∙ ap (λ (l : List ℕ). l ++ rest) (sym e)
        ∙ sym (flat_map-append f (take n xs) (drop n xs)) ∙ ap (flat_map f) (take-append-drop n xs) in
        fails_as a c h (flat_map f (take i xs) ++ (y ++ rest)) (flat_map f xs) all (second_of a b c h k (flat_map f (take i xs)) y rest p q)

  -- one more element of a list, and one at which a call failed
  module _ {X : Type 0} (f : X → List ℕ) (xs : List X) (i : ℕ) (x : X) (read : slice_get xs i ≡ Some x) (y : List ℕ) (e : y ≡ f x) where
    pub more_as : (a b c : W) (h k m : Buffer) → HasPut taken a b h k (flat_map f (take i xs)) → HasPut taken b c k m y
        → HasPut taken a c h m (flat_map f (take (i + 1) xs))
    more_as a b c h k m p q = loop_more taken f xs i x read a b c h k m p (has_as b c k m y (f x) e q)

    pub stop_as : (a b c : W) (h k : Buffer) → HasPut taken a b h k (flat_map f (take i xs)) → FailsPut taken b c k y
        → FailsPut taken a c h (flat_map f xs)
    stop_as a b c h k p q = loop_stop taken f xs i x read a b c h k p (fails_as b c k y (f x) e q)
