-- The lengths of strips as bytes, of which offsets are made.
use Rattle.std.proofs.Common.{◌≡◌, ◌∙◌, ◌<◌, ◌≤◌, ◌+◌, ◌-◌, ℕ, Some, List, [], ◌∷◌, ◌++◌, map, flat_map, length, take, drop, slice_get}
use Rattle.std.proofs.Common.{get_or, sym, ap, arith, length-append, length-drop}
use Rattle.std.specs.List.{AllByRecursion}
use Rattle.std.proofs.lemmas.Grind.{flat_map-append}
use Rattle.std.proofs.lemmas.List.{append_cancel_left, take_at, drop_at, drop-drop, take-append-drop, take-take, get_or-take}
use Rattle.std.proofs.lemmas.List.{length-map, length-take-le}
use Rattle.std.proofs.lemmas.Option.{slice_get-get_or}
use Rattle.std.proofs.lemmas.Slice.{take-put_mid, drop-put_mid}
use borrow.Rule.Slice.PartMut.{put_mid}
use Rattle.std.proofs.Math.Seq.{take-add}
use Rattle.px_bytes.specs.Numbers.{number}
use Rattle.px_bytes.specs.Parts.{limit}
use Rattle.px_bytes.specs.declared.Order.TheVariants.{Most}
use Rattle.px_bytes.specs.lemmas.EachLaws.{all_at}
use Rattle.px_bytes.specs.lemmas.NumberLaws.{number_spelling, length_spelling}
use Rattle.px_layout.specs.Laid.{long_bytes}
use Rattle.px_layout.specs.calls.Given.{strips_size}
use Rattle.px_layout.specs.lemmas.WalkLaws.{drop_here}

-- the elements from `start` up to `end`, if their bytes come between those up to `start` and those up to `end`
pub piece_is : {X : Type 0} (f : X → List ℕ) (xs : List X) (start end : ℕ) (ys : List ℕ) → start ≤ end
    → flat_map f (take end xs) ≡ flat_map f (take start xs) ++ ys → ys ≡ flat_map f (drop start (take end xs))
piece_is {X} f xs start end ys h e =
    let all = take end xs in
    append_cancel_left (flat_map f (take start xs)) ys (flat_map f (drop start all))
    (sym e ∙ ap (flat_map f) (sym (take-append-drop start all)) ∙ flat_map-append f (take start all) (drop start all)
    ∙ ap (λ (zs : List X). flat_map f zs ++ flat_map f (drop start all)) (take-take start end xs h))

-- and the other way round, for elements that `n` at once are encoded
pub piece_of : {X : Type 0} (f : X → List ℕ) (xs : List X) (start end : ℕ) (ys : List ℕ) → start ≤ end
    → ys ≡ flat_map f (take (end - start) (drop start xs)) → flat_map f (take end xs) ≡ flat_map f (take start xs) ++ ys
piece_of f xs start end ys h e =
    let sum : end ≡ start + (end - start) = omega arith in
    ap (λ (n : ℕ). flat_map f (take n xs)) sum ∙ ap (flat_map f) (take-add start (end - start) xs)
    ∙ flat_map-append f (take start xs) (take (end - start) (drop start xs))
    ∙ ap (λ (zs : List ℕ). flat_map f (take start xs) ++ zs) (sym e)

-- the next length, and the bytes after it, where bytes from `at` on are the lengths of the strips from i up to `end`
module _ (strips : List (List ℕ)) (i end at : ℕ) (into : List ℕ) (below : i < end) (inside : end ≤ length strips)
    (short : AllByRecursion (λ n. n ≤ limit) (map (λ x. length x) strips))
    (rest : drop at into ≡ flat_map (long_bytes Most) (drop i (take end (map (λ x. length x) strips)))) where
  abbrev ns : List ℕ
  ns = map (λ x. length x) strips

  abbrev here : ℕ
  here = get_or ns i 0

  abbrev more : List ℕ
  more = flat_map (long_bytes Most) (drop (i + 1) (take end ns))

  each : end ≤ length ns
  each = let e = length-map strips (λ x. length x) in omega arith

  read : slice_get ns i ≡ Some here
  read = let e = each in slice_get-get_or ns i 0 (omega arith)

  front : slice_get (take end ns) i ≡ Some here
  front =
      let long = length-take-le end ns each in
      slice_get-get_or (take end ns) i 0 (omega arith) ∙ ap (λ (n : ℕ). Some n) (get_or-take end ns i 0 below)

  bytes : drop at into ≡ long_bytes Most here ++ more
  bytes = rest ∙ ap (flat_map (long_bytes Most)) (drop_here (take end ns) i here front)

  pub number_here : (k n : ℕ) → k ≡ 4 → n ≡ number Most 4 (take k (drop at into)) → slice_get ns i ≡ Some n
  number_here k n e h =
      let most : here ≤ limit = all_at (λ m. m ≤ limit) ns i here short read in
      let four : take 4 (drop at into) ≡ long_bytes Most here =
      ap (take 4) bytes ∙ take_at (long_bytes Most here) more 4 (length_spelling Most 4 here) in
      let same : n ≡ here =
      h ∙ ap (λ (j : ℕ). number Most 4 (take j (drop at into))) e ∙ ap (number Most 4) four
      ∙ number_spelling Most 4 here (omega arith) in
      read ∙ ap (λ (m : ℕ). Some m) (sym same)

  pub bytes_next : (next : ℕ) (new : List ℕ) → next ≡ at + 4 → drop next new ≡ drop next into → drop next new ≡ more
  bytes_next next new e same =
      same ∙ ap (λ (n : ℕ). drop n into) e ∙ sym (drop-drop 4 at into) ∙ ap (drop 4) bytes
      ∙ drop_at (long_bytes Most here) more 4 (length_spelling Most 4 here)

-- a part that is replaced by one as long
pub length_put : (a k : ℕ) (xs ys : List ℕ) → length ys ≡ k → a + k ≤ length xs → length (put_mid a k xs ys) ≡ length xs
length_put a k xs ys e h =
    let new = put_mid a k xs ys in
    let n = a + k in
    let all = ap (λ (x : List ℕ). length x) (take-append-drop n new) in
    let both = length-append (take n new) (drop n new) in
    let front = ap (λ (x : List ℕ). length x) (take-put_mid a k xs ys n (omega arith) (omega arith)) in
    let back = ap (λ (x : List ℕ). length x) (drop-put_mid a k xs ys n (omega arith) (omega arith) e) in
    let parts = length-append (take a xs) ys in
    let first = length-take-le a xs (omega arith) in
    let last = length-drop n xs in
    omega arith

-- no strip is longer than all of them
pub each_below : (m : ℕ) (s : List (List ℕ)) → strips_size s ≤ m → AllByRecursion (λ n. n ≤ m) (map (λ x. length x) s)
each_below m [] h = tt
each_below m (x ∷ s) h = (omega arith, each_below m s (omega arith))
