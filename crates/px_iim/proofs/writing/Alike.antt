-- Lists that are the same, index by index.
use Rattle.std.proofs.Common.{◌≡◌, ℕ, ◌+◌, ◌++◌, List, [], ◌∷◌, take, get_or, slice_get, Some, sym, ap, ◌∙◌}
use Rattle.std.proofs.lemmas.List.{take_more}
use Rattle.std.proofs.lemmas.Option.{slice_get_within, get_or_from_slice_get}

module _ {X : Type 0} (xs ys : List X) (i : ℕ) (x y : X) (first : slice_get xs i ≡ Some x) (second : slice_get ys i ≡ Some y) where
  -- one more index
  pub same_more : take i xs ≡ take i ys → x ≡ y → take (i + 1) xs ≡ take (i + 1) ys
  same_more e s =
      take_more xs i x (slice_get_within xs i x first) ∙ ap (λ (z : X). take i xs ++ z ∷ []) (get_or_from_slice_get xs i x x first ∙ s)
      ∙ ap (λ (zs : List X). zs ++ y ∷ []) e
      ∙ sym (take_more ys i y (slice_get_within ys i y second)
      ∙ ap (λ (z : X). take i ys ++ z ∷ []) (get_or_from_slice_get ys i y y second))

  -- lists that are the same have the same there
  pub same_at : xs ≡ ys → x ≡ y
  same_at e = sym (get_or_from_slice_get xs i x x first) ∙ ap (λ (zs : List X). get_or zs i x) e ∙ get_or_from_slice_get ys i y x second
