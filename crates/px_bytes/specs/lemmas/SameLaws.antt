-- Lists that are the same at each index.
use Rattle.std.proofs.Common.{◌≡◌, ◌<◌, ℕ, suc, List, [], ◌∷◌, length, slice_get, Some, arith, refl}

-- lists of one length with the same elements are equal
pub same_by_get : {X : Type 0} (xs ys : List X) → length xs ≡ length ys → ((k : ℕ) → k < length xs → slice_get xs k ≡ slice_get ys k)
    → xs ≡ ys
same_by_get [] [] len h = refl
same_by_get [] (y ∷ ys) len h = absurd (omega arith)
same_by_get (x ∷ xs) [] len h = absurd (omega arith)
same_by_get (x ∷ xs) (y ∷ ys) len h =
    let first : Some x ≡ Some y = h 0 (omega arith) in
    let same : x ≡ y = cc in
    let rest = same_by_get xs ys (omega arith) (λ k below. h (suc k) (omega arith)) in
    cc
