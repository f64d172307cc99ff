-- Properties of each element of a list, by recursion on it.
use Rattle.std.proofs.Common.{◌≡◌, ℕ, zero, suc, List, [], ◌∷◌, ◌++◌, map, slice_get, Some, refl, ap, ap₂, subst}
use Rattle.std.specs.List.{AllByRecursion}

module _ {X : Type 0} (P : X → Type 0) where
  pub each_map : (Q : X → Type 0) → ((x : X) → P x → Q x) → (xs : List X) → AllByRecursion P xs → AllByRecursion Q xs
  each_map Q f [] h = tt
  each_map Q f (x ∷ xs) h = (f x h.0, each_map Q f xs h.1)

  pub each_map₂ : (Q R : X → Type 0) → ((x : X) → P x → Q x → R x) → (xs : List X) → AllByRecursion P xs → AllByRecursion Q xs
      → AllByRecursion R xs
  each_map₂ Q R f [] h k = tt
  each_map₂ Q R f (x ∷ xs) h k = (f x h.0 k.0, each_map₂ Q R f xs h.1 k.1)

  pub each_all : ((x : X) → P x) → (xs : List X) → AllByRecursion P xs
  each_all f [] = tt
  each_all f (x ∷ xs) = (f x, each_all f xs)

  pub each_left : (xs ys : List X) → AllByRecursion P (xs ++ ys) → AllByRecursion P xs
  each_left [] ys h = tt
  each_left (x ∷ xs) ys h = (h.0, each_left xs ys h.1)

  pub each_right : (xs ys : List X) → AllByRecursion P (xs ++ ys) → AllByRecursion P ys
  each_right [] ys h = h
  each_right (x ∷ xs) ys h = each_right xs ys h.1

  pub each_append : (xs ys : List X) → AllByRecursion P xs → AllByRecursion P ys → AllByRecursion P (xs ++ ys)
  each_append [] ys h k = k
  each_append (x ∷ xs) ys h k = (h.0, each_append xs ys h.1 k)

  -- a property of each element is one of the element at an index
  pub all_at : (xs : List X) (i : ℕ) (x : X) → AllByRecursion P xs → slice_get xs i ≡ Some x → P x
  all_at [] i x h e = cc
  all_at (y ∷ xs) zero x h e = let same : y ≡ x = cc in subst P same h.0
  all_at (y ∷ xs) (suc i) x h e = all_at xs i x h.1 e

  module _ {Y : Type 0} (f : Y → X) where
    pub each_in_map : (ys : List Y) → AllByRecursion P (map f ys) → AllByRecursion (λ y. P (f y)) ys
    each_in_map [] h = tt
    each_in_map (y ∷ ys) h = (h.0, each_in_map ys h.1)

    pub each_of_map : (ys : List Y) → AllByRecursion (λ y. P (f y)) ys → AllByRecursion P (map f ys)
    each_of_map [] h = tt
    each_of_map (y ∷ ys) h = (h.0, each_of_map ys h.1)

pub map_each : {X Y : Type 0} (f g : X → Y) (xs : List X) → AllByRecursion (λ x. f x ≡ g x) xs → map f xs ≡ map g xs
map_each f g [] h = refl
map_each f g (x ∷ xs) h = ap₂ (λ y ys. y ∷ ys) h.0 (map_each f g xs h.1)

pub map_map : {X Y Z : Type 0} (g : Y → Z) (f : X → Y) (xs : List X) → map g (map f xs) ≡ map (λ x. g (f x)) xs
map_map g f [] = refl
map_map g f (x ∷ xs) = ap (λ ys. g (f x) ∷ ys) (map_map g f xs)
