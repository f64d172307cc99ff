-- The local names of a tag's attributes. Namespaces in XML 1.0, 3.
use Rattle.std.specs.Prelude.{◌≡◌, ◌+◌, ◌*◌, ◌/◌, ◌%◌, ◌&&◌, ◌||◌, ℕ, Bool, true, false, not, nat_eq}
use Rattle.std.specs.Prelude.{List, [], ◌∷◌, length, slice_index, get_or}
use Rattle.std.specs.List.{AllByRecursion}
use Rattle.std.specs.Cmp.Lexicographic.{pointwise}
use Rattle.px_xmp_marks.specs.Reading.{Attr}

-- one of these attributes has the local name l
abbrev pub is_local_of : List ℕ → List Attr → Bool
is_local_of l [] = false
is_local_of l (a ∷ more) = pointwise nat_eq l a.name.local || is_local_of l more

-- no two of these have one
abbrev pub are_locals_distinct : List Attr → Bool
are_locals_distinct [] = true
are_locals_distinct (a ∷ more) = not (is_local_of a.name.local more) && are_locals_distinct more

-- a number by which most local names differ
abbrev pub key : List ℕ → ℕ
key [] = 0
key (o ∷ x) =
    (o * 61 + slice_index (o ∷ x) (length x) * 7 + slice_index (o ∷ x) (length (o ∷ x) / 2) * 29 + length (o ∷ x) % 256 * 13) % 256

-- the keys of these attributes are noted
abbrev pub HaveKeys : List Bool → List Attr → Type 0
HaveKeys seen attributes = AllByRecursion (λ a. get_or seen (key a.name.local) false ≡ true) attributes
