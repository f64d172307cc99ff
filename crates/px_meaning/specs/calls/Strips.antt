-- The strips of a thumbnail, by the two lists of an entry.
use Rattle.std.specs.Prelude.{◌≡◌, ℕ, ◌+◌, ◌≤◌, ◌%◌, Option, Some, None, List, [], ◌∷◌, ◌++◌, length, map, take, flat_map}
use Rattle.std.specs.List.{AllByRecursion}
use Rattle.px_bytes.specs.Range.{Range}
use Rattle.px_field.specs.declared.Form.TheVariants as form
use Rattle.px_field.specs.declared.Kind.TheVariants as kind
use Rattle.px_field.specs.declared.Element.TheVariants as element
use Rattle.px_field.specs.Values.{Value}
use Rattle.px_meaning.specs.declared.strip_lists.StripLists.{StripLists}
use Rattle.px_meaning.specs.Thumbnail.{whole_number, ranges_of, bytes_of, IsInside}

-- the range of each strip
abbrev pub ranges_in : StripLists → List Range
ranges_in l = ranges_of (map whole_number l.starts.elements) (map whole_number l.sizes.elements)

-- the bytes of each strip
abbrev pub named_strips : Option StripLists → List (List ℕ)
named_strips None = []
named_strips (Some l) = map (bytes_of l.block.now) (ranges_in l)

-- each strip has a start and a size, and lies inside the block
pub record AreNamed (l : StripLists) : Type 0 where
  pub same : length l.starts.elements ≡ length l.sizes.elements
  pub inside : AllByRecursion (IsInside l.block.now) (ranges_in l)

-- each starts at the end of the one before or after it, from `low` on, and the last ends at `high` or before
abbrev pub Rise : ℕ → ℕ → List Range → Type 0
Rise low high [] = low ≤ high
Rise low high (r ∷ rs) = (low ≤ r.start) × Rise (r.start + r.size) high rs

-- a function that pads only bytes of an odd length
abbrev pub KeepsEven : (List ℕ → List ℕ) → Type 0
KeepsEven f = (x : List ℕ) → length x % 2 ≡ 0 → f x ≡ x

-- these bytes, padded once, are the strips from i up to n, each padded
abbrev pub AreJoined : List (List ℕ) → ℕ → ℕ → List ℕ → Type 0
AreJoined xs i n bytes = (f : List ℕ → List ℕ) → KeepsEven f → flat_map f (take n xs) ≡ flat_map f (take i xs) ++ f bytes

-- the value of these numbers, each a LONG
abbrev pub longs : List ℕ → Value
longs ns = record { kind = kind.Of form.Long; elements = map element.Long ns }
