-- Photoshop's image resources, computed. Below, x are the bytes from an offset on at which one may begin.
use Rattle.std.specs.Prelude.{◌+◌, ◌*◌, ◌%◌, ℕ, zero, suc, Bool, ◌&&◌, ◌||◌, nat_le, nat_eq, if◌then◌else◌, List, [], ◌∷◌, length}
use Rattle.std.specs.Prelude.{take, drop, slice_index}
use Rattle.std.specs.List.{starts_with}
use Rattle.px_jpeg.specs.declared.resources.Resource.{Resource}

-- four bytes, with which a resource begins: '8BIM', or 'PHUT', 'AgHg', 'DCSR' or 'MeSa'
unfoldable pub is_signature : List ℕ → Bool
is_signature s =
    starts_with nat_eq s (56 ∷ 66 ∷ 73 ∷ 77 ∷ []) || starts_with nat_eq s (80 ∷ 72 ∷ 85 ∷ 84 ∷ [])
    || starts_with nat_eq s (65 ∷ 103 ∷ 72 ∷ 103 ∷ []) || starts_with nat_eq s (68 ∷ 67 ∷ 83 ∷ 82 ∷ [])
    || starts_with nat_eq s (77 ∷ 101 ∷ 83 ∷ 97 ∷ [])

-- the number that the first four bytes encode, most significant first
abbrev pub number4 : List ℕ → ℕ
number4 y = 256 * (256 * (256 * slice_index y 0 + slice_index y 1) + slice_index y 2) + slice_index y 3

-- the offset of the data's length, after the name
abbrev pub place : List ℕ → ℕ
place x = 6 + (slice_index x 6 + 1) + (slice_index x 6 + 1) % 2

-- the length of the data, from the four bytes after the name
abbrev pub count_at : List ℕ → ℕ
count_at x = number4 (drop (place x) x)

-- a whole resource begins x: 12 bytes at least, a signature, and all its data; the byte that pads
-- them may be missing
unfoldable pub is_resource : List ℕ → Bool
is_resource x =
    nat_le 12 (length x) && is_signature (take 4 x) && nat_le (place x + 4) (length x)
    && nat_le (place x + 4 + count_at x) (length x)

-- the resource at the start of x, which is at offset p: its number is in two bytes after the
-- signature
unfoldable pub resource : ℕ → List ℕ → Resource
resource p x = record {
  number = 256 * slice_index x 4 + slice_index x 5;
  start = p + place x + 4;
  size = count_at x;
}

-- the number of bytes of a resource, with the byte that pads its data
unfoldable pub step : List ℕ → ℕ
step x = place x + 4 + count_at x + count_at x % 2

-- the resources from here on, at most n
unfoldable pub resources_from : ℕ → ℕ → List ℕ → List Resource
resources_from zero p x = []
resources_from (suc n) p x = if is_resource x then resource p x ∷ resources_from n (p + step x) (drop (step x) x) else []

-- what follows the resources at the start of x, of which at most n are passed
unfoldable pub rest_from : ℕ → List ℕ → List ℕ
rest_from zero x = x
rest_from (suc n) x = if is_resource x then rest_from n (drop (step x) x) else x

-- all resources, and what follows the last
unfoldable pub resources_of : ℕ → List ℕ → List Resource
resources_of p x = resources_from (length x) p x

-- what follows the last resource
unfoldable pub rest_of : List ℕ → List ℕ
rest_of x = rest_from (length x) x
