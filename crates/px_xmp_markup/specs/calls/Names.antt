-- Names that are there twice, as a test of stored names.
use Rattle.std.specs.Prelude.{◌==◌, ◌&&◌, ◌||◌, Bool, false, nat_eq, List, [], ◌∷◌, map}
use Rattle.std.specs.Cmp.Lexicographic.{pointwise}
use Rattle.px_xmp_marks.specs.Reading.{Named, Attr}

-- two names are written alike: they have the same length, local name and prefix
abbrev pub are_same : Named → Named → Bool
are_same n m = (n.size == m.size) && pointwise nat_eq n.local m.local && pointwise nat_eq n.prefix m.prefix

-- one of these names is n
abbrev pub is_among : Named → List Named → Bool
is_among n [] = false
is_among n (m ∷ more) = are_same n m || is_among n more

-- one of these names is there twice
abbrev pub has_twice : List Named → Bool
has_twice [] = false
has_twice (n ∷ more) = is_among n more || has_twice more

-- the names of attributes, which are stored
abbrev pub names_of : List Attr → List Named
names_of attributes = map (λ a. a.name) attributes
