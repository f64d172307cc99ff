-- The local names and the namespaces of attributes, which tell them apart (6.3, Attributes Unique).
use Rattle.std.specs.Prelude.{◌&&◌, ◌||◌, ℕ, Bool, true, false, not, Option, option_map, List, [], ◌∷◌, map}
use Rattle.px_xmp_marks.specs.Reading.{Named, Attr}
use Rattle.px_xmp_document.specs.declared.stored.Key.{Key}
use Rattle.px_xmp_document.specs.Scopes.{Item, is_same}
use Rattle.px_xmp_document.specs.Tags.{attribute_space, are_same_spaces}

-- a local name, and its namespace; None: it is in none
abbrev pub Pair : Type 0
Pair = List ℕ × Option (List ℕ)

-- a stored key as such a pair
abbrev pub key_view : Key → Pair
key_view k = (k.local.now, option_map (λ u. u.now) k.space)

-- the local name of an attribute, and its namespace by what is in scope
abbrev pub key_of : List Item → Named → Pair
key_of scope n = (n.local, attribute_space scope n)

-- the local names and namespaces of some attributes, in order
abbrev pub keys_of : List Item → List Attr → List Pair
keys_of scope attributes = map (λ a. key_of scope a.name) attributes

-- two attributes with these pairs have one local name in one namespace
abbrev pub keys_clash : Pair → Pair → Bool
keys_clash k j = is_same k.0 j.0 && are_same_spaces k.1 j.1

-- an attribute with the pair k clashes with one of the others
abbrev pub is_key_among : Pair → List Pair → Bool
is_key_among k [] = false
is_key_among k (j ∷ more) = keys_clash k j || is_key_among k more

-- no two attributes with these pairs clash
abbrev pub are_keys_unique : List Pair → Bool
are_keys_unique [] = true
are_keys_unique (k ∷ more) = not (is_key_among k more) && are_keys_unique more
