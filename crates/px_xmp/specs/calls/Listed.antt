-- The attributes of a tag, as they are left to be read.
use Rattle.std.specs.Prelude.{◌≡◌, ℕ, if◌then◌else◌, Bool, Option, Some, None, option_map, List, [], ◌∷◌, MatchOption}
use Rattle.px_xmp_marks.specs.Reading.{Attr, Next, attributes_of}
use Rattle.px_xmp.specs.Tags.{plain}

-- these attributes are at the start of x, up to the end of a tag
abbrev pub AreListed : List ℕ → List Attr → Type 0
AreListed x attributes = option_map (λ r. r.0) (attributes_of x) ≡ Some attributes

-- attributes are at the start of x, of which those that declare nothing are the same as of these
abbrev pub ArePlain : List ℕ → List Attr → Type 0
ArePlain x attributes = (more : List Attr) × AreListed x more × (plain more ≡ plain attributes)

-- the first attribute that declares nothing, with others after it
abbrev pub IsNextOf : Next → List Attr → Type 0
IsNextOf n attributes = (more : List Attr) × AreListed n.rest more × (plain attributes ≡ n.attribute ∷ plain more)

-- r is the next of these attributes that declares nothing; None: each declares something
abbrev pub IsNextPlain : Option Next → List Attr → Type 0
IsNextPlain r attributes = MatchOption r (plain attributes ≡ []) (λ n. IsNextOf n attributes)

-- the first of some octets that begin with an attribute that declares nothing
abbrev pub first_after : Option (List ℕ) → Bool → List ℕ → Option (List ℕ)
first_after (Some y) is x = Some y
first_after None is x = if is then Some x else None

-- these octets, or those that follow all attributes
abbrev pub or_rest : Option (List ℕ) → List ℕ → List ℕ
or_rest None y = y
or_rest (Some x) y = x
