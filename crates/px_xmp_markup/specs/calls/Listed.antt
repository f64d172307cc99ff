-- The attributes of a tag, as they are read one after another.
use Rattle.std.specs.Prelude.{◌≡◌, ℕ, Some, None, List, [], ◌∷◌}
use Rattle.px_xmp_marks.specs.Reading.{Attr, next_attribute}

-- these attributes are at the start of x, and no others
abbrev pub AreListed : List Attr → List ℕ → Type 0
AreListed [] x = next_attribute x ≡ None
AreListed (a ∷ more) x = (rest : List ℕ) × (next_attribute x ≡ Some (record { attribute = a; rest = rest })) × AreListed more rest
