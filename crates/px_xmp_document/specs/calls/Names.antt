-- The tests of a tag's attributes, by their stored names.
use Rattle.std.specs.Prelude.{◌&&◌, ◌||◌, Bool, true, false, not, if◌then◌else◌, List, [], ◌∷◌, Result, Ok, Err}
use Rattle.px_xmp_marks.specs.Reading.{Named}
use Rattle.px_xmp_document.specs.declared.faults.SpaceCause.{SpaceCause}
use Rattle.px_xmp_document.specs.declared.faults.SpaceCause.TheVariants.{Undeclared, SameName}
use Rattle.px_xmp_document.specs.Scopes.{Item}
use Rattle.px_xmp_document.specs.Tags.{is_attribute_bound, clash}

-- each of these names of attributes has no prefix, or one that is bound (5, Prefix Declared)
abbrev pub are_names_bound : List Item → List Named → Bool
are_names_bound scope [] = true
are_names_bound scope (n ∷ more) = is_attribute_bound scope n && are_names_bound scope more

-- an attribute with the name n clashes with one of the others (6.3, Attributes Unique)
abbrev pub is_name_among : List Item → Named → List Named → Bool
is_name_among scope n [] = false
is_name_among scope n (m ∷ more) = clash scope n m || is_name_among scope n more

-- no two attributes with these names clash
abbrev pub are_names_unique : List Item → List Named → Bool
are_names_unique scope [] = true
are_names_unique scope (n ∷ more) = not (is_name_among scope n more) && are_names_unique scope more

-- what is in scope, or what is wrong with the names of a tag's attributes: first their prefixes,
-- then two that clash
abbrev pub names_judged : List Named → List Item → Result (List Item) SpaceCause
names_judged names scope =
    if not (are_names_bound scope names) then Err Undeclared
    else if not (are_names_unique scope names) then Err SameName
    else Ok scope
