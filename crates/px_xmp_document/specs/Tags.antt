-- What is in scope after a tag, or what is wrong with it. Namespaces in XML 1.0, 3, 5 and 6.
use Rattle.std.specs.Prelude.{◌&&◌, ◌||◌, ℕ, Bool, true, false, not, nat_le, nat_lt, if◌then◌else◌, codes}
use Rattle.std.specs.Prelude.{Option, Some, None, is_some, List, [], ◌∷◌, length, Result, Ok, Err}
use Rattle.px_xmp_marks.specs.Reading.{Named, Attr}
use Rattle.px_xmp_document.specs.declared.faults.SpaceCause.{SpaceCause}
use Rattle.px_xmp_document.specs.declared.faults.SpaceCause.TheVariants.{TooMany, Undeclared, ManyAttributes, SameName}
use Rattle.px_xmp_document.specs.Pieces.{Piece, Opening, Alone, Closing, Other}
use Rattle.px_xmp_document.specs.Scopes.{Item, Element, limit, is_same, space_of, ended}
use Rattle.px_xmp_document.specs.Bindings.{and_then, with_attributes}

-- an attribute has no prefix, or one that is bound (5, Prefix Declared)
abbrev pub is_attribute_bound : List Item → Named → Bool
is_attribute_bound scope n = is_same n.prefix [] || is_some (space_of n.prefix scope)

-- each of these attributes has no prefix, or one that is bound
abbrev pub are_bound : List Item → List Attr → Bool
are_bound scope [] = true
are_bound scope (a ∷ more) = is_attribute_bound scope a.name && are_bound scope more

-- an element has no prefix, or one that is bound, and its prefix is not xmlns (3)
abbrev pub is_element_bound : List Item → Named → Bool
is_element_bound scope n = not (is_same n.prefix (codes "xmlns")) && is_attribute_bound scope n

-- a limit of this reader: no element has more attributes
abbrev pub attribute_limit : ℕ
attribute_limit = 256

-- the namespace of an attribute, which has one only by a prefix (6.2)
abbrev pub attribute_space : List Item → Named → Option (List ℕ)
attribute_space scope n = if is_same n.prefix [] then None else space_of n.prefix scope

-- two attributes are in one namespace; None is none, and two without a namespace are in no common
-- one
abbrev pub are_same_spaces : Option (List ℕ) → Option (List ℕ) → Bool
are_same_spaces None v = false
are_same_spaces (Some u) None = false
are_same_spaces (Some u) (Some v) = is_same u v

-- two attributes have one local name in one namespace (6.3, Attributes Unique)
abbrev pub clash : List Item → Named → Named → Bool
clash scope n m = is_same n.local m.local && are_same_spaces (attribute_space scope n) (attribute_space scope m)

-- an attribute with the name n clashes with one of these
abbrev pub is_among : List Item → Named → List Attr → Bool
is_among scope n [] = false
is_among scope n (a ∷ more) = clash scope n a.name || is_among scope n more

-- no two of these attributes clash
abbrev pub are_unique : List Item → List Attr → Bool
are_unique scope [] = true
are_unique scope (a ∷ more) = not (is_among scope a.name more) && are_unique scope more

-- what is in scope after a tag with the name n and these attributes, whose declarations are in
-- scope already, or what is wrong with its prefixes and names
abbrev pub judged : Named → List Attr → List Item → Result (List Item) SpaceCause
judged n attributes scope =
    if not (is_element_bound scope n && are_bound scope attributes) then Err Undeclared
    else if nat_lt attribute_limit (length attributes) then Err ManyAttributes
    else if are_unique scope attributes then Ok scope
    else Err SameName

-- what is in scope in an element whose tag has this name and these attributes, or what is wrong with the tag
abbrev pub opened : Named → List Attr → List Item → Result (List Item) SpaceCause
opened n attributes scope =
    if nat_le limit (length scope) then Err TooMany
    else and_then (with_attributes attributes (Element ∷ scope)) (λ inner. judged n attributes inner)

-- what is in scope after a mark, or what is wrong with it
abbrev pub passed : Piece → List Item → Result (List Item) SpaceCause
passed (Opening n attributes) scope = opened n attributes scope
passed (Alone n attributes) scope = and_then (opened n attributes scope) (λ inner. Ok (ended inner))
passed Closing scope = Ok (ended scope)
passed Other scope = Ok scope
