-- Start tags with their namespaces. Namespaces in XML 1.0, 6; XML 1.0, 2.12.
use Rattle.std.specs.Prelude.{◌≡◌, ◌⊎◌, ⊤, ◌&&◌, ℕ, Bool, not, codes, if◌then◌else◌, Option, Some, None, is_none, List, [], ◌∷◌, map}
use Rattle.px_xmp_marks.specs.Reading.{Named, Attr}
use Rattle.px_xmp_document.specs.Scopes.{Item, Element, Declaration, is_same}
use Rattle.px_xmp_document.specs.Bindings.{declared_prefix}
use Rattle.px_xmp_forms.specs.Languages.{IsLanguage}
use Rattle.px_xmp.specs.Names.{Name, element_name, attribute_name}

-- what is in scope after an attribute with the value u that declares this prefix, or declares none
-- (Namespaces, 6.1)
abbrev pub with_prefix : Option (List ℕ) → List ℕ → List Item → List Item
with_prefix None u scope = scope
with_prefix (Some p) u scope = Declaration p u ∷ scope

-- what is in scope after some attributes, the last declaration first
abbrev pub declared : List Attr → List Item → List Item
declared [] scope = scope
declared (a ∷ more) scope = declared more (with_prefix (declared_prefix a.name) a.value scope)

-- xml:lang (XML, 2.12): no other prefix is bound to its namespace
abbrev pub names_language : Named → Bool
names_language n = is_same n.prefix (codes "xml") && is_same n.local (codes "lang")

-- the language that attributes declare after l
abbrev pub language_after : Option (List ℕ) → List Attr → Option (List ℕ)
language_after l [] = l
language_after l (a ∷ more) = language_after (if names_language a.name then Some a.value else l) more

-- what a tag declares, if it declares one, is a language, or nothing, which ends an outer one (XML, 2.12)
abbrev pub DeclaresLanguage : Option (List ℕ) → Type 0
DeclaresLanguage None = ⊤
DeclaresLanguage (Some l) = (l ≡ []) ⊎ IsLanguage l

-- the language inside an element that declares one or none, inside another
abbrev pub inherited : List ℕ → Option (List ℕ) → List ℕ
inherited outer None = outer
inherited outer (Some l) = l

-- the attributes that declare nothing
abbrev pub is_plain : Named → Bool
is_plain n = is_none (declared_prefix n) && not (names_language n)

-- those of some attributes that declare neither a prefix nor the language
abbrev pub plain : List Attr → List Attr
plain [] = []
plain (a ∷ more) = if is_plain a.name then a ∷ plain more else plain more

-- an attribute that declares nothing: its name, and its value as it is written
pub record Field : Type 0 where
  pub name : Name
  pub value : List ℕ

-- an attribute with its namespace, by what is in scope
abbrev pub field_of : List Item → Attr → Field
field_of scope a = record { name = attribute_name scope a.name; value = a.value }

-- a start tag: its name, its attributes that declare nothing, and the language that it declares
pub record Tag : Type 0 where
  pub name : Name
  pub fields : List Field
  pub language : Option (List ℕ)

-- what is in scope inside an element with these attributes, inside what is in scope around it
abbrev pub inside : List Item → List Attr → List Item
inside outer attributes = declared attributes (Element ∷ outer)

-- the attributes of a tag that declare nothing, with their namespaces
abbrev pub fields_in : List Item → List Attr → List Field
fields_in scope attributes = map (field_of scope) (plain attributes)

-- the tag with a name and attributes
abbrev pub tag_of : List Item → Named → List Attr → Tag
tag_of outer n attributes = record {
  name = element_name (inside outer attributes) n;
  fields = fields_in (inside outer attributes) attributes;
  language = language_after None attributes;
}
