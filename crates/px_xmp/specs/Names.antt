-- Names with their namespaces, and those that have a meaning of their own. Namespaces in XML 1.0, 2.1 and 6; RDF/XML, 5.1;
-- XMP part 1, 7.
use Rattle.std.specs.Prelude.{◌&&◌, ◌||◌, ℕ, Bool, not, codes, if◌then◌else◌, Option, Some, None, List, []}
use Rattle.px_xmp_text.specs.Values.{Compound, Bag, Seq, Alt}
use Rattle.px_xmp_marks.specs.Reading.{Named}
use Rattle.px_xmp_document.specs.Scopes.{Item, is_same, xml_space, xmlns_space, space_of}
use Rattle.px_xmp_document.specs.Tags.{attribute_space}
use Rattle.px_xmp_forms.specs.Labels.{before_name}

-- an expanded name (Namespaces, 2.1): a namespace, which is empty for none, and a local name
pub record Name : Type 0 where
  pub space : List ℕ
  pub local : List ℕ

-- a namespace, or the empty one for none
abbrev pub or_none : Option (List ℕ) → List ℕ
or_none None = []
or_none (Some u) = u

-- the name of an element, and of an attribute, to which no default namespace applies (Namespaces, 6.2)
abbrev pub element_name : List Item → Named → Name
element_name scope n = record { space = or_none (space_of n.prefix scope); local = n.local }

-- the name of an attribute: without a prefix it is in no namespace
abbrev pub attribute_name : List Item → Named → Name
attribute_name scope n = record { space = or_none (attribute_space scope n); local = n.local }

-- the namespace of RDF (RDF/XML, 5.1)
abbrev pub rdf_space : List ℕ
rdf_space = codes "http://www.w3.org/1999/02/22-rdf-syntax-ns#"

-- the namespace of x:xmpmeta (XMP part 1, 7.3.3)
abbrev pub meta_space : List ℕ
meta_space = codes "adobe:ns:meta/"

-- a name of RDF (RDF/XML, 5.1)
abbrev pub is_rdf : List ℕ → Name → Bool
is_rdf local n = is_same n.local local && is_same n.space rdf_space

-- the root around rdf:RDF (XMP part 1, 7.3.3), also by its old name
abbrev pub is_root : Name → Bool
is_root n = (is_same n.local (codes "xmpmeta") || is_same n.local (codes "xapmeta")) && is_same n.space meta_space

-- rdf:about, which old packets have without a prefix (RDF/XML, 6.1.4 and 7.2.5)
abbrev pub is_about : Name → Bool
is_about n = is_same n.local (codes "about") && (is_same n.space [] || is_same n.space rdf_space)

-- a namespace that has properties of any name: one that is not RDF's own or bound to a prefix by XML (Namespaces, 3)
abbrev pub is_free : List ℕ → Bool
is_free u = not (is_same u []) && not (is_same u rdf_space) && not (is_same u xmlns_space)

-- a property: of RDF rdf:value alone, and otherwise a name in a namespace that is not XML's (XMP part 1, 6.1 and 7.5). RDF has
-- of a property only its namespace and local name joined (RDF/XML, 6.1.2), so what precedes the name at the end of the namespace
-- has properties
abbrev pub is_property : Name → Bool
is_property n =
    if is_same n.space rdf_space then is_same n.local (codes "value")
    else not (is_same n.space xml_space) && is_free (before_name n.space)

-- a container (XMP part 1, 7.7)
abbrev pub container_of : Name → Option Compound
container_of n =
    if is_rdf (codes "Bag") n then Some Bag
    else if is_rdf (codes "Seq") n then Some Seq
    else if is_rdf (codes "Alt") n then Some Alt
    else None
