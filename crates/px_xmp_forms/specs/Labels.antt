-- The labels of values, as px_xmp_text has them.
use Rattle.std.specs.Prelude.{◌++◌, ◌==◌, ◌&&◌, ◌||◌, ℕ, Bool, true, false, nat_le, if◌then◌else◌, List, [], ◌∷◌, codes, Option, Some, None}
use Rattle.px_xmp_text.specs.Values as values
use Rattle.px_xmp_forms.specs.declared.labels.Container.{Container}
use Rattle.px_xmp_forms.specs.declared.labels.Container.TheVariants.{Bag, Seq, Alt}
use Rattle.px_xmp_forms.specs.declared.labels.Label.{Label}
use Rattle.px_xmp_forms.specs.declared.labels.Label.TheVariants as label
use Rattle.px_xmp_forms.specs.declared.labels.Property.{Property}

-- the octets of ASCII that a name begins with or has (Namespaces in XML 1.0, 4: NCName)
abbrev pub is_name_start : ℕ → Bool
is_name_start o = (nat_le 97 o && nat_le o 122) || (nat_le 65 o && nat_le o 90) || (o == 95)

-- a character of ASCII that a name can contain: [A-Za-z_0-9.-] (XML 1.0, 2.3; without the colon)
abbrev pub is_name_char : ℕ → Bool
is_name_char o = is_name_start o || (nat_le 48 o && nat_le o 57) || (o == 45) || (o == 46)

-- a name can contain each of these octets
abbrev pub are_name_chars : List ℕ → Bool
are_name_chars [] = true
are_name_chars (o ∷ x) = is_name_char o && are_name_chars x

-- octets are a name of ASCII without a colon (NCName; Namespaces in XML 1.0, 3)
abbrev pub is_name : List ℕ → Bool
is_name [] = false
is_name (o ∷ x) = is_name_start o && are_name_chars x

-- the longest name at the end of a namespace, which may be empty
abbrev pub name_at_end : List ℕ → List ℕ
name_at_end [] = []
name_at_end (o ∷ x) = if is_name (o ∷ x) then o ∷ x else name_at_end x

-- what is before the longest name at the end of a namespace
abbrev pub before_name : List ℕ → List ℕ
before_name [] = []
before_name (o ∷ x) = if is_name (o ∷ x) then [] else o ∷ before_name x

-- the label of a property, of which RDF (RDF/XML, 6.1.2) has only its namespace and local name joined: the longest name at the end of
-- the namespace is part of the local name
abbrev pub label_of : List ℕ → List ℕ → values.Label
label_of space local = values.Property (before_name space) (name_at_end space ++ local)

-- the local name as a normal form has it: the name at the end of the namespace, and the local name
abbrev pub local_octets : Property → List ℕ
local_octets p = p.head.now ++ p.local.now

-- a stored property as a label: its namespace, and its local name
abbrev pub property_view : Property → values.Label
property_view p = values.Property p.space.now (local_octets p)

-- a stored label, as px_xmp_text has it: a property's, or that of an item of an array
abbrev pub label_view : Label → values.Label
label_view (label.Property p) = property_view p
label_view label.Member = values.Item

-- a kind of array, as px_xmp_text has it
abbrev pub container_view : Container → values.Compound
container_view Bag = values.Bag
container_view Seq = values.Seq
container_view Alt = values.Alt

-- the name of a container with the end of its tag
abbrev pub container_octets : Container → List ℕ
container_octets Bag = codes "rdf:Bag>"
container_octets Seq = codes "rdf:Seq>"
container_octets Alt = codes "rdf:Alt>"

-- a container, or without one a structure
abbrev pub compound_view : Option Container → values.Compound
compound_view (Some container) = container_view container
compound_view None = values.Structure
