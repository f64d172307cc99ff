-- Names and tags, as they are stored.
use Rattle.std.specs.Prelude.{◌≡◌, None, option_map, List}
use Rattle.px_xmp_marks.specs.Reading.{Attr}
use Rattle.px_xmp_document.specs.Scopes.{Item}
use Rattle.px_xmp.specs.declared.names.Named.{Named}
use Rattle.px_xmp.specs.declared.scope.Declared.{Declared}
use Rattle.px_xmp.specs.declared.elements.Opened.{Opened}
use Rattle.px_xmp.specs.declared.elements.Node.{Node}
use Rattle.px_xmp.specs.declared.elements.Node.TheVariants as nodes
use Rattle.px_xmp_text.specs.Values.{Compound, Structure}
use Rattle.px_xmp_forms.specs.Labels.{container_view}
use Rattle.px_xmp.specs.Names.{Name}
use Rattle.px_xmp.specs.Tags.{Tag, language_after, fields_in}
use Rattle.px_xmp.specs.calls.Listed.{AreListed, ArePlain}

-- a stored name with its namespace
abbrev pub name_of : Named → Name
name_of n = record { space = n.space.now; local = n.local.now }

-- the language and the attributes, from the first on that declares nothing, are those of a tag with these
abbrev pub IsDeclared : Declared → List Attr → Type 0
IsDeclared d attributes =
    (option_map (λ l. l.now) d.language ≡ language_after None attributes) × ArePlain d.attributes.now attributes

-- a tag that is opened, where this is in scope inside its element, is t
abbrev pub IsOpened : List Item → Opened → Tag → Type 0
IsOpened scope o t =
    (name_of o.name ≡ t.name) × (option_map (λ l. l.now) o.language ≡ t.language)
    × (all : List Attr) × AreListed o.attributes.now all × (fields_in scope all ≡ t.fields)

-- a node: a structure or an array
abbrev pub node_view : Node → Compound
node_view nodes.Description = Structure
node_view (nodes.Container c) = container_view c
