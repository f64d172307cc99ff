-- What a call has read of an element, and put into the output.
use Rattle.std.specs.Prelude.{◌≡◌, ◌≢◌, ◌≤◌, ◌<◌, ◌++◌, ℕ, suc, Bool, true, false, not, codes, Option, Some, is_some, List, [], ◌∷◌, ⊤}
use Rattle.std.specs.List.{AllByRecursion}
use Rattle.px_xmp_text.specs.Texts.{text_of}
use Rattle.px_xmp_text.specs.declared.pieces.TextKind.TheVariants.{AttributeValue}
use Rattle.px_xmp_text.specs.Values.{Label, Compound, Structure}
use Rattle.px_xmp_text.specs.Values as values
use Rattle.px_xmp_marks.specs.Reading.{Attr, Next}
use Rattle.px_xmp_document.specs.Scopes.{ended}
use Rattle.px_xmp_forms.specs.Forms.{is_white}
use Rattle.px_xmp_forms.specs.Uris.{IsAbsolute}
use Rattle.px_xmp_markup.specs.Nesting.{limit}
use Rattle.px_xmp_forms.specs.Entries.{Value, Plain, Inside, Entry, before}
use Rattle.px_xmp_forms.specs.Outputs.{State, Open, Has, nothing, begun, changed, with_text, with_inner, with_entry, value_of}
use Rattle.px_xmp_forms.specs.Outputs.{JoinsProperties, JoinsMembers}
use Rattle.px_xmp_forms.specs.declared.labels.Content.{Content}
use Rattle.px_xmp_forms.specs.declared.labels.Content.TheVariants as content
use Rattle.px_xmp_forms.specs.declared.labels.Container.{Container}
use Rattle.px_xmp_forms.specs.declared.labels.Container.TheVariants as containers
use Rattle.px_xmp_forms.specs.declared.output.Output.{Output}
use Rattle.px_xmp.specs.Names.{Name, is_rdf}
use Rattle.px_xmp.specs.Tags.{Field, Tag, DeclaresLanguage, inherited, plain}
use Rattle.px_xmp.specs.Nodes.{Nodes}
use Rattle.px_xmp.specs.Meaning.{AreWhite, IsText, literal, compound_of, label_in, AreAttributes, HasAttributes, IsRow}
use Rattle.px_xmp.specs.Meaning.{IsValue, AreEntries, IsNode}
use Rattle.px_xmp.specs.Readable.{IsShallow}
use Rattle.px_xmp.specs.Reading.{What}
use Rattle.px_xmp.specs.declared.elements.Opened.{Opened}
use Rattle.px_xmp.specs.declared.elements.Around.{Around}
use Rattle.px_xmp.specs.declared.elements.Node.{Node}
use Rattle.px_xmp.specs.declared.elements.Node.TheVariants as nodes
use Rattle.px_xmp.specs.declared.elements.Filling.{Filling}
use Rattle.px_xmp.specs.declared.elements.Filling.TheVariants as fillings
use Rattle.px_xmp.specs.declared.source.Source.{Source}
use Rattle.px_xmp.specs.calls.Listed.{AreListed}
use Rattle.px_xmp.specs.calls.Opening.{node_view}
use Rattle.px_xmp.specs.calls.Steps.{Says, TagAfter, InsideRead}

-- what the normal form writes around a node
abbrev pub content_of : Node → Content
content_of nodes.Description = content.Structure
content_of (nodes.Container c) = content.Members c

-- an open element after entries were added to those that it has
abbrev pub with_entries : List Entry → Open → Open
with_entries es o = record { text = o.text; inner = o.inner; entries = o.entries ++ es }

-- ---- depth

-- entries are not too deep inside so many elements
abbrev pub AreShallow : ℕ → List Entry → Type 0
AreShallow depth es = AllByRecursion (λ e. IsShallow depth (before e.label e.value values.End)) es

-- what is in a structure or an array is not, inside an element that is the last one of so many
abbrev pub IsShallowInside : ℕ → Compound → values.Content → Type 0
IsShallowInside depth Structure c = IsShallow depth c
IsShallowInside depth array c = (suc depth ≤ limit) × IsShallow (suc depth) c

-- a value is not too deep inside so many elements: a text or a URI never is
abbrev pub IsShallowValue : ℕ → Value → Type 0
IsShallowValue depth (Plain p) = ⊤
IsShallowValue depth (Inside s c) = IsShallowInside depth s c

-- how many elements are around what is in a node, inside so many
abbrev pub IsNodeDepth : Node → ℕ → ℕ → Type 0
IsNodeDepth nodes.Description outer depth = depth ≡ outer
IsNodeDepth (nodes.Container c) outer depth = (depth ≡ suc outer) × (depth ≤ limit)

-- ---- attributes

-- a property that is an attribute: its label, the text t in the language l, and the offset of its
-- tag
abbrev pub attribute : Label → ℕ → List ℕ → List ℕ → Entry
attribute label place l t = record { label = label; value = literal l t; place = place }

-- an attribute was put, as a property
pub record PropertyPut (name : Name) (value : List ℕ) (l : List ℕ) (depth : ℕ) (place : ℕ) (s : State) (output : Output) : Type 0 where
  pub label : Label
  pub text : List ℕ
  pub named : label_in Structure name ≡ Some label
  pub says : text_of AttributeValue value ≡ Some text
  pub shallow : depth < limit
  pub has : Has output (changed (with_entry (attribute label place l text)) s)

-- attributes were put, as properties
pub record PropertiesPut (fields : List Field) (l : List ℕ) (depth : ℕ) (place : ℕ) (s : State) (output : Output) : Type 0 where
  pub entries : List Entry
  pub are : AreAttributes l place fields entries
  pub shallow : AreShallow depth entries
  pub has : Has output (changed (with_entries entries) s)

-- the only attribute was put, as a URI
pub record ResourcePut (n : Next) (s : State) (output : Output) : Type 0 where
  pub absolute : IsAbsolute n.attribute.value
  pub text : List ℕ
  pub says : text_of AttributeValue n.attribute.value ≡ Some text
  pub only : (more : List Attr) → AreListed n.rest more → plain more ≡ []
  pub has : Has output (changed (with_text text) s)

-- what the attributes of a property or an item are, and what was put
abbrev pub IsFilled : Filling → List Field → List ℕ → ℕ → ℕ → State → Output → Type 0
IsFilled fillings.Any fields l depth place s output = (fields ≡ []) × Has output s
IsFilled fillings.Properties fields l depth place s output =
    (f : Field) × (fields ≡ f ∷ []) × (is_rdf (codes "parseType") f.name ≡ true) × (f.value ≡ codes "Resource") × Has output s
IsFilled fillings.Resource fields l depth place s output =
    (f : Field) × (fields ≡ f ∷ []) × (is_rdf (codes "resource") f.name ≡ true) × IsAbsolute f.value
    × (t : List ℕ) × (text_of AttributeValue f.value ≡ Some t) × Has output (changed (with_text t) s)
IsFilled fillings.Attributes fields l depth place s output = (fields ≢ []) × PropertiesPut fields l depth place s output

-- ---- the text of a property or an item

-- a mark that is no tag was put to the text of the innermost element
abbrev pub PutsWords : What → State → Bool → Output → Type 0
PutsWords w s more output =
    (o : Open) (os : List Open) → s.opened ≡ o ∷ os
    → (t : List ℕ) × Says w t × (more ≡ not (is_white t))
    × Has output (record { opened = with_text (o.text ++ t) o ∷ os; properties = s.properties })

-- the text up to a tag was read; before a start tag it is white space
pub record TextRead (o : Option Opened) (s : State) (old new : Source) (output : Output) : Type 0 where
  pub nodes : Nodes
  pub text : List ℕ
  pub is_text : IsText nodes text
  pub white : is_some o ≡ true → AreWhite nodes
  pub after : TagAfter o nodes old new
  pub has : Has output (begun (with_text text nothing) s)

-- ---- nodes

-- a node was begun: its attributes were put
pub record NodeBegun (node : Node) (t : Tag) (outer : List ℕ) (depth : ℕ) (place : ℕ) (a : Around)
    (s : State) (output : Output) : Type 0 where
  pub declares : DeclaresLanguage t.language
  pub language : a.language.now ≡ inherited outer t.language
  pub entries : List Entry
  pub are : HasAttributes (node_view node) (inherited outer t.language) place t.fields entries
  pub inner : IsNodeDepth node depth a.depth
  pub shallow : AreShallow a.depth entries
  pub has : Has output (begun (with_entries entries nothing) s)

-- a bag, whose items have no order (XMP part 1, 6.3.3)
abbrev pub is_bag : Container → Bool
is_bag containers.Bag = true
is_bag containers.Seq = false
is_bag containers.Alt = false

-- the entries of a node are joined
abbrev pub JoinsNode : Node → State → State → Type 0
JoinsNode nodes.Description s after = JoinsProperties s after
JoinsNode (nodes.Container c) s after = JoinsMembers (is_bag c) s after

-- the entries of a node were joined, inside the element around it
abbrev pub NodeEnded : Node → State → Output → Type 0
NodeEnded node s output =
    (es : List Entry) (o : Open) (os : List Open) → s.opened ≡ with_entries es nothing ∷ o ∷ os
    → (c : values.Content) × IsRow (node_view node) es c × Has output (record { opened = with_inner c o ∷ os; properties = s.properties })

-- properties or items were read
pub record ItemsRead (empty : Bool) (compound : Compound) (l : List ℕ) (depth : ℕ) (old new : Source)
    (s : State) (output : Output) : Type 0 where
  pub nodes : Nodes
  pub entries : List Entry
  pub inside : InsideRead empty nodes old new
  pub are : AreEntries compound l nodes entries
  pub shallow : AreShallow depth entries
  pub scope : new.scope ≡ old.scope
  pub has : Has output (changed (with_entries entries) s)

-- the value of a property or an item in a language, with these attributes and nodes
abbrev pub HasValue : List ℕ → ℕ → List Field → Nodes → Value → Type 0
HasValue l place fields nodes v = IsValue l place fields nodes (IsNode l nodes) (AreEntries Structure l nodes) v

-- a property or an item was read
pub record ValueRead (o : Opened) (t : Tag) (label : Label) (outer : List ℕ) (depth : ℕ) (old new : Source)
    (s : State) (output : Output) : Type 0 where
  pub nodes : Nodes
  pub value : Value
  pub inside : InsideRead o.is_empty nodes old new
  pub declares : DeclaresLanguage t.language
  pub is : HasValue (inherited outer t.language) o.place t.fields nodes value
  pub shallow : IsShallow depth (before label value values.End)
  pub scope : new.scope ≡ ended old.scope
  pub has : Has output (changed (with_entry (record { label = label; value = value; place = o.place })) s)

-- the content of a property or an item was read, and what its element has
pub record ContentRead (c : Content) (empty : Bool) (fields : List Field) (a : Around) (old new : Source) (s : State)
    (output : Output) : Type 0 where
  pub nodes : Nodes
  pub element : Open
  pub inside : InsideRead empty nodes old new
  pub is : HasValue a.language.now a.place fields nodes (value_of c element.text element.inner)
  pub shallow : IsShallowValue a.depth (value_of c element.text element.inner)
  pub scope : new.scope ≡ old.scope
  pub has : Has output (begun element s)

-- a node was read, and is inside the element around it
pub record NodeRead (node : Node) (o : Opened) (t : Tag) (outer : List ℕ) (depth : ℕ) (old new : Source)
    (s : State) (output : Output) : Type 0 where
  pub nodes : Nodes
  pub content : values.Content
  pub attributes : List Entry
  pub entries : List Entry
  pub inside : InsideRead o.is_empty nodes old new
  pub declares : DeclaresLanguage t.language
  pub named : compound_of t.name ≡ Some (node_view node)
  pub attributes_are : HasAttributes (node_view node) (inherited outer t.language) o.place t.fields attributes
  pub are : AreEntries (node_view node) (inherited outer t.language) nodes entries
  pub row : IsRow (node_view node) (attributes ++ entries) content
  pub shallow : IsShallowInside depth (node_view node) content
  pub scope : new.scope ≡ ended old.scope
  pub has : Has output (begun (with_inner content nothing) s)
