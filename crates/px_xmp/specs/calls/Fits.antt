-- What a call reads unless an allocation fails: what is left of the octets, and values that are
-- within the limits of the output.
use Rattle.std.specs.Prelude.{◌≡◌, ◌≤◌, ◌⊎◌, ℕ, suc, Bool, true, codes, Option, Some, List, [], ◌∷◌, option_map, ⊤, length}
use Rattle.std.specs.List.{AllByRecursion}
use Rattle.px_xmp_text.specs.declared.pieces.TextKind.TheVariants.{AttributeValue}
use Rattle.px_xmp_text.specs.Texts.{text_of}
use Rattle.px_xmp_text.specs.Values as values
use Rattle.px_xmp_text.specs.Values.{Label, Compound, Structure, Content, IsContent, written}
use Rattle.px_xmp_markup.specs.Nesting as Nesting
use Rattle.px_bytes.specs.Parts.{limit}
use Rattle.px_xmp_forms.specs.Entries.{Value, Entry, before, row, AreDistinct}
use Rattle.px_xmp_forms.specs.Forms.{most, HaveShortLanguages, TextFits, is_white}
use Rattle.px_xmp_forms.specs.Uris.{IsAbsolute}
use Rattle.px_xmp.specs.Marks.{End}
use Rattle.px_xmp.specs.Names.{is_rdf}
use Rattle.px_xmp.specs.Tags.{Field, Tag, DeclaresLanguage, inherited}
use Rattle.px_xmp.specs.Nodes.{Nodes, Nothing, Words, Element}
use Rattle.px_xmp.specs.Readable.{IsShallow}
use Rattle.px_xmp.specs.Reading as reading
use Rattle.px_xmp.specs.Reading.{What}
use Rattle.px_xmp.specs.Meaning.{AreAttributes, AreEntries, without_about}
use Rattle.px_xmp.specs.Limits.{IsShortLanguage}
use Rattle.px_xmp.specs.declared.elements.Node.{Node}
use Rattle.px_xmp.specs.declared.elements.Node.TheVariants as nodes
use Rattle.px_xmp.specs.declared.source.Source.{Source}
use Rattle.px_xmp.specs.declared.subject.Subject.{Subject}
use Rattle.px_xmp.specs.calls.Steps.{IsLeft, IsFirst, HasInside}
use Rattle.px_xmp.specs.calls.Contents.{IsShallowInside, HasValue}

-- ---- what is left

-- the value of an attribute is no longer than a packet
abbrev pub FieldFits : Field → Type 0
FieldFits f = length f.value ≤ limit

-- no value of these attributes is longer than a packet
abbrev pub FieldsFit : List Field → Type 0
FieldsFit fields = AllByRecursion FieldFits fields

-- the language of a tag is short, and no value of its attributes is longer than a packet
abbrev pub TagFits : Tag → Type 0
TagFits t = IsShortLanguage t.language × FieldsFit t.fields

-- each tag in these nodes fits, also inside other elements
abbrev pub NodesFit : Nodes → Type 0
NodesFit Nothing = ⊤
NodesFit (Words t more) = NodesFit more
NodesFit (Element tag place inner more) = TagFits tag × NodesFit inner × NodesFit more

-- an element is there, before which is only white space
abbrev pub HasElement : Nodes → Type 0
HasElement Nothing = ⊥
HasElement (Words t more) = (is_white t ≡ true) × HasElement more
HasElement (Element tag place inner more) = ⊤

-- an element is there, or an end tag after the nodes, before which is only white space
abbrev pub HasTag : Nodes → List ℕ → Type 0
HasTag Nothing x = (y : List ℕ) × IsFirst End x y
HasTag (Words t more) x = (is_white t ≡ true) × HasTag more x
HasTag (Element tag place inner more) x = ⊤

-- a mark that is no tag, and no longer than a packet, says white space
abbrev pub SaysWhite : What → Type 0
SaysWhite (reading.Tag t) = ⊥
SaysWhite reading.End = ⊥
SaysWhite (reading.Words kind octets) = (length octets ≤ limit) × (t : List ℕ) × (text_of kind octets ≡ Some t) × (is_white t ≡ true)
SaysWhite reading.Other = ⊤

-- the nodes in an element are left to be read, and its end tag if it is not empty; then y
pub record IsAhead (empty : Bool) (nodes : Nodes) (source : Source) (y : List ℕ) : Type 0 where
  pub left : IsLeft source.at source.rest.now
  pub row : HasInside empty nodes source.scope source.at source.rest.now y
  pub fit : NodesFit nodes

-- the value of a property or an item in an outer language
abbrev pub IsValueOf : List ℕ → ℕ → Tag → Nodes → Value → Type 0
IsValueOf outer place t nodes v = DeclaresLanguage t.language × HasValue (inherited outer t.language) place t.fields nodes v

-- what is in rdf:Description in rdf:RDF: its attributes that are properties, and other properties
pub record IsSubjectNode (outer : List ℕ) (place : ℕ) (t : Tag) (nodes : Nodes) (fs es : List Entry) : Type 0 where
  pub declares : DeclaresLanguage t.language
  pub named : is_rdf (codes "Description") t.name ≡ true
  pub attributes : AreAttributes (inherited outer t.language) place (without_about t.fields) fs
  pub are : AreEntries Structure (inherited outer t.language) nodes es

-- the subject that was named, if one was, has a name that is no longer than a packet
abbrev pub SubjectFits : Subject → Type 0
SubjectFits s = (v : List ℕ) → option_map (λ x. x.now) s.value ≡ Some v → length v ≤ limit

-- ---- what the output has room for

-- what is in a structure or an array, inside so many elements
abbrev pub ContentFits : ℕ → Content → Type 0
ContentFits depth c = IsContent c × IsShallow depth c × (length (written c []) ≤ limit) × HaveShortLanguages c

-- what is in a structure or an array s, inside an element that is the last one of so many
abbrev pub InsideFits : ℕ → Compound → Content → Type 0
InsideFits depth s c = IsContent c × IsShallowInside depth s c × (length (written c []) ≤ limit) × HaveShortLanguages c

-- properties or items, inside so many elements
abbrev pub EntryFits : ℕ → Label → Value → Type 0
EntryFits depth l v = ContentFits depth (before l v values.End)

-- the output has room for each of these properties or items, inside so many elements
abbrev pub AreFit : ℕ → List Entry → Type 0
AreFit depth es = AllByRecursion (λ e. EntryFits depth e.label e.value) es

-- the properties or items of a node can be joined
abbrev pub JoinFits : Node → List Entry → Type 0
JoinFits nodes.Description es = AreDistinct es × (length (written (row es) []) ≤ most)
JoinFits (nodes.Container c) es = length (written (row es) []) ≤ most

-- a node has its own elements
abbrev pub NodeFits : Node → ℕ → Type 0
NodeFits nodes.Description depth = ⊤
NodeFits (nodes.Container c) depth = suc depth ≤ Nesting.limit

-- a mark that is no tag says a text, of which there is room after so many octets
abbrev pub WordsFit : What → ℕ → Type 0
WordsFit (reading.Tag t) n = ⊥
WordsFit reading.End n = ⊥
WordsFit (reading.Words kind octets) n = TextFits kind octets n
WordsFit reading.Other n = ⊤

-- ---- tags

-- a language, or none, which is short
abbrev pub LanguageFits : Option (List ℕ) → Type 0
LanguageFits l = DeclaresLanguage l × IsShortLanguage l

-- an attribute is rdf:parseType or rdf:resource
abbrev pub OneFits : Field → Type 0
OneFits f =
    ((is_rdf (codes "parseType") f.name ≡ true) × (f.value ≡ codes "Resource"))
    ⊎ ((is_rdf (codes "resource") f.name ≡ true) × IsAbsolute f.value × TextFits AttributeValue f.value 0)

-- attributes are properties, of which the output has room inside so many elements
abbrev pub AttributesFit : List ℕ → ℕ → ℕ → List Field → List Entry → Type 0
AttributesFit l place depth fields es = AreAttributes l place fields es × AreFit depth es × FieldsFit fields

-- a property or an item has no attribute, one of these, or attributes that are properties
abbrev pub FillingFits : List ℕ → ℕ → ℕ → List Field → Type 0
FillingFits l place depth fields =
    (fields ≡ []) ⊎ ((f : Field) × (fields ≡ f ∷ []) × OneFits f) ⊎ ((es : List Entry) × AttributesFit l place depth fields es)
