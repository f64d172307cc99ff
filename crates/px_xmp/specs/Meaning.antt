-- What a document means, apart from how it is read: its properties, by the productions of RDF/XML, 7.2, that XMP part 1, 7, lets
-- programs use. Names and languages are as they are written; one with a reference is for another reader.
-- Example: in rdf:RDF, `<rdf:Description xmp:Rating="5"/>` means the property xmp:Rating with the text `5`. So does
-- `<rdf:Description><xmp:Rating>5</xmp:Rating></rdf:Description>`.
use Rattle.std.specs.Prelude.{◌≡◌, ◌≢◌, ◌⊎◌, ◌+◌, ◌-◌, ℕ, true, codes, if◌then◌else◌, Option, Some, None}
use Rattle.std.specs.Prelude.{List, [], ◌∷◌, ◌++◌, length, drop, ⊤}
use Rattle.std.specs.Str.{str_to_ascii_lowercase}
use Rattle.px_xmp_text.specs.Texts.{text_of}
use Rattle.px_xmp_text.specs.declared.pieces.TextKind.TheVariants.{AttributeValue}
use Rattle.px_xmp_text.specs.Values.{Label, Item, Literal, Uri, Compound, Structure, Bag, Seq, Alt, Content}
use Rattle.px_xmp_document.specs.Document.{IsSplit, order_mark_len}
use Rattle.px_xmp_forms.specs.Entries.{Value, Plain, Inside, Entry, row, Sorts, AreDistinct}
use Rattle.px_xmp_forms.specs.Forms.{is_white}
use Rattle.px_xmp_forms.specs.Labels.{label_of}
use Rattle.px_xmp_forms.specs.Uris.{IsAbsolute}
use Rattle.px_xmp.specs.Names.{Name, is_rdf, is_root, is_about, is_property, container_of}
use Rattle.px_xmp.specs.Tags.{Field, Tag, DeclaresLanguage, inherited}
use Rattle.px_xmp.specs.Nodes.{Nodes, Nothing, Words, Element, AreNodes}

-- ---- texts

-- nothing but white space (ws, 7.2.12)
abbrev pub AreWhite : Nodes → Type 0
AreWhite Nothing = ⊤
AreWhite (Words t more) = (is_white t ≡ true) × AreWhite more
AreWhite (Element tag place inner more) = ⊥

-- nothing but texts, which joined are t
abbrev pub IsText : Nodes → List ℕ → Type 0
IsText Nothing t = t ≡ []
IsText (Words w more) t = (u : List ℕ) × (t ≡ w ++ u) × IsText more u
IsText (Element tag place inner more) t = ⊥

-- a text in a language (RFC 3066, 2.1: in any case)
abbrev pub literal : List ℕ → List ℕ → Value
literal l t = Plain (Literal (str_to_ascii_lowercase l) t)

-- ---- what is in a node

-- a node: a structure (XMP part 1, 7.6) or an array (7.7)
abbrev pub compound_of : Name → Option Compound
compound_of n = if is_rdf (codes "Description") n then Some Structure else container_of n

-- what an element in a node is: a property, or an item of an array
abbrev pub label_in : Compound → Name → Option Label
label_in Structure n = if is_property n then Some (label_of n.space n.local) else None
label_in array n = if is_rdf (codes "li") n then Some Item else None

-- what a node has of these: properties are named once (XMP part 1, 6.1), and neither they nor the items of a bag are in an order
-- (6.3.3, 6.3.4)
abbrev pub Joins : Compound → List Entry → List Entry → Type 0
Joins Structure es fs = AreDistinct es × Sorts es fs
Joins Bag es fs = Sorts es fs
Joins Seq es fs = fs ≡ es
Joins Alt es fs = fs ≡ es

-- what a structure or an array s with the entries es contains: they are joined by its rules, in a
-- row
abbrev pub IsRow : Compound → List Entry → Content → Type 0
IsRow s es c = (fs : List Entry) × Joins s es fs × (c ≡ row fs)

-- properties that are attributes of a tag (propertyAttr, 7.2.25)
abbrev pub AreAttributes : List ℕ → ℕ → List Field → List Entry → Type 0
AreAttributes l place [] es = es ≡ []
AreAttributes l place (f ∷ fields) es =
    (label : Label) × (t : List ℕ) × (more : List Entry) × (label_in Structure f.name ≡ Some label)
    × (text_of AttributeValue f.value ≡ Some t) × (es ≡ record { label = label; value = literal l t; place = place } ∷ more)
    × AreAttributes l place fields more

-- the attributes of a node that are properties: an array has none
abbrev pub HasAttributes : Compound → List ℕ → ℕ → List Field → List Entry → Type 0
HasAttributes Structure l place fields es = AreAttributes l place fields es
HasAttributes array l place fields es = (fields ≡ []) × (es ≡ [])

-- ---- the value of a property or an item, by the attributes of its element and the nodes in it

-- a text (literalPropertyElt, 7.2.16)
abbrev pub IsLiteral : List ℕ → List Field → Nodes → Value → Type 0
IsLiteral l fields inner v = (fields ≡ []) × (t : List ℕ) × IsText inner t × (v ≡ literal l t)

-- a node (resourcePropertyElt, 7.2.15)
abbrev pub IsResource : List Field → (Compound → Content → Type 0) → Value → Type 0
IsResource fields IsInside v = (fields ≡ []) × (s : Compound) × (c : Content) × IsInside s c × (v ≡ Inside s c)

-- properties, by rdf:parseType="Resource" (parseTypeResourcePropertyElt, 7.2.18)
abbrev pub IsParsed : List Field → (List Entry → Type 0) → Value → Type 0
IsParsed fields AreInside v =
    (f : Field) × (fields ≡ f ∷ []) × (is_rdf (codes "parseType") f.name ≡ true) × (f.value ≡ codes "Resource")
    × (es : List Entry) × (c : Content) × AreInside es × IsRow Structure es c × (v ≡ Inside Structure c)

-- a URI, by rdf:resource (emptyPropertyElt, 7.2.21): an absolute one, as a packet has no base for another (RFC 3986, 5.1)
abbrev pub IsUri : List Field → Nodes → Value → Type 0
IsUri fields inner v =
    (f : Field) × (fields ≡ f ∷ []) × (is_rdf (codes "resource") f.name ≡ true) × IsAbsolute f.value × AreWhite inner
    × (t : List ℕ) × (text_of AttributeValue f.value ≡ Some t) × (v ≡ Plain (Uri t))

-- properties that are attributes (emptyPropertyElt, 7.2.21)
abbrev pub IsDescribed : List ℕ → ℕ → List Field → Nodes → Value → Type 0
IsDescribed l place fields inner v =
    (fields ≢ []) × AreWhite inner × (es : List Entry) × (c : Content) × AreAttributes l place fields es × IsRow Structure es c
    × (v ≡ Inside Structure c)

-- the value of an element with the language l and these attributes: a text, a node, properties, a
-- URI, or attributes that are properties. IsInside says what the nodes in it are as one node, and
-- AreInside what they are as properties.
abbrev pub IsValue : List ℕ → ℕ → List Field → Nodes → (Compound → Content → Type 0) → (List Entry → Type 0) → Value → Type 0
IsValue l place fields inner IsInside AreInside v =
    IsLiteral l fields inner v ⊎ IsResource fields IsInside v ⊎ IsParsed fields AreInside v ⊎ IsUri fields inner v
    ⊎ IsDescribed l place fields inner v

-- ---- nodes

abbrev mutual
  -- properties (propertyEltList, 7.2.13) or items (XMP part 1, 7.7), with white space between them
  pub AreEntries : Compound → List ℕ → Nodes → List Entry → Type 0
  AreEntries s l Nothing es = es ≡ []
  AreEntries s l (Words t more) es = (is_white t ≡ true) × AreEntries s l more es
  AreEntries s l (Element tag place inner more) es =
      DeclaresLanguage tag.language × (label : Label) × (v : Value) × (others : List Entry) × (label_in s tag.name ≡ Some label)
      × (es ≡ record { label = label; value = v; place = place } ∷ others) × AreEntries s l more others
      × IsValue (inherited l tag.language) place tag.fields inner (IsNode (inherited l tag.language) inner)
      (AreEntries Structure (inherited l tag.language) inner) v

  -- one node (nodeElement, 7.2.11), with white space around it
  pub IsNode : List ℕ → Nodes → Compound → Content → Type 0
  IsNode l Nothing s c = ⊥
  IsNode l (Words t more) s c = (is_white t ≡ true) × IsNode l more s c
  IsNode l (Element tag place inner more) s c =
      DeclaresLanguage tag.language × (compound_of tag.name ≡ Some s) × AreWhite more × (fs es : List Entry)
      × HasAttributes s (inherited l tag.language) place tag.fields fs × AreEntries s (inherited l tag.language) inner es
      × IsRow s (fs ++ es) c

-- ---- the document

-- rdf:about (aboutAttr, 7.2.24) is empty or names the subject u, which is that of all nodes (XMP part 1, 7.4)
abbrev pub AreAbout : Option (List ℕ) → List Field → Type 0
AreAbout u [] = ⊤
AreAbout u (f ∷ fields) = (is_about f.name ≡ true → (f.value ≡ []) ⊎ (text_of AttributeValue f.value ≡ u)) × AreAbout u fields

-- the attributes that are not rdf:about
abbrev pub without_about : List Field → List Field
without_about [] = []
without_about (f ∷ fields) = if is_about f.name then without_about fields else f ∷ without_about fields

-- properties in nodes that are about one subject (nodeElementList, 7.2.10)
abbrev pub AreSubjects : Option (List ℕ) → List ℕ → Nodes → List Entry → Type 0
AreSubjects u l Nothing all = all ≡ []
AreSubjects u l (Words t more) all = (is_white t ≡ true) × AreSubjects u l more all
AreSubjects u l (Element tag place inner more) all =
    DeclaresLanguage tag.language × (is_rdf (codes "Description") tag.name ≡ true) × AreAbout u tag.fields × (fs es others : List Entry)
    × AreAttributes (inherited l tag.language) place (without_about tag.fields) fs
    × AreEntries Structure (inherited l tag.language) inner es × AreSubjects u l more others × (all ≡ fs ++ (es ++ others))

-- rdf:RDF (RDF, 7.2.9), which has all properties
abbrev pub IsRdf : Content → Tag → Nodes → Type 0
IsRdf c tag inner =
    DeclaresLanguage tag.language × (is_rdf (codes "RDF") tag.name ≡ true) × (tag.fields ≡ []) × (u : Option (List ℕ)) × (es : List Entry)
    × AreSubjects u (inherited [] tag.language) inner es × IsRow Structure es c

-- one element of which P holds, with white space around it
abbrev pub IsAlone : (Tag → Nodes → Type 0) → Nodes → Type 0
IsAlone P Nothing = ⊥
IsAlone P (Words t more) = (is_white t ≡ true) × IsAlone P more
IsAlone P (Element tag place inner more) = P tag inner × AreWhite more

-- an element of which P holds, or x:xmpmeta around one (XMP part 1, 7.3.3): its attributes mean nothing
abbrev pub IsRootOf : (Tag → Nodes → Type 0) → Tag → Nodes → Type 0
IsRootOf P tag inner = P tag inner ⊎ ((is_root tag.name ≡ true) × IsAlone P inner)

-- one such root, with white space around it
abbrev pub HasRoot : (Tag → Nodes → Type 0) → Nodes → Type 0
HasRoot P nodes = IsAlone (IsRootOf P) nodes

-- nodes mean what is in rdf:RDF
abbrev pub Means : Nodes → Content → Type 0
Means nodes c = HasRoot (IsRdf c) nodes

-- a document at an offset of its packet has these nodes
pub record HasNodes (x : List ℕ) (start : ℕ) (nodes : Nodes) : Type 0 where
  pub declaration : List ℕ
  pub encoding : Option (List ℕ)
  pub tree : List ℕ
  pub parts : IsSplit (drop (order_mark_len x) x) declaration encoding tree
  pub row : AreNodes nodes [] (start + (length x - length tree)) tree []

-- the document x at this offset of its packet has nodes, and they mean c
pub record HasMeaning (x : List ℕ) (start : ℕ) (c : Content) : Type 0 where
  pub nodes : Nodes
  pub are : HasNodes x start nodes
  pub means : Means nodes c
