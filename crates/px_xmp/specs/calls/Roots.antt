-- What a call has read of the root, and of rdf:RDF.
use Rattle.std.specs.Prelude.{◌≡◌, ◌⊎◌, ◌++◌, ℕ, Bool, codes, true, false, Option, Some, None, option_map, List, []}
use Rattle.px_xmp_text.specs.Texts.{text_of}
use Rattle.px_xmp_text.specs.declared.pieces.TextKind.TheVariants.{AttributeValue}
use Rattle.px_xmp_text.specs.Values.{Structure, Content}
use Rattle.px_xmp_document.specs.Scopes.{ended}
use Rattle.px_xmp_forms.specs.Entries.{Entry}
use Rattle.px_xmp_forms.specs.Outputs.{State, Has, changed}
use Rattle.px_xmp_forms.specs.declared.output.Output.{Output}
use Rattle.px_xmp.specs.Names.{is_rdf, is_about}
use Rattle.px_xmp.specs.Tags.{Field, Tag, DeclaresLanguage, inherited}
use Rattle.px_xmp.specs.Nodes.{Nodes, AreNodes}
use Rattle.px_xmp.specs.Meaning.{AreAttributes, AreEntries, AreAbout, without_about, AreSubjects, IsAlone, IsRootOf, IsRdf, Means}
use Rattle.px_xmp.specs.Refusals.{IsNamedRdf, AreAllAbout}
use Rattle.px_xmp.specs.declared.elements.Opened.{Opened}
use Rattle.px_xmp.specs.declared.source.Source.{Source}
use Rattle.px_xmp.specs.declared.subject.Subject.{Subject}
use Rattle.px_xmp.specs.calls.Steps.{InsideRead}
use Rattle.px_xmp.specs.Readable.{IsShallow}
use Rattle.px_xmp.specs.calls.Contents.{with_entries, AreShallow, PropertyPut}

-- the subject that was named, if one was, has this text
abbrev pub IsSubject : Subject → Option (List ℕ) → Type 0
IsSubject s u = (v : List ℕ) → option_map (λ x. x.now) s.value ≡ Some v → text_of AttributeValue v ≡ u

-- if no other subject was named, none was before; and of each subject that is named now, P holds and it was the one before
abbrev pub Keeps : Subject → Subject → (Option (List ℕ) → Type 0) → Type 0
Keeps old new P = new.other ≡ None → (old.other ≡ None) × ((u : Option (List ℕ)) → IsSubject new u → IsSubject old u × P u)

-- if a subject is the one that was named, if one was, and no other was named, so it stays where P holds of it
abbrev pub Stays : Subject → Subject → (Option (List ℕ) → Type 0) → Type 0
Stays old new P = (u : Option (List ℕ)) → old.other ≡ None → IsSubject old u → P u → (new.other ≡ None) × IsSubject new u

-- an element is rdf:RDF, and no other subject was named if those in it are about one
abbrev pub NamesOne : Subject → Tag → Nodes → Type 0
NamesOne s tag inner = IsNamedRdf tag inner × ((u : Option (List ℕ)) → AreAllAbout u inner → s.other ≡ None)

-- no subject was named
abbrev pub IsNew : Subject → Type 0
IsNew s = (s.value ≡ None) × (s.other ≡ None)

-- a value of rdf:about names nothing or this subject
abbrev pub IsAbout : List ℕ → Option (List ℕ) → Type 0
IsAbout v u = (v ≡ []) ⊎ (text_of AttributeValue v ≡ u)

-- an attribute of rdf:Description in rdf:RDF was read: the name of the subject, or a property
abbrev pub AttributeRead : Field → List ℕ → ℕ → ℕ → State → Subject → Subject → Output → Type 0
AttributeRead f l depth place s old new output =
    ((is_about f.name ≡ true) × Keeps old new (IsAbout f.value) × Stays old new (IsAbout f.value) × Has output s)
    ⊎ ((is_about f.name ≡ false) × (new ≡ old) × PropertyPut f.name f.value l depth place s output)

-- the attributes of rdf:Description in rdf:RDF were read
pub record AttributesRead (fields : List Field) (l : List ℕ) (depth : ℕ) (place : ℕ)
    (s : State) (old new : Subject) (output : Output) : Type 0 where
  pub entries : List Entry
  pub are : AreAttributes l place (without_about fields) entries
  pub shallow : AreShallow depth entries
  pub about : Keeps old new (λ u. AreAbout u fields)
  pub only : Stays old new (λ u. AreAbout u fields)
  pub has : Has output (changed (with_entries entries) s)

-- rdf:Description in rdf:RDF was read
pub record SubjectRead (o : Opened) (t : Tag) (outer : List ℕ) (depth : ℕ) (old new : Source) (before after : Subject) (s : State)
    (output : Output) : Type 0 where
  pub nodes : Nodes
  pub attributes : List Entry
  pub entries : List Entry
  pub declares : DeclaresLanguage t.language
  pub named : is_rdf (codes "Description") t.name ≡ true
  pub inside : InsideRead o.is_empty nodes old new
  pub attributes_are : AreAttributes (inherited outer t.language) o.place (without_about t.fields) attributes
  pub are : AreEntries Structure (inherited outer t.language) nodes entries
  pub about : Keeps before after (λ u. AreAbout u t.fields)
  pub shallow : AreShallow depth (attributes ++ entries)
  pub only : Stays before after (λ u. AreAbout u t.fields)
  pub scope : new.scope ≡ ended old.scope
  pub has : Has output (changed (with_entries (attributes ++ entries)) s)

-- the content of rdf:RDF was read
pub record SubjectsRead (empty : Bool) (l : List ℕ) (depth : ℕ) (old new : Source) (before after : Subject)
    (s : State) (output : Output) : Type 0 where
  pub nodes : Nodes
  pub entries : List Entry
  pub inside : InsideRead empty nodes old new
  pub are : Keeps before after (λ u. AreSubjects u l nodes entries)
  pub shallow : AreShallow depth entries
  pub only : Stays before after (λ u. AreAllAbout u nodes)
  pub scope : new.scope ≡ old.scope
  pub has : Has output (changed (with_entries entries) s)

-- rdf:RDF was read
pub record RdfRead (o : Opened) (t : Tag) (old new : Source) (after : Subject) (output : Output) : Type 0 where
  pub nodes : Nodes
  pub content : Content
  pub inside : InsideRead o.is_empty nodes old new
  pub is : after.other ≡ None → IsRdf content t nodes
  pub shallow : IsShallow 3 content
  pub only : NamesOne after t nodes
  pub scope : new.scope ≡ ended old.scope
  pub has : Has output (record { opened = []; properties = content })

-- the content of the root around rdf:RDF was read
pub record AroundRead (old new : Source) (after : Subject) (output : Output) : Type 0 where
  pub nodes : Nodes
  pub content : Content
  pub inside : InsideRead false nodes old new
  pub is : after.other ≡ None → IsAlone (IsRdf content) nodes
  pub shallow : IsShallow 3 content
  pub only : IsAlone (NamesOne after) nodes
  pub scope : new.scope ≡ old.scope
  pub has : Has output (record { opened = []; properties = content })

-- rdf:RDF or the root around it was read
pub record RootRead (o : Opened) (t : Tag) (old new : Source) (after : Subject) (output : Output) : Type 0 where
  pub nodes : Nodes
  pub content : Content
  pub inside : InsideRead o.is_empty nodes old new
  pub is : after.other ≡ None → IsRootOf (IsRdf content) t nodes
  pub only : IsRootOf (NamesOne after) t nodes
  pub shallow : IsShallow 3 content
  pub scope : new.scope ≡ ended old.scope
  pub has : Has output (record { opened = []; properties = content })

-- a document was read, as nodes that mean what is put
abbrev pub DocumentRead : Source → Output → Type 0
DocumentRead old output =
    (nodes : Nodes) × (c : Content) × AreNodes nodes old.scope old.at old.rest.now [] × Means nodes c × IsShallow 3 c
    × Has output (record { opened = []; properties = c })
