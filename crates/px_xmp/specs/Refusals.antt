-- Why a packet is refused, and where. Three layers judge it, and the first with a fault decides: its length and encoding, its
-- document, and RDF.
use Rattle.std.specs.Prelude.{◌≡◌, ◌≤◌, ◌<◌, ◌⊎◌, ◌+◌, ◌++◌, ◌==◌, ◌&&◌, ℕ, Bool, true, false, nat_eq, codes, Option, List, ⊤}
use Rattle.std.specs.Prelude.{length, drop, Result, Ok, Err}
use Rattle.std.specs.List.{starts_with}
use Rattle.px_bytes.specs.Parts.{limit}
use Rattle.px_xmp_marks.specs.Declarations.{every}
use Rattle.px_xmp_markup.specs.declared.faults.TreeCause.{TreeCause}
use Rattle.px_xmp_markup.specs.declared.faults.TreeCause.TheVariants as nesting
use Rattle.px_xmp_markup.specs.declared.faults.AttributeCause.{AttributeCause}
use Rattle.px_xmp_markup.specs.declared.faults.AttributeCause.TheVariants as attributes
use Rattle.px_xmp_document.specs.declared.faults.SpaceCause.{SpaceCause}
use Rattle.px_xmp_document.specs.declared.faults.SpaceCause.TheVariants as spaces
use Rattle.px_xmp_document.specs.declared.faults.Cause.{Cause as DocumentCause}
use Rattle.px_xmp_document.specs.declared.faults.Cause.TheVariants as documents
use Rattle.px_xmp_document.specs.Document.{IsSplit, order_mark_len, IsFile}
use Rattle.px_xmp_document.specs.Faults.{IsFileFault}
use Rattle.px_xmp_forms.specs.Causes.{is_rare_in_rdf}
use Rattle.px_xmp_forms.specs.declared.faults.Refusal.{Refusal}
use Rattle.px_xmp_forms.specs.declared.faults.Refusal.TheVariants.{Content, OutOfMemory}
use Rattle.px_xmp_forms.specs.declared.faults.Cause.{Cause}
use Rattle.px_xmp_forms.specs.declared.faults.Cause.TheVariants.{TooLong, BadCharacter, BadMarkup, BadReference, DocumentType, OtherEnd}
use Rattle.px_xmp_forms.specs.declared.faults.Cause.TheVariants.{AttributeTwice, BadPrefix, NoRoot, TooDeep, RareEncoding, RareName}
use Rattle.px_xmp_forms.specs.declared.faults.Cause.TheVariants.{RareNamespace, RareCount, NoRdf, SeveralSubjects}
use Rattle.px_xmp.specs.Packet.{is_padding, is_wide, AreAround, BeginsBare, EndsBare}
use Rattle.px_xmp.specs.Limits.{NoneCrowded, IsFirstCrowded}
use Rattle.px_xmp.specs.Names.{is_rdf}
use Rattle.px_xmp.specs.Tags.{Tag}
use Rattle.px_xmp.specs.Nodes.{Nodes, Nothing, Words, Element}
use Rattle.px_xmp.specs.Meaning.{AreAbout, HasRoot, HasNodes}

-- if a call refuses a packet by a cause at a place, this is so
abbrev pub IfRefused : {X : Type 0} → Result X Refusal → (Cause → ℕ → Type 0) → Type 0
IfRefused (Ok x) P = ⊤
IfRefused (Err (Content cause place)) P = P cause place
IfRefused (Err OutOfMemory) P = ⊤

-- ---- the causes of documents, as those of packets

-- octets that begin with no mark, and with no document type
abbrev pub is_unread : Cause → Bool
is_unread BadMarkup = true
is_unread BadReference = true
is_unread RareName = true
is_unread cause = false

-- octets begin with no mark. Which of the three causes they have, if they are no document type, no definition says
abbrev pub IsMarkCause : List ℕ → Cause → Type 0
IsMarkCause x cause =
    ((starts_with nat_eq x (codes "<!DOCTYPE") ≡ true) × (cause ≡ DocumentType))
    ⊎ ((starts_with nat_eq x (codes "<!DOCTYPE") ≡ false) × (is_unread cause ≡ true))

-- nested elements are wrong, at octets x
abbrev pub IsNestingCause : TreeCause → List ℕ → Cause → Type 0
IsNestingCause nesting.NoMark x cause = IsMarkCause x cause
IsNestingCause nesting.DocumentType x cause = cause ≡ DocumentType
IsNestingCause nesting.OtherEnd x cause = cause ≡ OtherEnd
IsNestingCause nesting.TooDeep x cause = cause ≡ TooDeep
IsNestingCause nesting.OutsideRoot x cause = cause ≡ NoRoot
IsNestingCause nesting.SecondRoot x cause = cause ≡ NoRoot
IsNestingCause nesting.NoRoot x cause = cause ≡ NoRoot
IsNestingCause nesting.NoEnd x cause = cause ≡ BadMarkup

-- that attributes or prefixes have no mark is no fault of nested elements
abbrev pub attribute_cause : AttributeCause → Cause
attribute_cause attributes.NoMark = BadMarkup
attribute_cause attributes.AttributeTwice = AttributeTwice

-- the cause of a refusal that a fault of prefixes or namespaces is, or a limit that px_xmp_document
-- has
abbrev pub space_cause : SpaceCause → Cause
space_cause spaces.NoMark = BadMarkup
space_cause spaces.Undeclared = BadPrefix
space_cause spaces.Reserved = BadPrefix
space_cause spaces.RareSpace = RareNamespace
space_cause spaces.TooMany = RareCount
space_cause spaces.ManyAttributes = RareCount
space_cause spaces.SameName = AttributeTwice

-- a fault of the document x, which px_xmp_document finds, is refused with this cause
abbrev pub IsDocumentCause : DocumentCause → List ℕ → Cause → Type 0
IsDocumentCause documents.NoCharacter x cause = cause ≡ BadCharacter
IsDocumentCause documents.OtherEncoding x cause = cause ≡ RareEncoding
IsDocumentCause (documents.Nesting c) x cause = IsNestingCause c x cause
IsDocumentCause (documents.Attributes c) x cause = cause ≡ attribute_cause c
IsDocumentCause (documents.Spaces c) x cause = cause ≡ space_cause c

-- a fault at the start of a document that begins as a declaration does: that has another version or form, or names an encoding
abbrev pub is_declaration : List ℕ → ℕ → Bool
is_declaration x n = (n == 0) && starts_with nat_eq x (codes "<?xml")

-- the cause of a fault at the offset n of the document x
abbrev pub IsCauseOf : List ℕ → DocumentCause → ℕ → Cause → Type 0
IsCauseOf x fault n cause =
    ((is_declaration x n ≡ true) × (cause ≡ RareEncoding)) ⊎ ((is_declaration x n ≡ false) × IsDocumentCause fault (drop n x) cause)

-- ---- the causes of RDF

-- an element is rdf:RDF
abbrev pub IsNamedRdf : Tag → Nodes → Type 0
IsNamedRdf tag inner = is_rdf (codes "RDF") tag.name ≡ true

-- the elements of nodes are about the subject u, or name none
abbrev pub AreAllAbout : Option (List ℕ) → Nodes → Type 0
AreAllAbout u Nothing = ⊤
AreAllAbout u (Words t more) = AreAllAbout u more
AreAllAbout u (Element tag place inner more) = AreAbout u tag.fields × AreAllAbout u more

-- an element is rdf:RDF, and those in it are not about one subject
abbrev pub NamesSeveral : Tag → Nodes → Type 0
NamesSeveral tag inner = IsNamedRdf tag inner × ((u : Option (List ℕ)) → AreAllAbout u inner → ⊥)

-- why RDF refuses nodes: they are not rdf:RDF, or the root around it; they are, and it names several subjects; or they are left to
-- another reader
abbrev pub IsCauseOfRdf : Cause → Nodes → Type 0
IsCauseOfRdf NoRdf nodes = HasRoot IsNamedRdf nodes → ⊥
IsCauseOfRdf SeveralSubjects nodes = HasRoot NamesSeveral nodes
IsCauseOfRdf cause nodes = is_rare_in_rdf cause ≡ true

-- ---- the layers

-- a packet is too long
abbrev pub IsRefusedByLength : List ℕ → Cause → ℕ → Type 0
IsRefusedByLength x cause place = (limit < length x) × (cause ≡ TooLong) × (place ≡ limit)

-- the packet is not too long, and begins as UTF-16 or UTF-32 does
abbrev pub IsRefusedByEncoding : List ℕ → Cause → ℕ → Type 0
IsRefusedByEncoding x cause place = (length x ≤ limit) × (is_wide x ≡ true) × (cause ≡ RareEncoding) × (place ≡ 0)

-- the packet is not too long, and doesn't begin so; what is left without all byte order marks and
-- padding at the start and all padding at the end is to be a document
pub record HasDocument (x : List ℕ) : Type 0 where
  pub before : List ℕ
  pub document : List ℕ
  pub after : List ℕ
  pub joined : x ≡ before ++ document ++ after
  pub few : length x ≤ limit
  pub narrow : is_wide x ≡ false
  pub pieces : List (List ℕ)
  pub around : AreAround pieces before
  pub padding : every is_padding after ≡ true
  pub first : BeginsBare (document ++ after)
  pub last : EndsBare document

-- octets at an offset of their packet are refused by a limit: the first tag, after their declaration if they have one, that has more
-- attributes than this reader judges
pub record IsRefusedByCount (x : List ℕ) (start : ℕ) (cause : Cause) (place : ℕ) : Type 0 where
  pub declaration : List ℕ
  pub encoding : Option (List ℕ)
  pub head : ℕ
  pub offset : ℕ
  pub parts : IsSplit (drop (order_mark_len x) x) declaration encoding (drop head x)
  pub crowded : IsFirstCrowded (drop head x) offset
  pub is : cause ≡ RareCount
  pub at : place ≡ start + (head + offset)

-- there is none
abbrev pub HasNoCount : List ℕ → Type 0
HasNoCount x =
    (declaration : List ℕ) (encoding : Option (List ℕ)) (head : ℕ) → IsSplit (drop (order_mark_len x) x) declaration encoding (drop head x)
    → NoneCrowded (drop head x)

-- then they are no document: their first fault, as px_xmp_document has it
pub record IsRefusedByFault (x : List ℕ) (start : ℕ) (cause : Cause) (place : ℕ) : Type 0 where
  pub few : HasNoCount x
  pub fault : DocumentCause
  pub offset : ℕ
  pub first : IsFileFault x fault offset
  pub is : IsCauseOf x fault offset cause
  pub at : place ≡ start + offset

-- a document at an offset of its packet is refused by RDF
abbrev pub IsRefusedByRdf : List ℕ → ℕ → Cause → Type 0
IsRefusedByRdf x start cause = IsFile x × (nodes : Nodes) × HasNodes x start nodes × IsCauseOfRdf cause nodes

-- the document x at the offset `start` of its packet is refused with this cause at this place: by a
-- count, by a fault of XML, or by RDF
abbrev pub IsRefusedDocument : List ℕ → ℕ → Cause → ℕ → Type 0
IsRefusedDocument x start cause place =
    IsRefusedByCount x start cause place ⊎ IsRefusedByFault x start cause place ⊎ IsRefusedByRdf x start cause

-- a packet is refused by this cause, at this place
abbrev pub IsRefused : List ℕ → Cause → ℕ → Type 0
IsRefused x cause place =
    IsRefusedByLength x cause place ⊎ IsRefusedByEncoding x cause place
    ⊎ ((p : HasDocument x) × IsRefusedDocument p.document (length p.before) cause place)

-- ---- laws

-- a packet is refused before RDF
abbrev pub IsRefusedFirst : List ℕ → Cause → ℕ → Type 0
IsRefusedFirst x cause place =
    IsRefusedByLength x cause place ⊎ IsRefusedByEncoding x cause place
    ⊎ ((p : HasDocument x)
    × (IsRefusedByCount p.document (length p.before) cause place ⊎ IsRefusedByFault p.document (length p.before) cause place))

-- two causes are the same, or of octets that begin with no mark
abbrev pub AreSame : Cause → Cause → Type 0
AreSame c d = (c ≡ d) ⊎ ((is_unread c ≡ true) × (is_unread d ≡ true))

-- A packet is refused so at one place, by one cause.
abbrev pub OneRefusal : Type 0
OneRefusal = (x : List ℕ) (c d : Cause) (m n : ℕ) → IsRefusedFirst x c m → IsRefusedFirst x d n → (m ≡ n) × AreSame c d
