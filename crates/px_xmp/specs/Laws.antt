-- The laws of marks, of what is in scope, and of meaning.
use Rattle.std.specs.Prelude.{◌≡◌, ◌↔◌, ℕ, Some, List, [], ◌++◌, length, Ok}
use Rattle.px_xmp_text.specs.Values.{Structure, Content, IsContent, normal_packet}
use Rattle.px_xmp_marks.specs.Reading.{Named, Attr}
use Rattle.px_xmp_document.specs.Scopes.{Item}
use Rattle.px_xmp_document.specs.Tags.{opened}
use Rattle.px_xmp_document.specs.Document.{IsFile}
use Rattle.px_xmp.specs.Marks.{Mark, IsKind}
use Rattle.px_xmp.specs.Tags.{inside}
use Rattle.px_xmp.specs.Reading.{Read, IsReadAs, read}
use Rattle.px_xmp.specs.Nodes.{Nodes, AreNodes}
use Rattle.px_xmp.specs.Packet.{IsPacket}
use Rattle.px_xmp.specs.Meaning.{Means, HasNodes, HasMeaning}
use Rattle.px_xmp.specs.Readable.{IsOrdered, AreReadable, IsShallow, IsReadable}

-- Each mark is read, whatever follows it.
abbrev pub KindsAreRead : Type 0
KindsAreRead = (k : Mark) (x rest : List ℕ) → IsKind k x rest
    → (r : Read) × (read (x ++ rest) ≡ Some r) × (r.size ≡ length x) × IsReadAs r.what k

-- What is in scope in an element is what px_xmp_document judges, if it finds nothing wrong with the tag.
abbrev pub ScopesAreJudged : Type 0
ScopesAreJudged = (n : Named) (attributes : List Attr) (scope inner : List Item) → opened n attributes scope ≡ Ok inner
    → inside scope attributes ≡ inner

-- Octets at an offset are one row of nodes.
abbrev pub OneReading : Type 0
OneReading = (x : List ℕ) (at : ℕ) (a b : Nodes) → AreNodes a [] at x [] → AreNodes b [] at x [] → a ≡ b

-- A document is a row of nodes.
abbrev pub FilesHaveNodes : Type 0
FilesHaveNodes = (x : List ℕ) (start : ℕ) → IsFile x → (nodes : Nodes) × HasNodes x start nodes

-- Nodes mean one thing that a normal form can have.
abbrev pub NodesMeanOnce : Type 0
NodesMeanOnce = (nodes : Nodes) (a b : Content) → Means nodes a → Means nodes b → IsContent a → IsContent b → a ≡ b

-- A document means one thing that a normal form can have.
abbrev pub OneMeaning : Type 0
OneMeaning = (x : List ℕ) (start : ℕ) (a b : Content) → HasMeaning x start a → HasMeaning x start b → IsContent a → IsContent b → a ≡ b

-- these octets are the normal form of what a document means, at an offset of its packet
abbrev pub IsFormOf : List ℕ → ℕ → List ℕ → Type 0
IsFormOf x start form = (c : Content) × IsContent c × HasMeaning x start c × (form ≡ normal_packet c)

-- these octets are the normal form of what the document of a packet means
abbrev pub IsFormOfPacket : List ℕ → List ℕ → Type 0
IsFormOfPacket x form = (p : IsPacket x) × IsFormOf p.document (length p.before) form

-- octets are a packet whose document has a normal form
abbrev pub HasForm : List ℕ → Type 0
HasForm x = (form : List ℕ) × IsFormOfPacket x form

-- these octets are the normal packet of content that can be read again
abbrev pub IsReadableForm : List ℕ → Type 0
IsReadableForm form = (c : Content) × IsContent c × IsReadable c × (form ≡ normal_packet c)

-- octets are no packet whose document has a meaning
abbrev pub HasNoMeaning : List ℕ → Type 0
HasNoMeaning x = (p : IsPacket x) (c : Content) → HasMeaning p.document (length p.before) c → ⊥

-- Octets are one packet: what is around the document, and the document, are given by them.
abbrev pub OnePacket : Type 0
OnePacket = (x : List ℕ) (p q : IsPacket x) → (p.before ≡ q.before) × (p.document ≡ q.document) × (p.after ≡ q.after)

-- two documents mean one thing
abbrev pub MeanTheSame : List ℕ → ℕ → List ℕ → ℕ → Type 0
MeanTheSame x m y n = (c : Content) × IsContent c × HasMeaning x m c × HasMeaning y n c

-- the documents of two packets mean one thing
abbrev pub SayTheSame : List ℕ → List ℕ → Type 0
SayTheSame x y = (p : IsPacket x) × (q : IsPacket y) × MeanTheSame p.document (length p.before) q.document (length q.before)

-- Documents mean the same exactly if their forms are the same.
abbrev pub FormsDecide : Type 0
FormsDecide = (x y : List ℕ) (m n : ℕ) (f g : List ℕ) → IsFormOf x m f → IsFormOf y n g → (f ≡ g) ↔ MeanTheSame x m y n

-- The normal packet of content that can be read means this content.
abbrev pub NormalSays : Type 0
NormalSays = (c : Content) → IsContent c → IsReadable c → HasMeaning (normal_packet c) 0 c

-- The normal packet of content that can be read is a document.
abbrev pub NormalIsFile : Type 0
NormalIsFile = (c : Content) → IsContent c → IsReadable c → IsFile (normal_packet c)

-- What a document means can be written and read again, if it is not too deep.
abbrev pub MeaningsAreReadable : Type 0
MeaningsAreReadable = (x : List ℕ) (start : ℕ) (c : Content) → IsFile x → HasMeaning x start c
    → IsContent c × IsOrdered Structure c × AreReadable Structure c

-- The normal packet of what a document means is a document with this meaning, if it is not too deep.
abbrev pub NormalKeepsMeaning : Type 0
NormalKeepsMeaning = (x : List ℕ) (start : ℕ) (c : Content) → IsFile x → HasMeaning x start c → IsShallow 3 c
    → IsFile (normal_packet c) × HasMeaning (normal_packet c) 0 c

-- The normal packet of content that can be read is a document, and its own form.
abbrev pub FormIsItsOwn : Type 0
FormIsItsOwn = (form : List ℕ) → IsReadableForm form → IsFile form × IsFormOf form 0 form
