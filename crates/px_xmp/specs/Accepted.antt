-- Packets that this reader accepts, if memory suffices: those with a meaning within its limits, such as normal forms.
use Rattle.std.specs.Prelude.{◌≡◌, ◌≤◌, ℕ, false, List, length}
use Rattle.px_bytes.specs.Parts.{limit}
use Rattle.px_xmp_text.specs.Values.{Content, IsContent, normal_packet}
use Rattle.px_xmp_document.specs.Document.{IsFile}
use Rattle.px_xmp_forms.specs.Forms.{HaveShortLanguages}
use Rattle.px_xmp.specs.Packet.{is_wide, IsPacket}
use Rattle.px_xmp.specs.Meaning.{HasMeaning}
use Rattle.px_xmp.specs.Readable.{IsShallow, IsReadable}
use Rattle.px_xmp.specs.Limits.{DeclareShortLanguages}

-- octets, of which there are not too many, are the normal packet of content that can be read again and has no long language
abbrev pub FormFits : List ℕ → Type 0
FormFits form =
    (c : Content) × IsContent c × IsReadable c × HaveShortLanguages c × (length form ≤ limit) × (form ≡ normal_packet c)

-- a document at an offset of its packet has a meaning, which is within the limits of this reader
pub record DocumentFits (x : List ℕ) (start : ℕ) : Type 0 where
  pub file : IsFile x
  pub content : Content
  pub meaning : HasMeaning x start content
  pub languages : DeclareShortLanguages meaning.nodes
  pub shallow : IsShallow 3 content
  pub few : length (normal_packet content) ≤ limit

-- the document of a packet has one, and the packet does not begin as UTF-16 or UTF-32 does
pub record PacketFits (x : List ℕ) : Type 0 where
  pub packet : IsPacket x
  pub narrow : is_wide x ≡ false
  pub document : DocumentFits packet.document (length packet.before)

-- A normal form within the limits of this reader is such a packet.
abbrev pub FormsFit : Type 0
FormsFit = (form : List ℕ) → FormFits form → PacketFits form
