-- The packet of XMP of a picture with the properties of its extended XMP. XMP part 3, 1.1.3.1: the property HasExtendedXMP of
-- http://ns.adobe.com/xmp/note/ has the name of the extended XMP.
use Rattle.std.specs.Prelude.{◌≡◌, ◌⊎◌, ℕ, nat_eq, false, if◌then◌else◌, None, List, [], ◌∷◌, ◌++◌, length, codes}
use Rattle.std.specs.List.{starts_with}
use Rattle.px_jpeg.specs.declared.pieces.Piece.{Piece}
use Rattle.px_jpeg.specs.Head.{Picture}
use Rattle.px_jpeg.specs.Pieces.{pieces, range}
use Rattle.px_pictures.specs.Xmp.{has_part}
use Rattle.px_xmp.specs.Packet.{IsPacket}
use Rattle.px_xmp.specs.Accepted.{PacketFits}
use Rattle.px_xmp.specs.Laws.{IsFormOfPacket}
use Rattle.px_xmp_text.specs.Values.{packet_end}
use Rattle.px_xmp_pictures.specs.Extension.{packets, extension_pieces, name_len, IsExtension}

-- what precedes the properties of a normal packet
abbrev pub packet_start : List ℕ
packet_start =
    codes "<x:xmpmeta xmlns:x=\"adobe:ns:meta/\"><rdf:RDF xmlns:rdf=\"http://www.w3.org/1999/02/22-rdf-syntax-ns#\">"
    ++ codes "<rdf:Description rdf:about=\"\">"

-- how a normal packet begins HasExtendedXMP, with any value
abbrev pub label : List ℕ
label = codes "<p:HasExtendedXMP xmlns:p=\"http://ns.adobe.com/xmp/note/\""

-- how a normal packet begins a HasExtendedXMP that is a text without a language
abbrev pub name_start : List ℕ
name_start = codes "<p:HasExtendedXMP xmlns:p=\"http://ns.adobe.com/xmp/note/\">"

-- how a normal packet ends HasExtendedXMP
abbrev pub name_end : List ℕ
name_end = codes "</p:HasExtendedXMP>"

-- the octets before the first place at which the list w begins, or all of them
abbrev pub before_part : List ℕ → List ℕ → List ℕ
before_part w [] = []
before_part w (o ∷ x) = if starts_with nat_eq (o ∷ x) w then [] else o ∷ before_part w x

-- octets begin with a HasExtendedXMP whose text is a name
pub record Names (x name back : List ℕ) : Type 0 where
  pub begun : x ≡ name_start ++ (name ++ (name_end ++ back))
  pub size : length name ≡ name_len

-- a normal packet does so at its first HasExtendedXMP, after the octets `front`
pub record IsNamed (form front name back : List ℕ) : Type 0 where
  pub rest : List ℕ
  pub whole : form ≡ front ++ rest
  pub first : front ≡ before_part label form
  pub names : Names rest name back

-- there is no HasExtendedXMP in a normal packet, neither as a property of the picture nor inside another one
abbrev pub NamesNone : List ℕ → Type 0
NamesNone form = has_part label form ≡ false

-- a packet has no meaning within the limits of px_xmp; or it has a normal form, and that names extended XMP
abbrev pub IsLeftPacket : List ℕ → Type 0
IsLeftPacket x = (PacketFits x → ⊥) ⊎ ((form : List ℕ) × IsFormOfPacket x form × (NamesNone form → ⊥))

-- the pieces of the picture b, which have this name, are a packet, and this is its normal form
pub record HasExtension (b : List ℕ) (ps : List Piece) (name form : List ℕ) : Type 0 where
  pub octets : List ℕ
  pub extension : IsExtension b ps name octets
  pub packet : IsFormOfPacket octets form

-- A packet is a normal one with the properties of the extended XMP in place of the property that names it, its first HasExtendedXMP. What
-- precedes that is a packet by itself with the end of one: so it is a property of the picture, and not one inside another.
pub record IsJoinedPacket (b : List ℕ) (ps : List Piece) (form whole : List ℕ) : Type 0 where
  pub name : List ℕ
  pub front : List ℕ
  pub back : List ℕ
  pub named : IsNamed form front name back
  pub outermost : IsPacket (front ++ packet_end)
  pub other : List ℕ
  pub extended : HasExtension b ps name other
  pub properties : List ℕ
  pub all : other ≡ packet_start ++ properties ++ packet_end
  pub joined : whole ≡ front ++ properties ++ back

-- what precedes the property, and the extended XMP, are packets within the limits of px_xmp
abbrev pub PartsFit : {b : List ℕ} {ps : List Piece} {form whole : List ℕ} → IsJoinedPacket b ps form whole → Type 0
PartsFit j = PacketFits (j.front ++ packet_end) × PacketFits j.extended.octets

-- the picture has one packet, and that is joined with its extended XMP; this is the normal form of both
pub record IsJoined (p : Picture) (joint : List ℕ) : Type 0 where
  pub packet : Piece
  pub only : packets (pieces p.octets None p.parts) ≡ packet ∷ []
  pub form : List ℕ
  pub document : IsFormOfPacket (range p.octets packet.start packet.size) form
  pub whole : List ℕ
  pub joined : IsJoinedPacket p.octets (extension_pieces (pieces p.octets None p.parts)) form whole
  pub is_packet : IsFormOfPacket whole joint

-- a picture's XMP is joined in packets that are within the limits of px_xmp, and the normal form of both together has no HasExtendedXMP
pub record CanBeJoined (p : Picture) : Type 0 where
  pub joint : List ℕ
  pub is : IsJoined p joint
  pub packet : PacketFits (range p.octets is.packet.start is.packet.size)
  pub parts : PartsFit is.joined
  pub whole : PacketFits is.whole
  pub none : NamesNone joint

-- the XMP of a picture isn't joined within these limits
abbrev pub IsNotJoined : Picture → Type 0
IsNotJoined p = CanBeJoined p → ⊥
