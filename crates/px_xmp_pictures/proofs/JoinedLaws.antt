-- A packet is joined with its extended XMP in one way.
use Rattle.std.proofs.Common.{◌≡◌, ◌++◌, ◌∙◌, sym, ap, subst, subst₂, inl, inr, append_assoc}
use Rattle.std.proofs.Common.{ℕ, List, [], ◌∷◌, Option, Some, None, length, take}
use Rattle.std.specs.Prelude.{MatchOption}
use Rattle.std.proofs.lemmas.List.{append_cancel_left, append_cancel_right}
use Rattle.std.proofs.Math.Seq.{take-append_seam}
use Rattle.px_jpeg.specs.declared.pieces.Piece.{Piece}
use Rattle.px_jpeg.specs.Head.{Picture}
use Rattle.px_jpeg.specs.Pieces.{pieces, range}
use Rattle.px_xmp_text.specs.Values.{normal_packet, packet_end}
use Rattle.px_xmp.specs.Accepted.{PacketFits}
use Rattle.px_xmp.specs.Meaning.{HasMeaning}
use Rattle.px_xmp.specs.Laws.{OnePacket, OneMeaning, IsFormOfPacket}
use Rattle.px_xmp_pictures.specs.Extension.{packets, extension_pieces}
use Rattle.px_xmp_pictures.specs.Joined.{packet_start, name_start, name_end, Names, IsNamed, NamesNone, IsLeftPacket}
use Rattle.px_xmp_pictures.specs.Joined.{HasExtension, IsJoinedPacket, PartsFit, CanBeJoined, IsNotJoined}
use Rattle.px_xmp_pictures.proofs.OrderLaws.{extension_once}

-- a list is cut at one place
split_once : (n : ℕ) (a b x y : List ℕ) → length a ≡ n → length b ≡ n → a ++ x ≡ b ++ y → (a ≡ b) × (x ≡ y)
split_once n a b x y m k e =
    let same : a ≡ b =
    sym (take-append_seam a x) ∙ ap (λ (z : ℕ). take z (a ++ x)) (m ∙ sym k) ∙ ap (λ (z : List ℕ). take (length b) z) e
    ∙ take-append_seam b y in
    (same, append_cancel_left b x y (ap (λ (z : List ℕ). z ++ x) (sym same) ∙ e))

names_once : (x name back name2 back2 : List ℕ) → Names x name back → Names x name2 back2 → (name ≡ name2) × (back ≡ back2)
names_once x name back name2 back2 m n =
    let whole = append_cancel_left name_start (name ++ (name_end ++ back)) (name2 ++ (name_end ++ back2)) (sym m.begun ∙ n.begun) in
    let parts = split_once 32 name name2 (name_end ++ back) (name_end ++ back2) m.size n.size whole in
    (parts.0, append_cancel_left name_end back back2 parts.1)

-- a form has one first HasExtendedXMP
pub named_once : (form front name back front2 name2 back2 : List ℕ) → IsNamed form front name back → IsNamed form front2 name2 back2
    → (front ≡ front2) × (name ≡ name2) × (back ≡ back2)
named_once form front name back front2 name2 back2 m n =
    let same : front ≡ front2 = m.first ∙ sym n.first in
    let rest = append_cancel_left front2 m.rest n.rest (ap (λ (z : List ℕ). z ++ m.rest) (sym same) ∙ sym m.whole ∙ n.whole) in
    let parts = names_once n.rest name back name2 back2 (subst (λ (z : List ℕ). Names z name back) rest m.names) n.names in
    (same, parts.0, parts.1)

properties_once : (ps qs : List ℕ) → packet_start ++ ps ++ packet_end ≡ packet_start ++ qs ++ packet_end → ps ≡ qs
properties_once ps qs e =
    append_cancel_left packet_start ps qs (append_cancel_right (packet_start ++ ps) (packet_start ++ qs) packet_end e)

-- the properties of a form, behind its start
pub properties_inside : {A : Type 0} (r : Option A) (now : A → List ℕ) (form rest : List ℕ) → form ≡ packet_start ++ rest
    → MatchOption r ((ps : List ℕ) → rest ≡ ps ++ packet_end → ⊥) (λ ps. rest ≡ now ps ++ packet_end)
    → MatchOption r ((ps : List ℕ) → form ≡ packet_start ++ ps ++ packet_end → ⊥) (λ ps. form ≡ packet_start ++ now ps ++ packet_end)
properties_inside None now form rest whole h =
    λ ps e. h ps (append_cancel_left packet_start rest (ps ++ packet_end) (sym whole ∙ e ∙ append_assoc packet_start ps packet_end))
properties_inside (Some ps) now form rest whole h =
    whole ∙ ap (λ (z : List ℕ). packet_start ++ z) h ∙ sym (append_assoc packet_start (now ps) packet_end)

module _ (one_packet : OnePacket) (one_meaning : OneMeaning) where
  -- a packet has one form
  pub form_once : (x f g : List ℕ) → IsFormOfPacket x f → IsFormOfPacket x g → f ≡ g
  form_once x f g (p, (c, i, m, e)) (q, (d, j, n, k)) =
      let w = one_packet x p q in
      let n2 : HasMeaning p.document (length p.before) d =
      subst₂ (λ (y z : List ℕ). HasMeaning y (length z) d) (sym w.1) (sym w.0) n in
      e ∙ ap normal_packet (one_meaning p.document (length p.before) c d m n2 i j) ∙ sym k

  -- the form of extended XMP is one
  pub extension_form_once : (b : List ℕ) (ps : List Piece) (name f g : List ℕ) → HasExtension b ps name f → HasExtension b ps name g → f ≡ g
  extension_form_once b ps name f g i j =
      form_once j.octets f g
      (subst (λ (z : List ℕ). IsFormOfPacket z f) (extension_once b ps name i.octets j.octets i.extension j.extension) i.packet) j.packet

  pub joined_once : (b : List ℕ) (ps : List Piece) (form w v : List ℕ) → IsJoinedPacket b ps form w → IsJoinedPacket b ps form v → w ≡ v
  joined_once b ps form w v i j =
      let same = named_once form i.front i.name i.back j.front j.name j.back i.named j.named in
      let other : i.other ≡ j.other = extension_form_once b ps j.name i.other j.other
      (subst (λ (z : List ℕ). HasExtension b ps z i.other) same.1 i.extended) j.extended in
      let inner : i.properties ≡ j.properties = properties_once i.properties j.properties (sym i.all ∙ other ∙ j.all) in
      i.joined
      ∙ ap (λ (z : List ℕ). z ++ i.properties ++ i.back) same.0
      ∙ ap (λ (z : List ℕ). j.front ++ z ++ i.back) inner
      ∙ ap (λ (z : List ℕ). j.front ++ j.properties ++ z) same.2
      ∙ sym j.joined

  -- ---- a picture that can be joined

  one_packet_of : (p : Picture) (packet : Piece) → packets (pieces p.octets None p.parts) ≡ packet ∷ [] → (can : CanBeJoined p)
      → can.is.packet ≡ packet
  one_packet_of p packet only can = let lists : can.is.packet ∷ [] ≡ packet ∷ [] = sym can.is.only ∙ only in cc

  form_of : (p : Picture) (packet : Piece) (form : List ℕ) → packets (pieces p.octets None p.parts) ≡ packet ∷ []
      → IsFormOfPacket (range p.octets packet.start packet.size) form → (can : CanBeJoined p) → can.is.form ≡ form
  form_of p packet form only is can =
      form_once (range p.octets packet.start packet.size) can.is.form form
      (subst (λ (q : Piece). IsFormOfPacket (range p.octets q.start q.size) can.is.form) (one_packet_of p packet only can) can.is.document)
      is

  -- a picture can't be joined if its packet can't
  pub joining_fails : (p : Picture) (packet : Piece) (form : List ℕ) → packets (pieces p.octets None p.parts) ≡ packet ∷ []
      → IsFormOfPacket (range p.octets packet.start packet.size) form
      → ((whole : List ℕ) → (j : IsJoinedPacket p.octets (extension_pieces (pieces p.octets None p.parts)) form whole) → PartsFit j → ⊥)
      → IsNotJoined p
  joining_fails p packet form only is fails can =
      subst (λ (z : List ℕ). (whole : List ℕ)
      → (j : IsJoinedPacket p.octets (extension_pieces (pieces p.octets None p.parts)) z whole) → PartsFit j → ⊥)
      (sym (form_of p packet form only is can)) fails can.is.whole can.is.joined can.parts

  -- or if what is joined is left
  pub whole_fails : (p : Picture) (packet : Piece) (form whole : List ℕ) → packets (pieces p.octets None p.parts) ≡ packet ∷ []
      → IsFormOfPacket (range p.octets packet.start packet.size) form
      → IsJoinedPacket p.octets (extension_pieces (pieces p.octets None p.parts)) form whole → IsLeftPacket whole → IsNotJoined p
  whole_fails p packet form whole only is joined left can =
      let b = p.octets in
      let all = extension_pieces (pieces b None p.parts) in
      let same : can.is.whole ≡ whole = joined_once b all form can.is.whole whole
      (subst (λ (z : List ℕ). IsJoinedPacket b all z can.is.whole) (form_of p packet form only is can) can.is.joined) joined in
      elim left [
        | inl none ↦ none (subst PacketFits same can.whole)
        | inr named ↦ named.2 (subst NamesNone
            (form_once whole can.joint named.0 (subst (λ (z : List ℕ). IsFormOfPacket z can.joint) same can.is.is_packet) named.1) can.none)
      ]
