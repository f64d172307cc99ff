-- A document with a meaning within the limits is read.
use Rattle.std.proofs.Common.{◌≡◌, ◌≤◌, ◌+◌, ◌∙◌, ℕ, Option, List, [], length, drop, sym, ap, subst, arith, length-drop, append_assoc}
use Rattle.px_bytes.specs.Parts.{limit}
use Rattle.px_xmp_text.specs.Values.{Content, IsContent, normal_packet}
use Rattle.px_xmp_marks.specs.Declarations.{every, DeclarationsAreRead}
use Rattle.px_xmp_marks.specs.Laws.{StartTagsAreRead}
use Rattle.px_xmp_marks.specs.Marks.{MarksAreRead}
use Rattle.px_xmp_document.specs.Scopes.{Item}
use Rattle.px_xmp_document.specs.SpaceFaults.{HasSpaces}
use Rattle.px_xmp_document.specs.Document.{IsSplit, IsFile, order_mark_len}
use Rattle.px_xmp.specs.Packet.{is_padding, AreAround, BeginsBare, EndsBare}
use Rattle.px_xmp.specs.Nodes.{Nodes, AreNodes}
use Rattle.px_xmp.specs.Meaning.{Means}
use Rattle.px_xmp.specs.Laws.{OneMeaning, MeaningsAreReadable}
use Rattle.px_xmp.specs.Accepted.{DocumentFits, PacketFits}
use Rattle.px_xmp.specs.calls.Steps.{IsLeft}
use Rattle.px_xmp.specs.Limits.{IsCrowded}
use Rattle.px_xmp.specs.calls.Fits.{NodesFit, ContentFits}
use Rattle.px_xmp.proofs.AroundLaws.{packet_is}
use Rattle.px_xmp.proofs.CrowdedLaws.{none_crowded}
use Rattle.px_xmp.proofs.DocumentLaws.{tree_once}
use Rattle.px_xmp.proofs.FieldLaws.{nodes_fit}
use Rattle.px_xmp.proofs.FormedLaws.{IsParted, head_leaves, meaning_of, rows_of}
use Rattle.px_xmp.proofs.PacketLaws.{parts_joined, rest_joined}
use Rattle.px_xmp.proofs.OwnFormLaws.{written_shorter}
use Rattle.px_xmp.proofs.SpokenLaws.{means_short}

-- ---- a document

-- no tag of a document has too many attributes
pub file_not_crowded : MarksAreRead → StartTagsAreRead → DeclarationsAreRead → (x d y : List ℕ) (e : Option (List ℕ)) (head at : ℕ) → IsFile x
    → IsSplit (drop (order_mark_len x) x) d e (drop head x) → y ≡ drop head x → IsCrowded y at → ⊥
file_not_crowded marks starts law x d y e head at file parts same =
    let tree : file.tree ≡ drop head x = tree_once law (drop (order_mark_len x) x) file.declaration d file.tree (drop head x) file.encoding e file.parts parts in
    none_crowded marks starts y at (subst HasSpaces (tree ∙ sym same) file.elements.2)

-- what is left after the head of such a document
pub record RestFits (x : List ℕ) (start at : ℕ) (scope : List Item) (y : List ℕ) (h : DocumentFits x start) : Type 0 where
  pub left : IsLeft at y
  pub row : AreNodes h.meaning.nodes scope at y []
  pub fit : NodesFit h.meaning.nodes
  pub fits : ContentFits 3 h.content

pub rest_fits : DeclarationsAreRead → MeaningsAreReadable → (x d : List ℕ) (e : Option (List ℕ)) (start head at : ℕ) (scope : List Item) (y : List ℕ)
    (h : DocumentFits x start) → IsSplit (drop (order_mark_len x) x) d e (drop head x) → head ≤ length x → at ≡ start + head → scope ≡ []
    → y ≡ drop head x → start + length x ≤ limit → RestFits x start at scope y h
rest_fits law reads x d e start head at scope y h parts within place none same few =
    let m = h.meaning in
    let (can, ordered, readable) = reads x start h.content h.file m in
    let left : IsLeft at y =
    subst (λ (z : List ℕ). IsLeft at z) (sym same) (head_leaves law x d e head at h.file parts (omega (arith, place, few, length-drop head x, within))) in
    let row : AreNodes m.nodes scope at y [] = rows_of law x d e start head at scope y m.nodes parts within place none same m.are in
    record {
      left = left;
      row = row;
      fit = nodes_fit m.nodes scope at y [] row h.languages (omega (arith, left.few));
      fits = (can, h.shallow, omega (arith, written_shorter h.content, h.few), means_short m.nodes h.content h.languages m.means);
    }

-- what is read of it is its content
pub fits_few : OneMeaning → MeaningsAreReadable → (x d : List ℕ) (e : Option (List ℕ)) (start head at : ℕ) (scope : List Item) (y : List ℕ) (h : DocumentFits x start)
    → IsSplit (drop (order_mark_len x) x) d e (drop head x) → head ≤ length x → at ≡ start + head → scope ≡ [] → y ≡ drop head x
    → (nodes : Nodes) (c : Content) → AreNodes nodes scope at y [] → Means nodes c → IsContent c → length (normal_packet c) ≤ limit
fits_few once reads x d e start head at scope y h parts within place none same nodes c row means can =
    let one : c ≡ h.content =
    once x start c h.content (meaning_of x d e start head at scope y nodes c parts within place none same row means) h.meaning can
    (reads x start h.content h.file h.meaning).0 in
    subst (λ (z : Content). length (normal_packet z) ≤ limit) (sym one) h.few

-- ---- a packet

-- the document of such a packet is the one that is found
pub fits_from : (x b r d a : List ℕ) (n m : ℕ) → IsParted x b r d a n m → PacketFits x → DocumentFits d (length b)
fits_from x b r d a n m h p =
    let (before, document, after) = packet_is x b d a h.pieces
    (parts_joined x b r d a n m h.before h.rest h.document h.after ∙ append_assoc b d a)
    (subst (λ (z : List ℕ). AreAround h.pieces z) (sym h.before) h.around) (ap (every is_padding) h.after ∙ h.padding)
    (subst BeginsBare (sym h.rest ∙ rest_joined r d a m h.document h.after) h.first) (subst EndsBare (sym h.document) h.last) p.packet in
    subst (λ (z : List ℕ). DocumentFits z (length b)) document
    (subst (λ (k : ℕ). DocumentFits p.packet.document k) (ap length before) p.document)
