-- A document is marks in a row, and its form is that of what it means.
use Rattle.std.proofs.Common.{◌≡◌, ◌≤◌, ◌+◌, ◌-◌, ℕ, true, false, Option, List, [], ◌∷◌, ◌++◌, length, take, drop, Result, Ok, Err, OnOk, refl, sym, ap, subst, ◌∙◌, inl, inr, arith, length-drop, append_assoc}
use Rattle.std.specs.Prelude.{IfOk}
use Rattle.px_bytes.specs.Parts.{limit}
use Rattle.px_xmp_text.specs.Values.{Content, normal_packet}
use Rattle.px_xmp_text.specs.declared.pieces.TextKind.TheVariants.{CharacterData, CdataSection}
use Rattle.px_xmp_marks.specs.Declarations.{every, DeclarationsAreRead}
use Rattle.px_xmp_document.specs.Scopes.{Item}
use Rattle.px_xmp_markup.specs.Kinds.{Kind, Opening, Closing, Alone, Misc, Data, AreKinds}
use Rattle.px_xmp_markup.specs.Kinds as kinds
use Rattle.px_xmp_document.specs.Document.{IsSplit, IsFile, order_mark_len}
use Rattle.px_xmp_forms.specs.Outputs.{Has}
use Rattle.px_xmp_forms.specs.declared.output.Output.{Output}
use Rattle.px_xmp.specs.Marks.{Mark, Start, End, Text, Other, IsKind, AreRow}
use Rattle.px_xmp.specs.Nodes.{Nodes, AreNodes}
use Rattle.px_xmp.specs.Meaning.{Means, HasNodes, HasMeaning}
use Rattle.px_xmp.specs.Readable.{IsShallow}
use Rattle.px_xmp.specs.Laws.{IsFormOf, HasNoMeaning, MeaningsAreReadable}
use Rattle.px_xmp.specs.Accepted.{FormFits}
use Rattle.px_xmp.specs.Packet.{is_padding, AreAround, BeginsBare, EndsBare, IsPacket}
use Rattle.px_xmp.specs.calls.Steps.{IsLeft}
use Rattle.px_xmp.proofs.AroundLaws.{packet_is}
use Rattle.px_xmp.proofs.DocumentLaws.{tree_once}
use Rattle.px_xmp.proofs.PacketLaws.{rest_joined, parts_joined}

mark_of : (k : Kind) (m y : List ℕ) → kinds.IsKind k m y → (l : Mark) × IsKind l m y
mark_of (Opening n) m y (attributes, is) = (Start n attributes false, is)
mark_of (Closing n) m y is = (End, (n, is))
mark_of (Alone n) m y (attributes, is) = (Start n attributes true, is)
mark_of Misc m y (inl is) = (Other, inl is)
mark_of Misc m y (inr (inl is)) = (Other, inr is)
mark_of Misc m y (inr (inr (text, spaces, ends))) = (Text CharacterData m, (text, ends, refl))
mark_of Data m y (inl (content, is)) = (Text CdataSection content, is)
mark_of Data m y (inr (text, other, ends)) = (Text CharacterData m, (text, ends, refl))

row_of : (ks : List Kind) (x : List ℕ) → AreKinds ks x [] → (ms : List Mark) × AreRow ms x
row_of [] x e = ([], e)
row_of (k ∷ more) x (m, rest, is, whole, others) =
    let (l, kind) = mark_of k m rest is in
    let (ms, row) = row_of more rest others in
    (l ∷ ms, (m, rest, kind, whole, row))

-- what follows the head of a document is marks in a row
pub head_leaves : DeclarationsAreRead → (x d : List ℕ) (e : Option (List ℕ)) (head at : ℕ) → IsFile x
    → IsSplit (drop (order_mark_len x) x) d e (drop head x) → at + length (drop head x) ≤ limit → IsLeft at (drop head x)
head_leaves law x d e head at file parts few =
    let same : file.tree ≡ drop head x = tree_once law (drop (order_mark_len x) x) file.declaration d file.tree (drop head x) file.encoding e file.parts parts in
    let (ks, marked, rooted) = file.elements.0 in
    let (ms, row) = row_of ks file.tree marked in
    record { marks = ms; row = subst (λ (z : List ℕ). AreRow ms z) same row; few = few }

-- what was read is what the document means
pub meaning_of : (x d : List ℕ) (e : Option (List ℕ)) (start head at : ℕ) (scope : List Item) (y : List ℕ) (nodes : Nodes) (c : Content)
    → IsSplit (drop (order_mark_len x) x) d e (drop head x) → head ≤ length x → at ≡ start + head → scope ≡ [] → y ≡ drop head x
    → AreNodes nodes scope at y [] → Means nodes c → HasMeaning x start c
meaning_of x d e start head at scope y nodes c parts within place none same octets means =
    let move : at ≡ start + (length x - length (drop head x)) = omega (arith, place, length-drop head x, within) in
    record {
      nodes = nodes;
      are = record {
        declaration = d;
        encoding = e;
        tree = drop head x;
        parts = parts;
        row = subst (λ (q : ℕ). AreNodes nodes [] q (drop head x) []) move
            (subst (λ (q : List ℕ). AreNodes nodes [] at q []) same (subst (λ (q : List Item). AreNodes nodes q at y []) none octets));
      };
      means = means;
    }

-- a form is that of what the document means
pub form_of : (x d : List ℕ) (e : Option (List ℕ)) (start head at : ℕ) (scope : List Item) (y : List ℕ) (nodes : Nodes) (c : Content) (output : Output)
    (form : List ℕ) → IsSplit (drop (order_mark_len x) x) d e (drop head x) → head ≤ length x → at ≡ start + head → scope ≡ [] → y ≡ drop head x
    → AreNodes nodes scope at y [] → Means nodes c → Has output (record { opened = []; properties = c }) → form ≡ normal_packet c → IsFormOf x start form
form_of x d e start head at scope y nodes c output form parts within place none same octets means has is =
    (c, has.can, meaning_of x d e start head at scope y nodes c parts within place none same octets means, is)

-- and it can be read again, within the limits of the reader
pub form_again : MeaningsAreReadable → (x d : List ℕ) (e : Option (List ℕ)) (start head at : ℕ) (scope : List Item) (y : List ℕ) (nodes : Nodes)
    (c : Content) (output : Output) (form : List ℕ) → IsFile x → IsSplit (drop (order_mark_len x) x) d e (drop head x) → head ≤ length x
    → at ≡ start + head → scope ≡ [] → y ≡ drop head x → AreNodes nodes scope at y [] → Means nodes c → IsShallow 3 c
    → Has output (record { opened = []; properties = c }) → form ≡ normal_packet c
    → length form ≤ limit → FormFits form
form_again law x d e start head at scope y nodes c output form file parts within place none same octets means shallow has is few =
    let (can, ordered, readable) =
    law x start c file (meaning_of x d e start head at scope y nodes c parts within place none same octets means) in
    (c, can, (ordered, readable, shallow), has.short, few, is)

-- ---- results

pub if_ok_both : {T E : Type 0} (r : Result T E) (P Q R : T → Type 0) → ((x : T) → P x → Q x → R x) → IfOk r P → IfOk r Q → IfOk r R
if_ok_both (Ok x) P Q R f h k = f x h k
if_ok_both (Err e) P Q R f h k = tt

pub if_ok_map : {T E : Type 0} (r : Result T E) (P Q : T → Type 0) → ((x : T) → P x → Q x) → IfOk r P → IfOk r Q
if_ok_map (Ok x) P Q f h = f x h
if_ok_map (Err e) P Q f h = tt

pub both_ok : {T E : Type 0} (r : Result T E) (F : Type 0) (P Q : T → Type 0) → (F → (x : T) → P x → Q x) → OnOk r F → IfOk r P → IfOk r Q
both_ok (Ok x) F P Q f g h = f g x h
both_ok (Err e) F P Q f g h = tt

-- ---- a packet

abbrev pub packet_parts : (x before document after : List ℕ) (pieces : List (List ℕ)) → x ≡ before ++ document ++ after → length x ≤ limit
    → AreAround pieces before → every is_padding after ≡ true → BeginsBare (document ++ after) → EndsBare document → IsFile document → IsPacket x
packet_parts x b d a pieces joined few around padding first last file =
    record {
      before = b;
      document = d;
      after = a;
      joined = joined;
      few = few;
      pieces = pieces;
      around = around;
      padding = padding;
      first = first;
      last = last;
      file = file;
    }

-- the parts of a packet, as they are found
pub record IsParted (x b r d a : List ℕ) (n m : ℕ) : Type 0 where
  pub before : b ≡ take n x
  pub rest : r ≡ drop n x
  pub document : d ≡ take m r
  pub after : a ≡ drop m r
  pub pieces : List (List ℕ)
  pub around : AreAround pieces (take n x)
  pub first : BeginsBare (drop n x)
  pub padding : every is_padding (drop m r) ≡ true
  pub last : EndsBare (take m r)

abbrev pub packet_from : (x b r d a : List ℕ) (n m : ℕ) → IsParted x b r d a n m → length x ≤ limit → IsFile d → IsPacket x
packet_from x b r d a n m h few file =
    packet_parts x b d a h.pieces (parts_joined x b r d a n m h.before h.rest h.document h.after) few
    (subst (λ (z : List ℕ). AreAround h.pieces z) (sym h.before) h.around) (ap (every is_padding) h.after ∙ h.padding)
    (subst BeginsBare (sym h.rest ∙ rest_joined r d a m h.document h.after) h.first) (subst EndsBare (sym h.document) h.last) file

-- if the document has no meaning, the packet has none
pub none_from : (x b r d a : List ℕ) (n m : ℕ) → IsParted x b r d a n m → ((c : Content) → IsFile d → HasMeaning d (length b) c → ⊥) → HasNoMeaning x
none_from x b r d a n m h none p c is =
    let (before, document, after) = packet_is x b d a h.pieces
    (parts_joined x b r d a n m h.before h.rest h.document h.after ∙ append_assoc b d a)
    (subst (λ (z : List ℕ). AreAround h.pieces z) (sym h.before) h.around) (ap (every is_padding) h.after ∙ h.padding)
    (subst BeginsBare (sym h.rest ∙ rest_joined r d a m h.document h.after) h.first) (subst EndsBare (sym h.document) h.last) p in
    none c (subst IsFile document p.file)
    (subst (λ (z : List ℕ). HasMeaning z (length b) c) document (subst (λ (k : ℕ). HasMeaning p.document k c) (ap length before) is))

-- the nodes of a document are the nodes that are read
pub rows_of : DeclarationsAreRead → (x d : List ℕ) (e : Option (List ℕ)) (start head at : ℕ) (scope : List Item) (y : List ℕ) (nodes : Nodes)
    → IsSplit (drop (order_mark_len x) x) d e (drop head x) → head ≤ length x → at ≡ start + head → scope ≡ [] → y ≡ drop head x
    → HasNodes x start nodes → AreNodes nodes scope at y []
rows_of law x d e start head at scope y nodes parts within place none same h =
    let tree : h.tree ≡ drop head x = tree_once law (drop (order_mark_len x) x) h.declaration d h.tree (drop head x) h.encoding e h.parts parts in
    let move : start + (length x - length h.tree) ≡ at = omega (arith, place, ap length tree, length-drop head x, within) in
    subst (λ (q : List Item). AreNodes nodes q at y []) (sym none)
    (subst (λ (q : ℕ). AreNodes nodes [] q y []) move
    (subst (λ (q : List ℕ). AreNodes nodes [] (start + (length x - length h.tree)) q []) (tree ∙ sym same) h.row))
