-- Which layer refuses a packet, and where.
use Rattle.std.proofs.Common.{◌≡◌, ◌≤◌, ◌⊎◌, ◌++◌, ◌&&◌, if◌then◌else◌, ◌∙◌, inl, inr, ℕ, Bool, true, false, nat_eq, codes, Option, List, [], ◌∷◌, length, drop, Result, Ok, Err, refl, sym, ap, subst, arith, length-drop, length-append, append_assoc}
use Rattle.std.specs.List.{starts_with}
use Rattle.std.proofs.lemmas.Bool.{both_ways}
use Rattle.px_bytes.specs.Parts.{limit}
use Rattle.px_xmp_marks.specs.Declarations.{every, DeclarationsAreRead}
use Rattle.px_xmp_marks.specs.Laws.{StartTagsAreRead}
use Rattle.px_xmp_marks.specs.Marks.{MarksAreRead}
use Rattle.px_xmp_markup.specs.declared.faults.TreeCause.{TreeCause}
use Rattle.px_xmp_markup.specs.declared.faults.TreeCause.TheVariants as nesting
use Rattle.px_xmp_document.specs.declared.faults.Cause.{Cause as DocumentCause}
use Rattle.px_xmp_document.specs.declared.faults.Cause.TheVariants as documents
use Rattle.px_xmp_document.specs.Document.{IsSplit, order_mark_len, IsFile}
use Rattle.px_xmp_document.specs.Elements.{IsElementFault}
use Rattle.px_xmp_document.specs.Faults.{IsFault, HasElementFault, IsFileFault}
use Rattle.px_xmp_document.specs.Laws.{OneFault}
use Rattle.px_xmp_forms.specs.Causes.{is_rare_in_rdf, is_rare, IsRare, IfWrong}
use Rattle.px_xmp_forms.specs.declared.faults.Refusal.{Refusal}
use Rattle.px_xmp_forms.specs.declared.faults.Refusal.TheVariants as refusals
use Rattle.px_xmp_forms.specs.declared.faults.Cause.{Cause}
use Rattle.px_xmp_forms.specs.declared.faults.Cause.TheVariants.{NoRdf, SeveralSubjects}
use Rattle.px_xmp.specs.Nodes.{Nodes}
use Rattle.px_xmp.specs.Meaning.{HasRoot, HasNodes}
use Rattle.px_xmp.specs.Packet.{is_padding, is_wide, AreAround, BeginsBare, EndsBare, IsPacket}
use Rattle.px_xmp.specs.Refusals.{IfRefused, IsNamedRdf, IsCauseOfRdf, IsMarkCause, IsNestingCause, IsDocumentCause, is_declaration, IsCauseOf, HasDocument}
use Rattle.px_xmp.specs.Refusals.{IsRefusedByFault, IsRefusedByCount, HasNoCount, IsRefusedDocument, AreSame, OneRefusal}
use Rattle.px_xmp.specs.Asking.{RdfIsLast}
use Rattle.px_xmp.specs.Limits.{IsCrowded, NoneCrowded}
use Rattle.px_xmp.specs.calls.Refused.{IsCauseOfReader, IsOfReader}
use Rattle.px_xmp.proofs.AroundLaws.{around_once, padding_once}
use Rattle.px_xmp.proofs.CrowdedLaws.{crowded_within}
use Rattle.px_xmp.proofs.DocumentLaws.{tree_once}
use Rattle.px_xmp.proofs.FormedLaws.{IsParted}
use Rattle.px_xmp.proofs.PacketLaws.{parts_joined, rest_joined}
use Rattle.px_xmp.proofs.DocumentFitLaws.{file_not_crowded}

-- ---- results

pub refused_at : (X : Type 0) (e : Refusal) (cause : Cause) (place : ℕ) (P : Cause → ℕ → Type 0) → e ≡ refusals.Content cause place → P cause place
    → IfRefused {X = X} (Err e) P
refused_at X e cause place P h p = subst (λ (z : Refusal). IfRefused {X = X} (Err z) P) (sym h) p

pub refused_weaker : (X : Type 0) (r : Result X Refusal) (P Q : Cause → ℕ → Type 0) → ((cause : Cause) (place : ℕ) → P cause place → Q cause place)
    → IfRefused r P → IfRefused r Q
refused_weaker X (Ok x) P Q f h = tt
refused_weaker X (Err (refusals.Content cause place)) P Q f h = f cause place h
refused_weaker X (Err refusals.OutOfMemory) P Q f h = tt

-- ---- RDF refuses only what is a document

rare_cause : (cause : Cause) (nodes : Nodes) → is_rare_in_rdf cause ≡ true → IsCauseOfRdf cause nodes
rare_cause NoRdf nodes h = absurd (cc)
rare_cause SeveralSubjects nodes h = absurd (cc)
rare_cause cause nodes h = h

reader_cause : (cause : Cause) (nodes : Nodes) → IsCauseOfReader cause → (is_rare cause ≡ false → HasRoot IsNamedRdf nodes → ⊥) → IsCauseOfRdf cause nodes
reader_cause cause nodes (inl e) wrong = subst (λ (z : Cause). IsCauseOfRdf z nodes) (sym e) (wrong (ap is_rare e))
reader_cause cause nodes (inr rare) wrong = rare_cause cause nodes rare

pub rdf_refused : (X Y : Type 0) (e : Refusal) (x : List ℕ) (start : ℕ) (nodes : Nodes) → IsFile x → HasNodes x start nodes → IsOfReader {X = X} (Err e)
    → IfWrong {X = X} (Err e) (HasRoot IsNamedRdf nodes → ⊥) → IfRefused {X = Y} (Err e) (IsRefusedDocument x start)
rdf_refused X Y (refusals.Content cause place) x start nodes file are h wrong = inr (inr (file, nodes, are, reader_cause cause nodes h wrong))
rdf_refused X Y refusals.OutOfMemory x start nodes file are h wrong = tt

pub rare_refused : (X : Type 0) (r : Result X Refusal) (x : List ℕ) (start : ℕ) (nodes : Nodes) → IsFile x → HasNodes x start nodes → IsRare r
    → IfRefused r (IsRefusedDocument x start)
rare_refused X (Ok v) x start nodes file are h = tt
rare_refused X (Err (refusals.Content cause place)) x start nodes file are h = inr (inr (file, nodes, are, rare_cause cause nodes h))
rare_refused X (Err refusals.OutOfMemory) x start nodes file are h = tt

-- ---- the first fault of a document is inside it

element_within : (x : List ℕ) (c : DocumentCause) (n : ℕ) → IsElementFault x c n → n ≤ length x
element_within x documents.NoCharacter n h = absurd h
element_within x documents.OtherEncoding n h = absurd h
element_within x (documents.Nesting c) n h = h.within
element_within x (documents.Attributes c) n h = let inside = h.1.within in omega (arith, inside)
element_within x (documents.Spaces c) n h = let inside = h.2.within in omega (arith, inside)

split_within : (x : List ℕ) (c : DocumentCause) (n : ℕ) → HasElementFault x c n → n ≤ length x
split_within x c n h =
    omega (arith, h.place, element_within h.tree c h.offset h.wrong, ap length h.parts.0, length-append h.declaration h.tree)

fault_within : (x : List ℕ) (c : DocumentCause) (n : ℕ) → IsFault x c n → n ≤ length x
fault_within x documents.NoCharacter n h = let inside = h.within in omega (arith, inside)
fault_within x documents.OtherEncoding n h = omega (arith, h.1)
fault_within x (documents.Nesting c) n h = split_within x (documents.Nesting c) n h
fault_within x (documents.Attributes c) n h = split_within x (documents.Attributes c) n h
fault_within x (documents.Spaces c) n h = split_within x (documents.Spaces c) n h

three_within : (b : Bool) (n : ℕ) → 3 ≤ n → (if b then 3 else 0) ≤ n
three_within true n h = h
three_within false n h = omega arith

none_within : (p q : Bool) (n : ℕ) → (if p && (q && false) then 3 else 0) ≤ n
none_within true true n = omega arith
none_within true false n = omega arith
none_within false q n = omega arith

pub mark_within : (x : List ℕ) → order_mark_len x ≤ length x
mark_within [] = omega arith
mark_within (a ∷ []) = none_within (nat_eq 239 a) true 1
mark_within (a ∷ b ∷ []) = none_within (nat_eq 239 a) (nat_eq 187 b) 2
mark_within (a ∷ b ∷ d ∷ more) = three_within (starts_with nat_eq (a ∷ b ∷ d ∷ more) (239 ∷ 187 ∷ 191 ∷ [])) (length (a ∷ b ∷ d ∷ more)) (omega arith)

pub file_within : (x : List ℕ) (c : DocumentCause) (n : ℕ) → IsFileFault x c n → n ≤ length x
file_within x c n (m, h, place) =
    omega (arith, place, mark_within x, fault_within (drop (order_mark_len x) x) c m h, length-drop (order_mark_len x) x)

-- ---- a document in what is around it

abbrev pub document_from : (x b r d a : List ℕ) (n m : ℕ) → IsParted x b r d a n m → length x ≤ limit → is_wide x ≡ false → HasDocument x
document_from x b r d a n m h few narrow =
    record {
      before = b;
      document = d;
      after = a;
      joined = parts_joined x b r d a n m h.before h.rest h.document h.after;
      few = few;
      narrow = narrow;
      pieces = h.pieces;
      around = subst (λ (z : List ℕ). AreAround h.pieces z) (sym h.before) h.around;
      padding = ap (every is_padding) h.after ∙ h.padding;
      first = subst BeginsBare (sym h.rest ∙ rest_joined r d a m h.document h.after) h.first;
      last = subst EndsBare (sym h.document) h.last;
    }

documents_once : (x : List ℕ) (p q : HasDocument x) → (p.before ≡ q.before) × (p.document ≡ q.document)
documents_once x p q =
    let (before, rest) = around_once p.pieces q.pieces p.before q.before (p.document ++ p.after) (q.document ++ q.after) p.around q.around
    (sym (append_assoc p.before p.document p.after) ∙ sym p.joined ∙ q.joined ∙ append_assoc q.before q.document q.after) p.first q.first in
    let (document, after) = padding_once p.document q.document p.after q.after rest p.padding q.padding p.last q.last in
    (before, document)

-- ---- one refusal

mark_same : (x : List ℕ) (c d : Cause) → IsMarkCause x c → IsMarkCause x d → AreSame c d
mark_same x c d (inl (e, h)) (inl (f, g)) = inl (h ∙ sym g)
mark_same x c d (inl (e, h)) (inr (f, g)) = absurd (both_ways (starts_with nat_eq x (codes "<!DOCTYPE")) f e)
mark_same x c d (inr (e, h)) (inl (f, g)) = absurd (both_ways (starts_with nat_eq x (codes "<!DOCTYPE")) e f)
mark_same x c d (inr (e, h)) (inr (f, g)) = inr (h, g)

nesting_same : (k : TreeCause) (x : List ℕ) (c d : Cause) → IsNestingCause k x c → IsNestingCause k x d → AreSame c d
nesting_same nesting.NoMark x c d h g = mark_same x c d h g
nesting_same nesting.DocumentType x c d h g = inl (h ∙ sym g)
nesting_same nesting.OtherEnd x c d h g = inl (h ∙ sym g)
nesting_same nesting.TooDeep x c d h g = inl (h ∙ sym g)
nesting_same nesting.OutsideRoot x c d h g = inl (h ∙ sym g)
nesting_same nesting.SecondRoot x c d h g = inl (h ∙ sym g)
nesting_same nesting.NoRoot x c d h g = inl (h ∙ sym g)
nesting_same nesting.NoEnd x c d h g = inl (h ∙ sym g)

document_same : (k : DocumentCause) (x : List ℕ) (c d : Cause) → IsDocumentCause k x c → IsDocumentCause k x d → AreSame c d
document_same documents.NoCharacter x c d h g = inl (h ∙ sym g)
document_same documents.OtherEncoding x c d h g = inl (h ∙ sym g)
document_same (documents.Nesting k) x c d h g = nesting_same k x c d h g
document_same (documents.Attributes k) x c d h g = inl (h ∙ sym g)
document_same (documents.Spaces k) x c d h g = inl (h ∙ sym g)

cause_same : (x : List ℕ) (k : DocumentCause) (n : ℕ) (c d : Cause) → IsCauseOf x k n c → IsCauseOf x k n d → AreSame c d
cause_same x k n c d (inl (e, h)) (inl (f, g)) = inl (h ∙ sym g)
cause_same x k n c d (inl (e, h)) (inr (f, g)) = absurd (both_ways (is_declaration x n) f e)
cause_same x k n c d (inr (e, h)) (inl (f, g)) = absurd (both_ways (is_declaration x n) e f)
cause_same x k n c d (inr (e, h)) (inr (f, g)) = document_same k (drop n x) c d h g

fault_same : OneFault → (x : List ℕ) (start : ℕ) (c d : Cause) (m n : ℕ) → IsRefusedByFault x start c m → IsRefusedByFault x start d n
    → (m ≡ n) × AreSame c d
fault_same law x start c d m n h g =
    let (fault, offset) = (law x h.fault h.offset h.first).1 g.fault g.offset g.first in (
      omega (arith, h.at, g.at, offset),
      cause_same x h.fault h.offset c d h.is
          (subst (λ (k : ℕ). IsCauseOf x h.fault k d) (sym offset) (subst (λ (k : DocumentCause). IsCauseOf x k g.offset d) (sym fault) g.is)),
    )

count_same : DeclarationsAreRead → (x : List ℕ) (start : ℕ) (c d : Cause) (m n : ℕ) → IsRefusedByCount x start c m → IsRefusedByCount x start d n
    → (m ≡ n) × AreSame c d
count_same law x start c d m n h g =
    let same : drop h.head x ≡ drop g.head x =
    tree_once law (drop (order_mark_len x) x) h.declaration g.declaration (drop h.head x) (drop g.head x) h.encoding g.encoding h.parts g.parts in
    let one : h.offset ≤ g.offset = h.crowded.first g.offset (subst (λ (z : List ℕ). IsCrowded z g.offset) (sym same) g.crowded.crowded) in
    let other : g.offset ≤ h.offset = g.crowded.first h.offset (subst (λ (z : List ℕ). IsCrowded z h.offset) same h.crowded.crowded) in
    let within = crowded_within (drop h.head x) h.offset h.crowded.crowded in (
      omega (arith, h.at, g.at, one, other, within, ap length same, length-drop h.head x, length-drop g.head x),
      inl (h.is ∙ sym g.is),
    )

pub no_count : DeclarationsAreRead → (x d : List ℕ) (e : Option (List ℕ)) (head : ℕ) → IsSplit (drop (order_mark_len x) x) d e (drop head x)
    → NoneCrowded (drop head x) → HasNoCount x
no_count law x d e head parts none f g at others n h =
    let same : drop at x ≡ drop head x = tree_once law (drop (order_mark_len x) x) f d (drop at x) (drop head x) g e others parts in
    none n (subst (λ (z : List ℕ). IsCrowded z n) same h)

inside_same : DeclarationsAreRead → OneFault → (x : List ℕ) (start : ℕ) (c d : Cause) (m n : ℕ)
    → IsRefusedByCount x start c m ⊎ IsRefusedByFault x start c m → IsRefusedByCount x start d n ⊎ IsRefusedByFault x start d n
    → (m ≡ n) × AreSame c d
inside_same declarations law x start c d m n (inl h) (inl g) = count_same declarations x start c d m n h g
inside_same declarations law x start c d m n (inl h) (inr g) = absurd (g.few h.declaration h.encoding h.head h.parts h.offset h.crowded.crowded)
inside_same declarations law x start c d m n (inr h) (inl g) = absurd (h.few g.declaration g.encoding g.head g.parts g.offset g.crowded.crowded)
inside_same declarations law x start c d m n (inr h) (inr g) = fault_same law x start c d m n h g

pub one_refusal : DeclarationsAreRead → OneFault → OneRefusal
one_refusal declarations law x c d m n (inl (long, e, p)) (inl (more, f, q)) = (p ∙ sym q, inl (e ∙ sym f))
one_refusal declarations law x c d m n (inl (long, e, p)) (inr (inl (few, v, f, q))) = absurd (omega (arith, long, few))
one_refusal declarations law x c d m n (inl (long, e, p)) (inr (inr (s, g))) = absurd (omega (arith, long, s.few))
one_refusal declarations law x c d m n (inr (inl (few, w, e, p))) (inl (long, f, q)) = absurd (omega (arith, long, few))
one_refusal declarations law x c d m n (inr (inl (few, w, e, p))) (inr (inl (less, v, f, q))) = (p ∙ sym q, inl (e ∙ sym f))
one_refusal declarations law x c d m n (inr (inl (few, w, e, p))) (inr (inr (s, g))) = absurd (both_ways (is_wide x) s.narrow w)
one_refusal declarations law x c d m n (inr (inr (r, h))) (inl (long, f, q)) = absurd (omega (arith, long, r.few))
one_refusal declarations law x c d m n (inr (inr (r, h))) (inr (inl (less, v, f, q))) = absurd (both_ways (is_wide x) r.narrow v)
one_refusal declarations law x c d m n (inr (inr (r, h))) (inr (inr (s, g))) =
    let (before, document) = documents_once x r s in
    inside_same declarations law r.document (length r.before) c d m n h
    (subst (λ (z : List ℕ). IsRefusedByCount z (length r.before) d n ⊎ IsRefusedByFault z (length r.before) d n) (sym document)
    (subst (λ (k : ℕ). IsRefusedByCount s.document k d n ⊎ IsRefusedByFault s.document k d n) (sym (ap length before)) g))

no_file : MarksAreRead → StartTagsAreRead → DeclarationsAreRead → OneFault → (x : List ℕ) (start : ℕ) (c : Cause) (n : ℕ)
    → IsRefusedByCount x start c n ⊎ IsRefusedByFault x start c n → IsFile x → ⊥
no_file marks starts declarations law x start c n (inr h) file = (law x h.fault h.offset h.first).0 file
no_file marks starts declarations law x start c n (inl h) file =
    file_not_crowded marks starts declarations x h.declaration (drop h.head x) h.encoding h.head h.offset file h.parts refl h.crowded.crowded

abbrev packet_document : (x : List ℕ) → is_wide x ≡ false → IsPacket x → HasDocument x
packet_document x narrow p =
    record {
      before = p.before;
      document = p.document;
      after = p.after;
      joined = p.joined;
      few = p.few;
      narrow = narrow;
      pieces = p.pieces;
      around = p.around;
      padding = p.padding;
      first = p.first;
      last = p.last;
    }

pub rdf_last : MarksAreRead → StartTagsAreRead → DeclarationsAreRead → OneFault → RdfIsLast
rdf_last marks starts declarations law x c n (inl (long, e, at)) (narrow, p) = absurd (omega (arith, long, p.few))
rdf_last marks starts declarations law x c n (inr (inl (few, wide, e, at))) (narrow, p) = absurd (both_ways (is_wide x) narrow wide)
rdf_last marks starts declarations law x c n (inr (inr (r, h))) (narrow, p) =
    let (before, document) = documents_once x r (packet_document x narrow p) in
    no_file marks starts declarations law r.document (length r.before) c n h (subst IsFile (sym document) p.file)
