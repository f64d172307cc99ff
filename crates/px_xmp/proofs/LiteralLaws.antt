-- The text of a property or an item is read, and there is room for it.
use Rattle.std.proofs.Common.{◌≡◌, ◌≤◌, ◌+◌, ℕ, true, false, Some, List, [], ◌++◌, length, codes, refl, sym, ap, subst, ◌∙◌, inl, inr, arith, length-append, append_assoc}
use Rattle.std.proofs.lemmas.Bool.{both_ways}
use Rattle.px_bytes.specs.Parts.{limit}
use Rattle.px_xmp_text.specs.Texts.{normal_text}
use Rattle.px_xmp_text.specs.declared.pieces.TextKind.{TextKind}
use Rattle.px_xmp_text.specs.declared.pieces.TextKind.TheVariants.{CharacterData, CdataSection, AttributeValue}
use Rattle.px_xmp_marks.specs.Reading as tags
use Rattle.px_xmp_document.specs.Scopes.{Item}
use Rattle.px_xmp_forms.specs.Forms.{most}
use Rattle.px_xmp.specs.Marks.{Mark, Start, End, Text, IsKind}
use Rattle.px_xmp.specs.Nodes.{Nodes, Nothing, Words, Element, AreNodes}
use Rattle.px_xmp.specs.Meaning.{AreWhite, IsText}
use Rattle.px_xmp.specs.Tags.{Tag}
use Rattle.px_xmp.specs.Reading as reading
use Rattle.px_xmp.specs.Reading.{What, IsReadAs, kind_view}
use Rattle.px_xmp_marks.specs.declared.tags.StartTag.{StartTag}
use Rattle.px_xmp.specs.declared.marks.MarkKind.{MarkKind}
use Rattle.px_xmp.specs.declared.marks.MarkKind.TheVariants as kinds
use Rattle.px_xmp.specs.declared.marks.Text as declared
use Rattle.px_xmp.specs.Laws.{KindsAreRead}
use Rattle.px_xmp.specs.declared.elements.Opened.{Opened}
use Rattle.px_xmp.specs.declared.source.Source.{Source}
use Rattle.px_xmp.specs.calls.Steps.{IsFirst, Next, TagAfter}
use Rattle.px_xmp.proofs.RefusedLaws.{enter_after}
use Rattle.px_xmp.specs.calls.Fits.{HasElement, WordsFit}
use Rattle.px_xmp.proofs.StepLaws.{joined}
use Rattle.px_xmp.proofs.NodeLaws.{mark_once, IsWords, words_mark, words_same, IsStop, at_stop, words_stop, words_start, no_tag}
use Rattle.px_xmp.proofs.CharacterLaws.{normal_append}
use Rattle.px_xmp.proofs.AheadLaws.{IsTagRead, is_tag}

-- what follows a text in a row of nodes
pub text_passed : KindsAreRead → (a b : Nodes) (s : List ℕ) (scope : List Item) (at to : ℕ) (x y z : List ℕ) → IsText a s → AreNodes a scope at x y
    → AreNodes b scope at x z → at + length x ≡ to + length y → IsStop z → (more : Nodes) × (b ≡ joined a more) × AreNodes more scope to y z
text_passed law Nothing b s scope at to x y z text e f same stop =
    (b, refl, subst (λ (q : ℕ). AreNodes b scope q y z) (omega (arith, same, ap length e)) (subst (λ (q : List ℕ). AreNodes b scope at q z) e f))
text_passed law (Words t more) Nothing s scope at to x y z text (m, rest, i, w, r) e same stop =
    absurd (words_stop law t m rest i (subst (λ (q : List ℕ). IsStop q) (sym e ∙ w) stop))
text_passed law (Words t more) (Words u others) s scope at to x y z (v, text, after) (m, rest, i, w, r) (n, tail, j, k, q) same stop =
    let (a, is, words) = words_mark t m rest i in
    let (b, are, said) = words_mark u n tail j in
    let (kinds, octets, follow) = mark_once law a b m n rest tail is are (sym w ∙ k) in
    let one : t ≡ u = words_same b t u (subst (λ (h : Mark). IsWords h t) kinds words) said in
    let moved : AreNodes others scope (at + length m) rest z =
    subst (λ (h : List ℕ). AreNodes others scope (at + length m) h z) (sym follow)
    (subst (λ (h : List ℕ). AreNodes others scope (at + length h) tail z) (sym octets) q) in
    let (left, whole, row) =
    text_passed law more others v scope (at + length m) to rest y z after r moved (omega (arith, same, ap length w, length-append m rest)) stop in
    (left, ap (λ (h : List ℕ). Words h others) (sym one) ∙ ap (λ (h : Nodes). Words t h) whole, row)
text_passed law (Words t more) (Element tag place inner others) s scope at to x y z text (m, rest, i, w, r) (n, xs, l, tail, is, here, q, inl (j, none, p)) same stop =
    absurd (words_start law t m rest n xs true l tail i j (sym w ∙ q))
text_passed law (Words t more) (Element tag place inner others) s scope at to x y z text (m, rest, i, w, r) (n, xs, l, tail, is, here, q, inr (e, left, j, c, ends, p)) same stop =
    absurd (words_start law t m rest n xs false l tail i j (sym w ∙ q))
text_passed law (Element tag place inner more) b s scope at to x y z text e f same stop = absurd text

pub text_front : (a b : Nodes) (s t : List ℕ) → IsText a s → IsText (joined a b) t → (u : List ℕ) × (t ≡ s ++ u) × IsText b u
text_front Nothing b s t h k = (t, ap (λ (z : List ℕ). z ++ t) (sym h), k)
text_front (Words w more) b s t (v, e, h) (u, f, k) =
    let (rest, whole, is) = text_front more b v u h k in (
      rest,
      f ∙ ap (λ (z : List ℕ). w ++ z) whole ∙ sym (append_assoc w v rest) ∙ ap (λ (z : List ℕ). z ++ rest) (sym e),
      is,
    )
text_front (Element tag place inner more) b s t h k = absurd h

-- a text has no element
pub text_element : (white : Nodes) (tag : Tag) (place : ℕ) (inner more : Nodes) (t : List ℕ) → IsText (joined white (Element tag place inner more)) t → ⊥
text_element Nothing tag place inner more t h = h
text_element (Words w others) tag place inner more t (u, e, h) = text_element others tag place inner more u h
text_element (Element other site content others) tag place inner more t h = h

pub text_no_tag : KindsAreRead → (o : Opened) (white nodes : Nodes) (old mid : Source) (e y t : List ℕ) → AreWhite white → TagAfter (Some o) white old mid
    → AreNodes nodes old.scope old.at old.rest.now (e ++ y) → IsKind End e y → IsText nodes t → ⊥
text_no_tag law o white nodes old mid e y t is_white tag row ends text =
    let (u, start) = tag.is in
    let after = enter_after law o white u nodes old mid (e ++ y) is_white tag start row (inr (e, y, ends, refl)) in
    text_element white u o.place after.entered.content after.entered.more t
    (subst (λ (q : Nodes). IsText q t) (after.whole ∙ ap (λ (q : Nodes). joined white q) after.entered.is) text)

-- ---- a mark in a text

-- the first mark of a text, or the end tag after it
pub text_first : (nodes : Nodes) (t : List ℕ) (scope : List Item) (at : ℕ) (x e y : List ℕ) → IsText nodes t → AreNodes nodes scope at x (e ++ y)
    → IsKind End e y → (k : Mark) × (z : List ℕ) × IsFirst k x z
text_first Nothing t scope at x e y h same ends = (End, y, (e, ends, same))
text_first (Words w more) t scope at x e y h (m, rest, i, v, r) ends = let (k, is, words) = words_mark w m rest i in (k, rest, (m, is, v))
text_first (Element tag place inner more) t scope at x e y h row ends = absurd h

pub text_goes_on : KindsAreRead → (a nodes : Nodes) (s t : List ℕ) (scope : List Item) (at to : ℕ) (x y e tail : List ℕ) → IsText a s
    → AreNodes a scope at x y → AreNodes nodes scope at x (e ++ tail) → IsKind End e tail → at + length x ≡ to + length y → IsText nodes t
    → (k : Mark) × (z : List ℕ) × IsFirst k y z
text_goes_on law a nodes s t scope at to x y e tail is octets row ends same text =
    let (more, whole, left) = text_passed law a nodes s scope at to x y (e ++ tail) is octets row same (inr (e, tail, ends, refl)) in
    let (u, joins, after) = text_front a more s t is (subst (λ (q : Nodes). IsText q t) whole text) in
    text_first more u scope to y e tail after left ends

pub tag_of_mark : (w : What) (k : Mark) → IsReadAs w k → is_tag k ≡ true → IsTagRead w
tag_of_mark (reading.Tag t) k is h = tt
tag_of_mark reading.End k is h = tt
tag_of_mark (reading.Words kind octets) k is h = absurd (both_ways (is_tag k) (ap is_tag is) h)
tag_of_mark reading.Other k is h = absurd (both_ways (is_tag k) (ap is_tag is) h)

pub kind_short : (kind : TextKind) (octets m y : List ℕ) → IsKind (Text kind octets) m y → length octets ≤ length m
kind_short CharacterData octets m y h = omega (arith, ap length h.2)
kind_short CdataSection octets m y h =
    omega (arith, ap length h.1, length-append (codes "<![CDATA[") (octets ++ codes "]]>"), length-append octets (codes "]]>"))
kind_short AttributeValue octets m y h = absurd h

words_room : (w : What) (k : Mark) (t s m y : List ℕ) → IsReadAs w k → IsWords k t → IsKind k m y → length m ≤ limit
    → length (normal_text s) + length (normal_text t) ≤ most → WordsFit w (length (normal_text s))
words_room (reading.Tag b) k t s m y (xs, e, f) words kind few short = absurd (subst (λ (z : Mark). IsWords z t) f words)
words_room reading.End k t s m y f words kind few short = absurd (subst (λ (z : Mark). IsWords z t) f words)
words_room (reading.Words c octets) k t s m y f words kind few short =
    (t, subst (λ (z : Mark). IsWords z t) f words, omega (arith, few, kind_short c octets m y (subst (λ (z : Mark). IsKind z m y) f kind)), short)
words_room reading.Other k t s m y f words kind few short = tt

-- a mark that is no tag fits after what was read of a text
pub words_fit : KindsAreRead → (w : What) (a nodes : Nodes) (s t : List ℕ) (scope : List Item) (at to on : ℕ) (x y z e tail : List ℕ) → IsText a s
    → AreNodes a scope at x y → AreNodes nodes scope at x (e ++ tail) → IsKind End e tail → at + length x ≡ to + length y → at + length x ≤ limit
    → IsText nodes t → length (normal_text t) ≤ most → Next w to y on z → (IsTagRead w → ⊥) → WordsFit w (length (normal_text s))
words_fit law w a nodes s t scope at to on x y z e tail is octets row ends same few text short next other =
    let (more, whole, left) = text_passed law a nodes s scope at to x y (e ++ tail) is octets row same (inr (e, tail, ends, refl)) in
    let (u, joins, after) = text_front a more s t is (subst (λ (q : Nodes). IsText q t) whole text) in
    by more u left after (subst (λ (q : List ℕ). length (normal_text q) ≤ most) joins short)
  where
    by : (more : Nodes) (u : List ℕ) → AreNodes more scope to y (e ++ tail) → IsText more u → length (normal_text (s ++ u)) ≤ most
        → WordsFit w (length (normal_text s))
    by Nothing u f h short =
        let (m, kind, whole) = next.first in
        absurd (other (tag_of_mark w next.mark next.read
        (ap is_tag (at_stop law next.mark m z kind (inr (e, tail, ends, sym whole ∙ f))))))
    by (Words v more) u (n, rest, j, i, r) (k, f, h) short =
        let (m, kind, whole) = next.first in
        let (l, are, words) = words_mark v n rest j in
        let mark : l ≡ next.mark = (mark_once law l next.mark n m rest z are kind (sym i ∙ whole)).0 in
        words_room w next.mark v s m z next.read (subst (λ (q : Mark). IsWords q v) mark words) kind
        (omega (arith, few, same, ap length whole, length-append m z))
        (omega (
          arith,
          short,
          ap (λ (q : List ℕ). length (normal_text (s ++ q))) f,
          ap length (normal_append s (v ++ k)),
          ap length (normal_append v k),
          length-append (normal_text s) (normal_text (v ++ k)),
          length-append (normal_text v) (normal_text k),
        ))
    by (Element tag place inner others) u f h short = absurd h

-- no start tag is in a text
pub text_no_start : KindsAreRead → (b : tags.Start) (a nodes : Nodes) (s t : List ℕ) (scope : List Item) (at to on : ℕ) (x y z e tail : List ℕ) → IsText a s
    → AreNodes a scope at x y → AreNodes nodes scope at x (e ++ tail) → IsKind End e tail → at + length x ≡ to + length y
    → IsText nodes t → Next (reading.Tag b) to y on z → ⊥
text_no_start law b a nodes s t scope at to on x y z e tail is octets row ends same text next =
    let (more, whole, left) = text_passed law a nodes s scope at to x y (e ++ tail) is octets row same (inr (e, tail, ends, refl)) in
    let (u, joins, after) = text_front a more s t is (subst (λ (q : Nodes). IsText q t) whole text) in
    let (xs, listed, k) = next.read in
    by more u left after xs k
  where
    by : (more : Nodes) (u : List ℕ) → AreNodes more scope to y (e ++ tail) → IsText more u → (xs : List tags.Attr)
        → next.mark ≡ Start b.name xs b.is_empty → ⊥
    by Nothing u f h xs k =
        let (m, kind, whole) = next.first in
        no_tag [] b.name xs b.is_empty (sym k ∙ at_stop law next.mark m z kind (inr (e, tail, ends, sym whole ∙ f)))
    by (Words v more) u (n, rest, j, i, r) h xs k =
        let (m, kind, whole) = next.first in
        words_start law v n rest b.name xs b.is_empty m z j (subst (λ (q : Mark). IsKind q m z) k kind) (sym i ∙ whole)
    by (Element tag place inner others) u f h xs k = h

-- texts before an element are white space
element_white : (a b : Nodes) (s : List ℕ) → IsText a s → HasElement (joined a b) → AreWhite a
element_white Nothing b s is h = tt
element_white (Words t more) b s (u, e, is) (white, h) = (white, element_white more b u is h)
element_white (Element tag place inner more) b s is h = absurd is

-- before an element only white space was read
pub blank_read : KindsAreRead → (a nodes : Nodes) (s : List ℕ) (scope : List Item) (at to : ℕ) (x y e tail : List ℕ) → IsText a s
    → AreNodes a scope at x y → AreNodes nodes scope at x (e ++ tail) → IsKind End e tail → at + length x ≡ to + length y → HasElement nodes
    → AreWhite a
blank_read law a nodes s scope at to x y e tail is octets row ends same element =
    let (more, whole, left) = text_passed law a nodes s scope at to x y (e ++ tail) is octets row same (inr (e, tail, ends, refl)) in
    element_white a more s is (subst HasElement whole element)

-- ---- what a mark is not

pub no_tag_kind : (k : MarkKind) → ((t : StartTag) → k ≡ kinds.Start t → ⊥) → (k ≡ kinds.End → ⊥) → IsTagRead (kind_view k) → ⊥
no_tag_kind (kinds.Start t) n m h = n t refl
no_tag_kind kinds.End n m h = m refl
no_tag_kind (kinds.Text t) n m h = h
no_tag_kind kinds.Other n m h = h

pub no_other_kind : (k : MarkKind) (size : ℕ) → ((t : declared.Text) → k ≡ kinds.Text t → ⊥) → (k ≡ kinds.Other → ⊥) → WordsFit (kind_view k) size → ⊥
no_other_kind (kinds.Start t) size n m h = h
no_other_kind kinds.End size n m h = h
no_other_kind (kinds.Text t) size n m h = n t refl
no_other_kind kinds.Other size n m h = m refl
