-- White space is read up to a tag, or up to the end.
use Rattle.std.proofs.Common.{◌≡◌, ◌≤◌, ◌+◌, ◌*◌, ℕ, true, false, List, [], length, sym, ap, subst, ◌∙◌, inl, inr, arith, length-append}
use Rattle.px_bytes.specs.Parts.{limit}
use Rattle.px_xmp_text.specs.Grammar.{OnlyReferencesAreRead}
use Rattle.px_xmp_text.specs.Texts.{normal_text}
use Rattle.px_xmp_document.specs.Scopes.{Item}
use Rattle.px_xmp_forms.specs.Forms.{most, is_white}
use Rattle.px_xmp.specs.Marks.{Mark, Start, End, IsKind}
use Rattle.px_xmp.specs.Nodes.{Nodes, Nothing, Words, Element, AreWords, AreNodes}
use Rattle.px_xmp.specs.Meaning.{AreWhite, IsText}
use Rattle.px_xmp.specs.Reading as reading
use Rattle.px_xmp.specs.Reading.{What, IsReadAs}
use Rattle.px_xmp.specs.Laws.{KindsAreRead}
use Rattle.px_xmp.specs.calls.Steps.{IsFirst, Next}
use Rattle.px_xmp.specs.calls.Fits.{HasElement, HasTag, SaysWhite, WordsFit}
use Rattle.px_xmp.proofs.StepLaws.{joined}
use Rattle.px_xmp.proofs.NodeLaws.{mark_once, some_mark, IsWords, words_mark, words_stop, words_start}
use Rattle.px_xmp.proofs.CharacterLaws.{normal_append}
use Rattle.px_xmp.proofs.BlankLaws.{white_short}
use Rattle.px_xmp.proofs.AheadLaws.{IsTagRead, is_tag}
use Rattle.px_xmp.proofs.LiteralLaws.{kind_short, tag_of_mark}

-- ---- what a mark says

-- a mark that is white space and no longer than a packet
says_white : (w : What) (k : Mark) (t m y : List ℕ) → IsReadAs w k → IsWords k t → IsKind k m y → length m ≤ limit → is_white t ≡ true → SaysWhite w
says_white (reading.Tag b) k t m y (xs, e, f) words kind few white = absurd (subst (λ (z : Mark). IsWords z t) f words)
says_white reading.End k t m y f words kind few white = absurd (subst (λ (z : Mark). IsWords z t) f words)
says_white (reading.Words c octets) k t m y f words kind few white =
    (omega (arith, few, kind_short c octets m y (subst (λ (z : Mark). IsKind z m y) f kind)), t, subst (λ (z : Mark). IsWords z t) f words, white)
says_white reading.Other k t m y f words kind few white = tt

-- there is room for it
white_room : OnlyReferencesAreRead → (w : What) (k : Mark) (m y : List ℕ) (n : ℕ) → IsReadAs w k → IsKind k m y → SaysWhite w
    → n + 2 * length m ≤ most → WordsFit w n
white_room law (reading.Tag b) k m y n f kind says room = absurd says
white_room law reading.End k m y n f kind says room = absurd says
white_room law (reading.Words c octets) k m y n f kind (few, t, is, white) room = (
  t,
  is,
  few,
  omega (arith, room, white_short law c octets t is white, kind_short c octets m y (subst (λ (z : Mark). IsKind z m y) f kind)),
)
white_room law reading.Other k m y n f kind says room = tt

-- ---- a tag ahead

-- it is still there after white space
pub tag_ahead : KindsAreRead → (a b : Nodes) (scope : List Item) (at to : ℕ) (x y z : List ℕ) → AreWhite a → AreNodes a scope at x y
    → AreNodes b scope at x z → at + length x ≡ to + length y → HasTag b z → (more : Nodes) × AreNodes more scope to y z × HasTag more z
tag_ahead law Nothing b scope at to x y z white e f same tag =
    (b, subst (λ (q : ℕ). AreNodes b scope q y z) (omega (arith, same, ap length e)) (subst (λ (q : List ℕ). AreNodes b scope at q z) e f), tag)
tag_ahead law (Words t more) Nothing scope at to x y z white (m, rest, i, w, r) e same (after, (end, ends, whole)) =
    absurd (words_stop law t m rest i (inr (end, after, ends, sym w ∙ e ∙ whole)))
tag_ahead law (Words t more) (Words u others) scope at to x y z (f, white) (m, rest, i, w, r) (n, tail, j, v, q) same (blank, tag) =
    let (k, is, words) = words_mark t m rest i in
    let (l, are, said) = words_mark u n tail j in
    let (kinds, octets, follow) = mark_once law k l m n rest tail is are (sym w ∙ v) in
    let moved : AreNodes others scope (at + length m) rest z =
    subst (λ (h : List ℕ). AreNodes others scope (at + length m) h z) (sym follow)
    (subst (λ (h : List ℕ). AreNodes others scope (at + length h) tail z) (sym octets) q) in
    tag_ahead law more others scope (at + length m) to rest y z white r moved (omega (arith, same, ap length w, length-append m rest)) tag
tag_ahead law (Words t more) (Element tag place inner others) scope at to x y z white (m, rest, i, w, r) (n, xs, l, tail, is, here, q, inl (j, none, p)) same h =
    absurd (words_start law t m rest n xs true l tail i j (sym w ∙ q))
tag_ahead law (Words t more) (Element tag place inner others) scope at to x y z white (m, rest, i, w, r) (n, xs, l, tail, is, here, q, inr (end, left, j, c, ends, p)) same h =
    absurd (words_start law t m rest n xs false l tail i j (sym w ∙ q))
tag_ahead law (Element tag place inner more) b scope at to x y z white e f same h = absurd white

-- the first mark up to a tag
pub first_mark : (b : Nodes) (scope : List Item) (at : ℕ) (x z : List ℕ) → AreNodes b scope at x z → HasTag b z
    → (k : Mark) × (y : List ℕ) × IsFirst k x y
first_mark Nothing scope at x z e (after, first) = (End, after, subst (λ (q : List ℕ). IsFirst End q after) (sym e) first)
first_mark (Words t more) scope at x z (m, rest, i, w, r) h = let (k, is, words) = words_mark t m rest i in (k, rest, (m, is, w))
first_mark (Element tag place inner more) scope at x z (n, xs, m, rest, same, here, w, inl (i, none, r)) h = (Start n xs true, rest, (m, i, w))
first_mark (Element tag place inner more) scope at x z (n, xs, m, rest, same, here, w, inr (end, tail, i, c, ends, r)) h =
    (Start n xs false, rest, (m, i, w))

-- the next mark is a tag or white space
pub next_white : KindsAreRead → (w : What) (b : Nodes) (scope : List Item) (at on : ℕ) (x y z : List ℕ) → Next w at x on y
    → AreNodes b scope at x z → HasTag b z → (IsTagRead w → ⊥) → at + length x ≤ limit → SaysWhite w
next_white law w Nothing scope at on x y z next e (after, (end, ends, tail)) other few =
    let (m, kind, whole) = next.first in
    absurd (other (tag_of_mark w next.mark next.read (ap is_tag (mark_once law next.mark End m end y after kind ends (sym whole ∙ e ∙ tail)).0)))
next_white law w (Words u more) scope at on x y z next (n, rest, j, v, r) (white, tag) other few =
    let (m, kind, whole) = next.first in
    let (k, is, words) = words_mark u n rest j in
    says_white w next.mark u m y next.read
    (subst (λ (q : Mark). IsWords q u) (mark_once law k next.mark n m rest y is kind (sym v ∙ whole)).0 words) kind
    (omega (arith, few, ap length whole, length-append m y)) white
next_white law w (Element tag place inner more) scope at on x y z next (n, xs, l, rest, is, here, v, inl (i, none, r)) h other few =
    let (m, kind, whole) = next.first in
    absurd (other (tag_of_mark w next.mark next.read (ap is_tag (mark_once law next.mark (Start n xs true) m l y rest kind i (sym whole ∙ v)).0)))
next_white law w (Element tag place inner more) scope at on x y z next (n, xs, l, rest, is, here, v, inr (end, tail, i, c, ends, r)) h other few =
    let (m, kind, whole) = next.first in
    absurd (other (tag_of_mark w next.mark next.read (ap is_tag (mark_once law next.mark (Start n xs false) m l y rest kind i (sym whole ∙ v)).0)))

-- white space up to an end tag
pub white_tag : (b : Nodes) (x y : List ℕ) → AreWhite b → IsFirst End x y → HasTag b x
white_tag Nothing x y h first = (y, first)
white_tag (Words t more) x y (white, h) first = (white, white_tag more x y h first)
white_tag (Element tag place inner more) x y h first = tt

-- ---- white space up to the end

pub last_mark : (b : Nodes) (scope : List Item) (at : ℕ) (x : List ℕ) → AreNodes b scope at x [] → AreWhite b → (x ≡ [] → ⊥)
    → (k : Mark) × (y : List ℕ) × IsFirst k x y
last_mark Nothing scope at x e h some = absurd (some e)
last_mark (Words t more) scope at x (m, rest, i, w, r) h some = let (k, is, words) = words_mark t m rest i in (k, rest, (m, is, w))
last_mark (Element tag place inner more) scope at x e h some = absurd h

pub last_white : KindsAreRead → (w : What) (b : Nodes) (scope : List Item) (at on : ℕ) (x y : List ℕ) → Next w at x on y
    → AreNodes b scope at x [] → AreWhite b → at + length x ≤ limit → SaysWhite w
last_white law w Nothing scope at on x y next e white few =
    let (m, kind, whole) = next.first in absurd (some_mark law next.mark m y kind (sym whole ∙ e))
last_white law w (Words u more) scope at on x y next (n, rest, j, v, r) (white, h) few =
    let (m, kind, whole) = next.first in
    let (k, is, words) = words_mark u n rest j in
    says_white w next.mark u m y next.read
    (subst (λ (q : Mark). IsWords q u) (mark_once law k next.mark n m rest y is kind (sym v ∙ whole)).0 words) kind
    (omega (arith, few, ap length whole, length-append m y)) white
last_white law w (Element tag place inner more) scope at on x y next e white few = absurd white

-- ---- an element ahead

pub element_tag : (b : Nodes) (z : List ℕ) → HasElement b → HasTag b z
element_tag Nothing z h = absurd h
element_tag (Words t more) z (white, h) = (white, element_tag more z h)
element_tag (Element tag place inner more) z h = tt

words_short : OnlyReferencesAreRead → (t m rest : List ℕ) → AreWords t m rest → is_white t ≡ true → length (normal_text t) ≤ 2 * length m
words_short law t m rest (inl (kind, octets, i, e)) white =
    omega (arith, white_short law kind octets t e white, kind_short kind octets m rest i)
words_short law t m rest (inr (i, e)) white = omega (arith, ap (λ (q : List ℕ). length (normal_text q)) e)

-- what was read of white space has a short normal form
pub white_size : OnlyReferencesAreRead → (a : Nodes) (s : List ℕ) (scope : List Item) (at : ℕ) (x y : List ℕ) → IsText a s → AreWhite a
    → AreNodes a scope at x y → length (normal_text s) + 2 * length y ≤ 2 * length x
white_size law Nothing s scope at x y is white e = omega (arith, ap length e, ap (λ (q : List ℕ). length (normal_text q)) is)
white_size law (Words t more) s scope at x y (u, e, is) (blank, white) (m, rest, i, w, r) =
    omega (
      arith,
      ap (λ (q : List ℕ). length (normal_text q)) e,
      ap length (normal_append t u),
      length-append (normal_text t) (normal_text u),
      words_short law t m rest i blank,
      white_size law more u scope (at + length m) rest y is white r,
      ap length w,
      length-append m rest,
    )
white_size law (Element tag place inner more) s scope at x y is white e = absurd is

-- a mark before an element fits after what was read
pub white_fits : KindsAreRead → OnlyReferencesAreRead → (w : What) (a b : Nodes) (s : List ℕ) (scope : List Item) (at to on : ℕ) (x y z v : List ℕ)
    → IsText a s → AreWhite a → AreNodes a scope at x y → at + length x ≡ to + length y → at + length x ≤ limit → AreNodes b scope at x v
    → HasElement b → Next w to y on z → (IsTagRead w → ⊥) → WordsFit w (length (normal_text s))
white_fits law only w a b s scope at to on x y z v is white octets same few row element next other =
    let (more, left, tag) = tag_ahead law a b scope at to x y v white octets row same (element_tag b v element) in
    let (m, kind, whole) = next.first in
    white_room only w next.mark m z (length (normal_text s)) next.read kind
    (next_white law w more scope to on y z v next left tag other (omega (arith, few, same)))
    (omega (arith, white_size only a s scope at x y is white octets, few, ap length whole, length-append m z))

-- what was read before is white space, if all is
pub white_back : (a b : Nodes) → AreWhite (joined a b) → AreWhite a
white_back Nothing b h = tt
white_back (Words t more) b (e, h) = (e, white_back more b h)
white_back (Element tag place inner more) b h = absurd h
