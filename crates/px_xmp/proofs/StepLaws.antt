-- What is read of a document, step by step.
use Rattle.std.proofs.Common.{◌≡◌, ◌≤◌, ◌+◌, ◌-◌, ℕ, Bool, true, Some, None, List, [], ◌∷◌, ◌++◌, length, drop, refl, sym, ap, subst, ◌∙◌, inl, inr, arith, length-append, append_assoc, append-nil}
use Rattle.std.proofs.lemmas.List.{drop_at}
use Rattle.std.proofs.lemmas.Option.{same_Some}
use Rattle.px_bytes.specs.Parts.{limit}
use Rattle.px_xmp_marks.specs.Reading.{Attr, name_view}
use Rattle.px_xmp_marks.specs.declared.tags.StartTag.{StartTag}
use Rattle.px_xmp_document.specs.Scopes.{Item}
use Rattle.px_xmp_forms.specs.Forms.{is_white}
use Rattle.px_xmp_forms.specs.Entries.{Entry}
use Rattle.px_xmp_text.specs.Values.{Compound}
use Rattle.px_xmp.specs.Marks.{Mark, Start, End, IsKind, AreRow}
use Rattle.px_xmp.specs.Tags.{tag_of, inside}
use Rattle.px_xmp.specs.Reading as reading
use Rattle.px_xmp.specs.Reading.{What, Read, data_read, read, IsReadAs, kind_view}
use Rattle.px_xmp.specs.declared.marks.MarkKind.{MarkKind}
use Rattle.px_xmp.specs.declared.marks.MarkKind.TheVariants as kinds
use Rattle.px_xmp.specs.declared.elements.Opened.{Opened}
use Rattle.px_xmp.specs.calls.Listed.{AreListed}
use Rattle.px_xmp.specs.calls.Opening.{IsOpened}
use Rattle.px_xmp.specs.Nodes.{Nodes, Nothing, Words, Element, AreWords, AreNodes}
use Rattle.px_xmp.specs.Meaning.{AreWhite, IsText, AreEntries}
use Rattle.px_xmp.specs.Laws.{KindsAreRead}
use Rattle.px_xmp.specs.calls.Steps.{IsLeft, Moves, IsFirst, IsTag, Next, Says}

pub nothing_read : read [] ≡ None
unfolding read data_read
nothing_read = refl

-- ---- the next mark

next_from : KindsAreRead → (x : List ℕ) (r : Read) (at to : ℕ) (y : List ℕ) (marks : List Mark) → AreRow marks x → at + length x ≤ limit
    → read x ≡ Some r → y ≡ drop r.size x → to ≡ at + r.size → Next r.what at x to y
next_from law x r at to y [] row few e h t = let wrong = sym nothing_read ∙ ap read (sym row) ∙ e in absurd (cc)
next_from law x r at to y (k ∷ more) (m, rest, i, w, row) few e h t =
    let (q, g, size, is) = law k m rest i in
    let same : q ≡ r = same_Some q r (sym g ∙ ap read (sym w) ∙ e) in
    let len : length m ≡ r.size = sym size ∙ ap (λ (z : Read). z.size) same in
    let tail : rest ≡ y = sym (drop_at m rest r.size len) ∙ ap (λ (z : List ℕ). drop r.size z) (sym w) ∙ sym h in
    let whole : x ≡ m ++ y = w ∙ ap (λ (z : List ℕ). m ++ z) tail in
    let sum : length x ≡ length m + length y = ap length whole ∙ length-append m y in
    record {
      mark = k;
      read = subst (λ (z : Read). IsReadAs z.what k) same is;
      first = (m, subst (λ (z : List ℕ). IsKind k m z) tail i, whole);
      moves = record {
        left = record { marks = more; row = subst (λ (z : List ℕ). AreRow more z) tail row; few = omega (arith, sum, few, len, t) };
        same = omega (arith, sum, len, t);
      };
    }

pub next_read : KindsAreRead → (x : List ℕ) (r : Read) (at to : ℕ) (y : List ℕ) → IsLeft at x → read x ≡ Some r → y ≡ drop r.size x
    → to ≡ at + r.size → Next r.what at x to y
next_read law x r at to y left e h t = next_from law x r at to y left.marks left.row left.few e h t

pub moves_on : (at to on : ℕ) (x y z : List ℕ) → Moves at x to y → Moves to y on z → Moves at x on z
moves_on at to on x y z a b = record { left = b.left; same = a.same ∙ b.same }

-- a mark that says a text is one
pub words_read : (w : What) (k : Mark) (t m y : List ℕ) → IsReadAs w k → Says w t → IsKind k m y → AreWords t m y
words_read (reading.Tag s) k t m y is says kind = absurd says
words_read reading.End k t m y is says kind = absurd says
words_read (reading.Words c octets) k t m y is says kind =
    inl (c, octets, subst (λ (z : Mark). IsKind z m y) is kind, says)
words_read reading.Other k t m y is says kind = inr (subst (λ (z : Mark). IsKind z m y) is kind, says)

-- ---- nodes, and others after them

abbrev pub joined : Nodes → Nodes → Nodes
joined Nothing b = b
joined (Words t more) b = Words t (joined more b)
joined (Element tag place inner more) b = Element tag place inner (joined more b)

pub nodes_shorter : (a : Nodes) (scope : List Item) (at : ℕ) (x y : List ℕ) → AreNodes a scope at x y → length y ≤ length x
nodes_shorter Nothing scope at x y e = omega (arith, ap length e)
nodes_shorter (Words t more) scope at x y (m, rest, i, w, r) =
    omega (arith, ap length w, length-append m rest, nodes_shorter more scope _ rest y r)
nodes_shorter (Element tag place inner more) scope at x y (n, xs, m, rest, same, here, w, inl (i, none, r)) =
    omega (arith, ap length w, length-append m rest, nodes_shorter more scope _ rest y r)
nodes_shorter (Element tag place inner more) scope at x y (n, xs, m, rest, same, here, w, inr (e, tail, i, c, ends, r)) =
    omega (arith, ap length w, length-append m rest, nodes_shorter inner _ _ rest (e ++ tail) c, length-append e tail, nodes_shorter more scope _ tail y r)

pub nodes_joined : (a b : Nodes) (scope : List Item) (at to : ℕ) (x y z : List ℕ) → AreNodes a scope at x y → AreNodes b scope to y z
    → at + length x ≡ to + length y → AreNodes (joined a b) scope at x z
nodes_joined Nothing b scope at to x y z e f h =
    subst (λ (q : List ℕ). AreNodes b scope at q z) (sym e)
    (subst (λ (q : ℕ). AreNodes b scope q y z) (omega (arith, h, ap length e)) f)
nodes_joined (Words t more) b scope at to x y z (m, rest, i, w, r) f h =
    (m, rest, i, w, nodes_joined more b scope (at + length m) to rest y z r f (omega (arith, h, ap length w, length-append m rest)))
nodes_joined (Element tag place inner more) b scope at to x y z (n, xs, m, rest, same, here, w, inl (i, none, r)) f h = (
  n,
  xs,
  m,
  rest,
  same,
  here,
  w,
  inl (i, none, nodes_joined more b scope (at + length m) to rest y z r f (omega (arith, h, ap length w, length-append m rest))),
)
nodes_joined (Element tag place inner more) b scope at to x y z (n, xs, m, rest, same, here, w, inr (e, tail, i, c, ends, r)) f h =
    let shorter : length tail ≤ length x =
    omega (arith, ap length w, length-append m rest, nodes_shorter inner _ _ rest (e ++ tail) c, length-append e tail) in (
      n,
      xs,
      m,
      rest,
      same,
      here,
      w,
      inr (e, tail, i, c, ends, nodes_joined more b scope (at + (length x - length tail)) to tail y z r f (omega (arith, h, shorter))),
    )

pub white_joined : (a b : Nodes) → AreWhite a → AreWhite b → AreWhite (joined a b)
white_joined Nothing b e f = f
white_joined (Words t more) b (e, r) f = (e, white_joined more b r f)
white_joined (Element tag place inner more) b e f = absurd e

pub text_joined : (a b : Nodes) (s t : List ℕ) → IsText a s → IsText b t → IsText (joined a b) (s ++ t)
text_joined Nothing b s t e f = subst (λ (q : List ℕ). IsText b (q ++ t)) (sym e) f
text_joined (Words w more) b s t (u, e, r) f = (u ++ t, ap (λ (q : List ℕ). q ++ t) e ∙ append_assoc w u t, text_joined more b u t r f)
text_joined (Element tag place inner more) b s t e f = absurd e

pub entries_joined : (c : Compound) (l : List ℕ) (a b : Nodes) (es fs : List Entry) → AreEntries c l a es → AreEntries c l b fs
    → AreEntries c l (joined a b) (es ++ fs)
entries_joined c l Nothing b es fs e f = subst (λ (q : List Entry). AreEntries c l b (q ++ fs)) (sym e) f
entries_joined c l (Words t more) b es fs (e, r) f = (e, entries_joined c l more b es fs r f)
entries_joined c l (Element tag place inner more) b es fs (declares, label, v, others, named, e, r, is) f =
    (declares, label, v, others ++ fs, named, ap (λ (q : List Entry). q ++ fs) e, entries_joined c l more b others fs r f, is)

pub white_entries : (c : Compound) (l : List ℕ) (a : Nodes) → AreWhite a → AreEntries c l a []
white_entries c l Nothing e = refl
white_entries c l (Words t more) (e, r) = (e, white_entries c l more r)
white_entries c l (Element tag place inner more) e = absurd e

-- ---- one mark after another

-- a mark that is white space, after others
pub white_step : (white : Nodes) (scope : List Item) (at : ℕ) (x : List ℕ) (to : ℕ) (y : List ℕ) (on : ℕ) (z : List ℕ) (w : What) (t : List ℕ)
    → AreWhite white → AreNodes white scope at x y → Moves at x to y → Next w to y on z → Says w t → is_white t ≡ true
    → (b : Nodes) × AreWhite b × AreNodes b scope at x z × Moves at x on z
white_step white scope at x to y on z w t is octets moves next says blank =
    let (m, kind, whole) = next.first in (
      joined white (Words t Nothing),
      white_joined white (Words t Nothing) is (blank, tt),
      nodes_joined white (Words t Nothing) scope at to x y z octets (m, z, words_read w next.mark t m z next.read says kind, whole, refl) moves.same,
      moves_on at to on x y z moves next.moves,
    )

-- a text, after others
pub text_step : (nodes : Nodes) (scope : List Item) (at : ℕ) (x : List ℕ) (to : ℕ) (y : List ℕ) (on : ℕ) (z : List ℕ) (w : What) (s t : List ℕ)
    → IsText nodes s → AreNodes nodes scope at x y → Moves at x to y → Next w to y on z → Says w t
    → IsText (joined nodes (Words t Nothing)) (s ++ t) × AreNodes (joined nodes (Words t Nothing)) scope at x z × Moves at x on z
text_step nodes scope at x to y on z w s t is octets moves next says =
    let (m, kind, whole) = next.first in (
      text_joined nodes (Words t Nothing) s t is ([], sym (append-nil t), refl),
      nodes_joined nodes (Words t Nothing) scope at to x y z octets (m, z, words_read w next.mark t m z next.read says kind, whole, refl) moves.same,
      moves_on at to on x y z moves next.moves,
    )

-- a start tag, whose element is entered
pub tag_started : (w : MarkKind) (t : StartTag) (o : Opened) (outer scope inner : List Item) (at : ℕ) (x : List ℕ) (to : ℕ) (y : List ℕ)
    → w ≡ kinds.Start t → scope ≡ outer → Next (kind_view w) at x to y
    → ((all : List Attr) → AreListed t.rest.now all → inner ≡ inside scope all)
    → ((all : List Attr) → AreListed t.rest.now all → IsOpened inner o (tag_of scope (name_view t.name) all))
    → o.is_empty ≡ t.is_empty → o.place ≡ at → IsTag (Some o) outer inner at x y
tag_started w t o outer scope inner at x to y is same next entered opened empty place =
    let (all, listed, k) = subst (λ (z : MarkKind). IsReadAs (kind_view z) next.mark) is next.read in
    let (m, kind, whole) = next.first in (
      tag_of scope (name_view t.name) all,
      record {
        name = name_view t.name;
        attributes = all;
        first = (m, subst (λ (z : Mark). IsKind z m y) (k ∙ ap (λ (b : Bool). Start (name_view t.name) all b) (sym empty)) kind, whole);
        tag_is = ap (λ (z : List Item). tag_of z (name_view t.name) all) same;
        inner_is = entered all listed ∙ ap (λ (z : List Item). inside z all) same;
        opened = opened all listed;
        place = place;
      },
    )

-- an end tag
pub tag_ended : (w : MarkKind) (at : ℕ) (x : List ℕ) (to : ℕ) (y : List ℕ) → w ≡ kinds.End → Next (kind_view w) at x to y → IsFirst End x y
tag_ended w at x to y is next =
    let k = subst (λ (z : MarkKind). IsReadAs (kind_view z) next.mark) is next.read in
    let (m, kind, whole) = next.first in
    (m, subst (λ (z : Mark). IsKind z m y) k kind, whole)
