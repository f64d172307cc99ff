-- A packet that is refused as one that is wrong has no meaning.
use Rattle.std.proofs.Common.{◌≡◌, ◌≤◌, ◌+◌, ◌-◌, ℕ, Bool, true, false, Some, None, List, [], ◌++◌, length, Result, Ok, Err, refl, sym, ap, subst, ◌∙◌, inl, inr, arith, length-append}
use Rattle.std.proofs.lemmas.Bool.{both_ways}
use Rattle.px_xmp_text.specs.declared.pieces.TextKind.{TextKind}
use Rattle.px_xmp_document.specs.Scopes.{Item, ended}
use Rattle.px_xmp_forms.specs.Causes.{is_rare_in_rdf, is_rare, IsRare, IfWrong}
use Rattle.px_xmp_forms.specs.Forms.{is_white}
use Rattle.px_xmp_forms.specs.declared.faults.Cause.{Cause}
use Rattle.px_xmp_forms.specs.declared.faults.Cause.TheVariants.{RareEncoding, RareName, RareCount}
use Rattle.px_xmp_forms.specs.declared.faults.Refusal.{Refusal}
use Rattle.px_xmp_forms.specs.declared.faults.Refusal.TheVariants as refusals
use Rattle.px_xmp.specs.Marks.{Mark, Start, End, Text}
use Rattle.px_xmp.specs.Tags.{Tag, inside}
use Rattle.px_xmp.specs.Nodes.{Nodes, Nothing, Words, Element, AreNodes}
use Rattle.px_xmp.specs.Meaning.{AreWhite, IsAlone}
use Rattle.px_xmp.specs.Reading as reading
use Rattle.px_xmp.specs.Reading.{What, IsReadAs}
use Rattle.px_xmp.specs.Laws.{KindsAreRead}
use Rattle.px_xmp.specs.declared.elements.Opened.{Opened}
use Rattle.px_xmp.specs.declared.source.Source.{Source}
use Rattle.px_xmp.specs.calls.Steps.{IsFirst, IsStart, Next, TagAfter, HasInside, InsideRead}
use Rattle.px_xmp.specs.calls.Refused.{IsOther, HasText, BeginsWithText}
use Rattle.px_xmp.proofs.StepLaws.{joined, nodes_shorter, nodes_joined, words_read}
use Rattle.px_xmp.proofs.NodeLaws.{mark_once, some_mark, IsWords, words_mark, words_same, IsStop, at_stop, words_stop, no_tag, words_start, Same, tag_once, nodes_once}
use Rattle.px_xmp.proofs.RootLaws.{scope_after}

-- a cause by which RDF leaves a packet is rare
rare_in : (c : Cause) → is_rare_in_rdf c ≡ true → is_rare c ≡ true
rare_in RareEncoding h = refl
rare_in RareName h = refl
rare_in RareCount h = refl
rare_in cause h = h

-- ---- results

pub rare_says : (X Y : Type 0) (e : Refusal) (P : Type 0) → IsRare {X = X} (Err e) → IfWrong {X = Y} (Err e) P
rare_says X Y (refusals.Content cause place) P h = λ wrong. absurd (both_ways (is_rare cause) wrong (rare_in cause h))
rare_says X Y refusals.OutOfMemory P h = tt

pub rare_wrong : (X : Type 0) (r : Result X Refusal) (P : Type 0) → IsRare r → IfWrong r P
rare_wrong X (Ok x) P h = tt
rare_wrong X (Err (refusals.Content cause place)) P h = λ wrong. absurd (both_ways (is_rare cause) wrong (rare_in cause h))
rare_wrong X (Err refusals.OutOfMemory) P h = tt

pub wrong_says : (X Y : Type 0) (e : Refusal) (P Q : Type 0) → (P → Q) → IfWrong {X = X} (Err e) P → IfWrong {X = Y} (Err e) Q
wrong_says X Y (refusals.Content cause place) P Q f h = λ wrong. f (h wrong)
wrong_says X Y refusals.OutOfMemory P Q f h = tt

pub wrong_weaker : (X : Type 0) (r : Result X Refusal) (P Q : Type 0) → (P → Q) → IfWrong r P → IfWrong r Q
wrong_weaker X (Ok x) P Q f h = tt
wrong_weaker X (Err (refusals.Content cause place)) P Q f h = λ wrong. f (h wrong)
wrong_weaker X (Err refusals.OutOfMemory) P Q f h = tt

pub wrong_at : (X : Type 0) (e : Refusal) (cause : Cause) (place : ℕ) (P : Type 0) → e ≡ refusals.Content cause place → P → IfWrong {X = X} (Err e) P
wrong_at X e cause place P h p = subst (λ (z : Refusal). IfWrong {X = X} (Err z) P) (sym h) (λ wrong. p)

pub rare_at : (X : Type 0) (e : Refusal) (cause : Cause) (place : ℕ) (P : Type 0) → e ≡ refusals.Content cause place → is_rare cause ≡ true
    → IfWrong {X = X} (Err e) P
rare_at X e cause place P h is = subst (λ (z : Refusal). IfWrong {X = X} (Err z) P) (sym h) (λ wrong. absurd (both_ways (is_rare cause) wrong is))

pub wrong_all : (X Y : Type 0) (e : Refusal) (A : Type 0) (Q : A → Type 0) → ((a : A) → IfWrong {X = X} (Err e) (Q a))
    → IfWrong {X = Y} (Err e) ((a : A) → Q a)
wrong_all X Y (refusals.Content cause place) A Q h = λ wrong a. h a wrong
wrong_all X Y refusals.OutOfMemory A Q h = tt

-- ---- a text that is more than white space

-- two rows of nodes at the start of the same octets have it both
pub text_found : KindsAreRead → (a b : Nodes) (scope : List Item) (at to : ℕ) (x y z : List ℕ) → HasText a → AreNodes a scope at x y
    → AreNodes b scope to x z → IsStop z → HasText b
text_found law Nothing b scope at to x y z h e f s = absurd h
text_found law (Words t more) Nothing scope at to x y z h (m, rest, i, w, r) e s =
    absurd (words_stop law t m rest i (subst (λ (q : List ℕ). IsStop q) (sym e ∙ w) s))
text_found law (Words t more) (Words u others) scope at to x y z (inl white) (m, rest, i, w, r) (n, tail, j, v, q) s =
    let (k, is, words) = words_mark t m rest i in
    let (l, are, said) = words_mark u n tail j in
    let (same, octets, follow) = mark_once law k l m n rest tail is are (sym w ∙ v) in
    let text : t ≡ u = words_same l t u (subst (λ (h : Mark). IsWords h t) same words) said in
    inl (subst (λ (h : List ℕ). is_white h ≡ false) text white)
text_found law (Words t more) (Words u others) scope at to x y z (inr later) (m, rest, i, w, r) (n, tail, j, v, q) s =
    let (k, is, words) = words_mark t m rest i in
    let (l, are, said) = words_mark u n tail j in
    let (same, octets, follow) = mark_once law k l m n rest tail is are (sym w ∙ v) in
    inr (text_found law more others scope (at + length m) (to + length n) rest y z later r
    (subst (λ (h : List ℕ). AreNodes others scope (to + length n) h z) (sym follow) q) s)
text_found law (Words t more) (Element tag place inner others) scope at to x y z h (m, rest, i, w, r) (n, xs, l, tail, same, here, q, inl (j, none, p)) s =
    absurd (words_start law t m rest n xs true l tail i j (sym w ∙ q))
text_found law (Words t more) (Element tag place inner others) scope at to x y z h (m, rest, i, w, r) (n, xs, l, tail, same, here, q, inr (end, left, j, c, ends, p)) s =
    absurd (words_start law t m rest n xs false l tail i j (sym w ∙ q))
text_found law (Element tag place inner more) b scope at to x y z h e f s = absurd h

has_text : (a : Nodes) (t : List ℕ) → AreWhite a → is_white t ≡ false → HasText (joined a (Words t Nothing))
has_text Nothing t w rest = inl rest
has_text (Words u more) t (e, w) rest = inr (has_text more t w rest)
has_text (Element tag place inner more) t w rest = absurd w

-- it was read after white space
pub text_begins : (white : Nodes) (scope : List Item) (at to on : ℕ) (x y z : List ℕ) (kind : TextKind) (octets : List ℕ) → AreWhite white
    → AreNodes white scope at x y → at + length x ≡ to + length y → Next (reading.Words kind octets) to y on z → IsOther (reading.Words kind octets)
    → BeginsWithText scope at x
text_begins white scope at to on x y z kind octets is_white row same next (t, says, rest) =
    let (m, is, whole) = next.first in (
      joined white (Words t Nothing),
      z,
      has_text white t is_white rest,
      nodes_joined white (Words t Nothing) scope at to x y z row
          (m, z, words_read (reading.Words kind octets) next.mark t m z next.read says is, whole, refl) same,
    )

pub white_text : (a : Nodes) → HasText a → AreWhite a → ⊥
white_text Nothing h w = h
white_text (Words t more) (inl e) (f, r) = absurd (both_ways (is_white t) e f)
white_text (Words t more) (inr h) (f, r) = white_text more h r
white_text (Element tag place inner more) h w = h

pub alone_text : (P : Tag → Nodes → Type 0) (a : Nodes) → HasText a → IsAlone P a → ⊥
alone_text P Nothing h w = h
alone_text P (Words t more) (inl e) (f, r) = absurd (both_ways (is_white t) e f)
alone_text P (Words t more) (inr h) (f, r) = alone_text P more h r
alone_text P (Element tag place inner more) h w = h

-- ---- what follows white space

pub white_front : (a b : Nodes) → AreWhite (joined a b) → AreWhite b
white_front Nothing b h = h
white_front (Words t more) b (e, r) = white_front more b r
white_front (Element tag place inner more) b h = absurd h

pub alone_front : (P : Tag → Nodes → Type 0) (a b : Nodes) → AreWhite a → IsAlone P (joined a b) → IsAlone P b
alone_front P Nothing b w h = h
alone_front P (Words t more) b (f, w) (e, r) = alone_front P more b w r
alone_front P (Element tag place inner more) b w h = absurd w

pub white_passed : KindsAreRead → (a b : Nodes) (scope : List Item) (at to : ℕ) (x y z : List ℕ) → AreWhite a → AreNodes a scope at x y
    → AreNodes b scope at x z → at + length x ≡ to + length y → IsStop z → (more : Nodes) × (b ≡ joined a more) × AreNodes more scope to y z
white_passed law Nothing b scope at to x y z white e f same s =
    (b, refl, subst (λ (q : ℕ). AreNodes b scope q y z) (omega (arith, same, ap length e)) (subst (λ (q : List ℕ). AreNodes b scope at q z) e f))
white_passed law (Words t more) Nothing scope at to x y z white (m, rest, i, w, r) e same s =
    absurd (words_stop law t m rest i (subst (λ (q : List ℕ). IsStop q) (sym e ∙ w) s))
white_passed law (Words t more) (Words u others) scope at to x y z (f, white) (m, rest, i, w, r) (n, tail, j, v, q) same s =
    let (k, is, words) = words_mark t m rest i in
    let (l, are, said) = words_mark u n tail j in
    let (kinds, octets, follow) = mark_once law k l m n rest tail is are (sym w ∙ v) in
    let text : t ≡ u = words_same l t u (subst (λ (h : Mark). IsWords h t) kinds words) said in
    let moved : AreNodes others scope (at + length m) rest z =
    subst (λ (h : List ℕ). AreNodes others scope (at + length m) h z) (sym follow)
    (subst (λ (h : List ℕ). AreNodes others scope (at + length h) tail z) (sym octets) q) in
    let (left, whole, row) =
    white_passed law more others scope (at + length m) to rest y z white r moved (omega (arith, same, ap length w, length-append m rest)) s in
    (left, ap (λ (h : List ℕ). Words h others) (sym text) ∙ ap (λ (h : Nodes). Words t h) whole, row)
white_passed law (Words t more) (Element tag place inner others) scope at to x y z white (m, rest, i, w, r) (n, xs, l, tail, is, here, q, inl (j, none, p)) same s =
    absurd (words_start law t m rest n xs true l tail i j (sym w ∙ q))
white_passed law (Words t more) (Element tag place inner others) scope at to x y z white (m, rest, i, w, r) (n, xs, l, tail, is, here, q, inr (end, left, j, c, ends, p)) same s =
    absurd (words_start law t m rest n xs false l tail i j (sym w ∙ q))
white_passed law (Element tag place inner more) b scope at to x y z white e f same s = absurd white

-- ---- at a tag

-- nodes are an element with this tag, what is in it, and others
pub record Entered (o : Opened) (t : Tag) (nodes : Nodes) (scope inner : List Item) (at : ℕ) (y z : List ℕ) : Type 0 where
  pub content : Nodes
  pub more : Nodes
  pub to : ℕ
  pub tail : List ℕ
  pub is : nodes ≡ Element t o.place content more
  pub within : HasInside o.is_empty content inner at y tail
  pub row : AreNodes more scope to tail z
  pub same : at + length y ≡ to + length tail

tag_entered : KindsAreRead → (o : Opened) (t : Tag) (b : Nodes) (scope inner : List Item) (at on : ℕ) (x y z : List ℕ) → IsStart o t scope inner at x y
    → AreNodes b scope at x z → at + length x ≡ on + length y → IsStop z → Entered o t b scope inner on y z
tag_entered law o t Nothing scope inner at on x y z start e same s =
    let (m, kind, whole) = start.first in
    absurd (no_tag scope start.name start.attributes o.is_empty (at_stop law (Start start.name start.attributes o.is_empty) m y kind
    (subst (λ (q : List ℕ). IsStop q) (sym e ∙ whole) s)))
tag_entered law o t (Words u more) scope inner at on x y z start (n, rest, j, v, r) same s =
    let (m, kind, whole) = start.first in
    absurd (words_start law u n rest start.name start.attributes o.is_empty m y j kind (sym v ∙ whole))
tag_entered law o t (Element tag place content more) scope inner at on x y z start (n, xs, m, rest, is, here, w, inl (i, none, r)) same s =
    let (l, kind, whole) = start.first in
    let (tags, octets, follow, alone, scopes) = tag_once law scope tag t n start.name xs start.attributes true o.is_empty m rest l y x
    (is, w, i) (start.tag_is, whole, kind) in
    record {
      content = content;
      more = more;
      to = at + length m;
      tail = y;
      is = ap (λ (q : Tag). Element q place content more) tags ∙ ap (λ (p : ℕ). Element t p content more) (here ∙ sym start.place);
      within = subst (λ (b : Bool). HasInside b content inner on y y) alone (none, refl);
      row = subst (λ (q : List ℕ). AreNodes more scope (at + length m) q z) follow r;
      same = omega (arith, same, ap length w, length-append m rest, ap length follow);
    }
tag_entered law o t (Element tag place content more) scope inner at on x y z start (n, xs, m, rest, is, here, w, inr (end, tail, i, c, ends, r)) same s =
    let (l, kind, whole) = start.first in
    let (tags, octets, follow, alone, scopes) = tag_once law scope tag t n start.name xs start.attributes false o.is_empty m rest l y x
    (is, w, i) (start.tag_is, whole, kind) in
    let place_is : at + length m ≡ on = omega (arith, same, ap length w, length-append m rest, ap length follow) in
    let moved : AreNodes content inner on y (end ++ tail) =
    subst (λ (q : List Item). AreNodes content q on y (end ++ tail)) (scopes ∙ sym start.inner_is)
    (subst (λ (q : List ℕ). AreNodes content (inside scope xs) on q (end ++ tail)) follow
    (subst (λ (q : ℕ). AreNodes content (inside scope xs) q rest (end ++ tail)) place_is c)) in
    let shorter : length tail ≤ length x =
    omega (arith, ap length w, length-append m rest, nodes_shorter content _ _ rest (end ++ tail) c, length-append end tail) in
    record {
      content = content;
      more = more;
      to = at + (length x - length tail);
      tail = tail;
      is = ap (λ (q : Tag). Element q place content more) tags ∙ ap (λ (p : ℕ). Element t p content more) (here ∙ sym start.place);
      within = subst (λ (b : Bool). HasInside b content inner on y tail) alone (end, moved, ends);
      row = r;
      same = omega (arith, same, shorter);
    }

-- the same after white space
pub record EnteredAfter (o : Opened) (white : Nodes) (t : Tag) (nodes : Nodes) (old mid : Source) (z : List ℕ) : Type 0 where
  pub left : Nodes
  pub whole : nodes ≡ joined white left
  pub entered : Entered o t left old.scope mid.scope mid.at mid.rest.now z

pub enter_after : KindsAreRead → (o : Opened) (white : Nodes) (t : Tag) (b : Nodes) (old mid : Source) (z : List ℕ) → AreWhite white
    → (tag : TagAfter (Some o) white old mid) → IsStart o t old.scope mid.scope tag.at tag.octets mid.rest.now
    → AreNodes b old.scope old.at old.rest.now z → IsStop z → EnteredAfter o white t b old mid z
enter_after law o white t b old mid z is_white tag start row s =
    let (left, whole, others) = white_passed law white b old.scope old.at tag.at old.rest.now tag.octets z is_white tag.row row tag.place s in
    record {
      left = left;
      whole = whole;
      entered = tag_entered law o t left old.scope mid.scope tag.at mid.at tag.octets mid.rest.now z start others (sym tag.place ∙ tag.moves.same) s;
    }

nothing_at_end : KindsAreRead → (b : Nodes) (scope : List Item) (at : ℕ) (x y z : List ℕ) → IsFirst End x y → AreNodes b scope at x z → b ≡ Nothing
nothing_at_end law Nothing scope at x y z first e = refl
nothing_at_end law (Words u more) scope at x y z (m, kind, whole) (n, rest, j, v, r) =
    let (k, is, words) = words_mark u n rest j in
    absurd (subst (λ (q : Mark). IsWords q u) (mark_once law k End n m rest y is kind (sym v ∙ whole)).0 words)
nothing_at_end law (Element tag place inner more) scope at x y z (m, kind, whole) (n, xs, l, rest, is, here, w, inl (i, none, r)) =
    absurd (no_tag scope n xs true (mark_once law (Start n xs true) End l m rest y i kind (sym w ∙ whole)).0)
nothing_at_end law (Element tag place inner more) scope at x y z (m, kind, whole) (n, xs, l, rest, is, here, w, inr (end, tail, i, c, ends, r)) =
    absurd (no_tag scope n xs false (mark_once law (Start n xs false) End l m rest y i kind (sym w ∙ whole)).0)

-- white space and then an end tag are all
pub white_at_end : KindsAreRead → (white b : Nodes) (old new : Source) (z : List ℕ) → AreWhite white → TagAfter None white old new
    → AreNodes b old.scope old.at old.rest.now z → IsStop z → b ≡ joined white Nothing
white_at_end law white b old new z is_white tag row s =
    let (left, whole, others) = white_passed law white b old.scope old.at tag.at old.rest.now tag.octets z is_white tag.row row tag.place s in
    whole ∙ ap (λ (q : Nodes). joined white q) (nothing_at_end law left old.scope tag.at tag.octets new.rest.now z tag.is.0 others)

-- what is in an element is one row
pub inside_once : KindsAreRead → (b : Bool) (p q : Nodes) (scope : List Item) (at : ℕ) (x y z : List ℕ) → HasInside b p scope at x y
    → HasInside b q scope at x z → Same p q y z
inside_once law true p q scope at x y z (e, f) (g, h) = (e ∙ sym g, sym f ∙ h)
inside_once law false p q scope at x y z (end, r, i) (stop, s, j) =
    let (same, halt) = nodes_once law p q scope at x (end ++ y) (stop ++ z) r s (inr (end, y, i, refl)) (inr (stop, z, j, refl)) in
    (same, (mark_once law End End end stop y z i j halt).2)

-- what follows an element that was read
pub row_after : KindsAreRead → (o : Opened) (white : Nodes) (t : Tag) (b nodes : Nodes) (old mid on : Source) (z : List ℕ)
    → (tag : TagAfter (Some o) white old mid) → IsStart o t old.scope mid.scope tag.at tag.octets mid.rest.now
    → (e : Entered o t b old.scope mid.scope mid.at mid.rest.now z) → InsideRead o.is_empty nodes mid on → on.scope ≡ ended mid.scope
    → AreNodes e.more on.scope on.at on.rest.now z
row_after law o white t b nodes old mid on z tag start e read scope =
    let (same, tail) = inside_once law o.is_empty e.content nodes mid.scope mid.at mid.rest.now e.tail on.rest.now e.within read.row in
    let place : e.to ≡ on.at = omega (arith, e.same, read.moves.same, ap length tail) in
    subst (λ (q : List Item). AreNodes e.more q on.at on.rest.now z) (sym (scope_after o white t old mid on tag start scope))
    (subst (λ (q : ℕ). AreNodes e.more old.scope q on.rest.now z) place
    (subst (λ (q : List ℕ). AreNodes e.more old.scope e.to q z) tail e.row))

-- ---- what one element is after white space

pub alone_inside : (P : Tag → Nodes → Type 0) (o : Opened) (white : Nodes) (t : Tag) (nodes : Nodes) (old mid : Source) (z : List ℕ)
    → (e : EnteredAfter o white t nodes old mid z) → AreWhite white → IsAlone P nodes → P t e.entered.content × AreWhite e.entered.more
alone_inside P o white t nodes old mid z e is_white h =
    subst (IsAlone P) e.entered.is (alone_front P white e.left is_white (subst (IsAlone P) e.whole h))

-- no element is in white space
pub white_inside : (o : Opened) (white : Nodes) (t : Tag) (nodes : Nodes) (old mid : Source) (z : List ℕ) → EnteredAfter o white t nodes old mid z
    → AreWhite nodes → ⊥
white_inside o white t nodes old mid z e h = subst AreWhite e.entered.is (white_front white e.left (subst AreWhite e.whole h))

-- ---- what follows the root

other_first : KindsAreRead → (w : What) (b : Nodes) (scope : List Item) (at on : ℕ) (x y : List ℕ) → Next w at x on y → IsOther w
    → AreNodes b scope at x [] → AreWhite b → ⊥
other_first law w Nothing scope at on x y next other e white =
    let (m, kind, whole) = next.first in some_mark law next.mark m y kind (sym whole ∙ e)
other_first law w (Words u more) scope at on x y next other (n, rest, j, v, r) (white, others) =
    let (m, kind, whole) = next.first in
    let (k, is, words) = words_mark u n rest j in
    by w next.read other (subst (λ (q : Mark). IsWords q u) (mark_once law k next.mark n m rest y is kind (sym v ∙ whole)).0 words)
  where
    by : (a : What) → IsReadAs a next.mark → IsOther a → IsWords next.mark u → ⊥
    by (reading.Tag t) (xs, e, f) o words = subst (λ (q : Mark). IsWords q u) f words
    by reading.End f o words = subst (λ (q : Mark). IsWords q u) f words
    by (reading.Words kind octets) f (t, says, rest) words =
        let text : t ≡ u = words_same (Text kind octets) t u says (subst (λ (q : Mark). IsWords q u) f words) in
        absurd (both_ways (is_white u) (ap is_white (sym text) ∙ rest) white)
    by reading.Other f o words = o
other_first law w (Element tag place inner more) scope at on x y next other e white = white

pub after_refused : KindsAreRead → (w : What) (a b : Nodes) (scope : List Item) (at to on : ℕ) (x y z : List ℕ) → AreWhite a → AreNodes a scope at x y
    → at + length x ≡ to + length y → AreNodes b scope at x [] → Next w to y on z → IsOther w → AreWhite b → ⊥
after_refused law w a b scope at to on x y z is_white row same all next other white =
    let (left, whole, others) = white_passed law a b scope at to x y [] is_white row all same (inl refl) in
    other_first law w left scope to on y z next other others (white_front a left (subst AreWhite whole white))
