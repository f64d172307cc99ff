-- Octets are one row of nodes.
use Rattle.std.proofs.Common.{◌≡◌, ◌+◌, ◌-◌, ℕ, Bool, true, false, Option, Some, None, List, [], ◌++◌, length, take, drop, refl, sym, ap, subst, ◌∙◌, inl, inr, ◌⊎◌}
use Rattle.std.proofs.lemmas.List.{drop_at, take_at}
use Rattle.std.proofs.lemmas.Option.{same_Some}
use Rattle.px_xmp_text.specs.Texts.{text_of}
use Rattle.px_xmp_marks.specs.Reading.{Named, Attr}
use Rattle.px_xmp_document.specs.Scopes.{Item}
use Rattle.px_xmp.specs.Marks.{Mark, Start, End, Text, Other, IsKind}
use Rattle.px_xmp.specs.Tags.{Tag, tag_of, inside}
use Rattle.px_xmp.specs.Reading as reading
use Rattle.px_xmp.specs.Reading.{Read, read, IsReadAs}
use Rattle.px_xmp.specs.Nodes.{Nodes, Nothing, Words, Element, AreWords, AreNodes}
use Rattle.px_xmp.specs.Laws.{KindsAreRead, OneReading}
use Rattle.px_xmp.proofs.StepLaws.{nothing_read}

read_once : (w : reading.What) (k l : Mark) → IsReadAs w k → IsReadAs w l → k ≡ l
read_once (reading.Tag t) k l (xs, e, f) (ys, g, h) =
    f ∙ ap (λ (z : List Attr). Start t.name z t.is_empty) (same_Some xs ys (sym e ∙ g)) ∙ sym h
read_once reading.End k l e f = e ∙ sym f
read_once (reading.Words kind octets) k l e f = e ∙ sym f
read_once reading.Other k l e f = e ∙ sym f

pub mark_once : KindsAreRead → (k l : Mark) (m n x y : List ℕ) → IsKind k m x → IsKind l n y → m ++ x ≡ n ++ y → (k ≡ l) × (m ≡ n) × (x ≡ y)
mark_once law k l m n x y i j e =
    let (q, f, size, is) = law k m x i in
    let (r, g, long, are) = law l n y j in
    let same : q ≡ r = same_Some q r (sym f ∙ ap read e ∙ g) in
    let len : length m ≡ length n = sym size ∙ ap (λ (z : Read). z.size) same ∙ long in (
      read_once r.what k l (subst (λ (z : Read). IsReadAs z.what k) same is) are,
      sym (take_at m x (length m) refl) ∙ ap (take (length m)) e ∙ take_at n y (length m) (sym len),
      sym (drop_at m x (length m) refl) ∙ ap (drop (length m)) e ∙ drop_at n y (length m) (sym len),
    )

pub some_mark : KindsAreRead → (k : Mark) (m x : List ℕ) → IsKind k m x → m ++ x ≡ [] → ⊥
some_mark law k m x i e = let (q, f, size, is) = law k m x i in let wrong = sym nothing_read ∙ ap read (sym e) ∙ f in absurd (cc)

-- ---- what a mark is

-- the text that a mark is
abbrev pub IsWords : Mark → List ℕ → Type 0
IsWords (Start n attributes empty) t = ⊥
IsWords End t = ⊥
IsWords (Text kind octets) t = text_of kind octets ≡ Some t
IsWords Other t = t ≡ []

pub words_same : (k : Mark) (t u : List ℕ) → IsWords k t → IsWords k u → t ≡ u
words_same (Start n attributes empty) t u e f = absurd e
words_same End t u e f = absurd e
words_same (Text kind octets) t u e f = same_Some t u (sym e ∙ f)
words_same Other t u e f = e ∙ sym f

abbrev pub WordsMark : List ℕ → List ℕ → List ℕ → Type 0
WordsMark t m x = (k : Mark) × IsKind k m x × IsWords k t

pub words_mark : (t m x : List ℕ) → AreWords t m x → WordsMark t m x
words_mark t m x (inl (kind, octets, i, e)) = (Text kind octets, i, e)
words_mark t m x (inr (i, e)) = (Other, i, e)

abbrev pub tag_in : List Item → Mark → Option Tag
tag_in scope (Start n attributes empty) = Some (tag_of scope n attributes)
tag_in scope End = None
tag_in scope (Text kind octets) = None
tag_in scope Other = None

abbrev pub inner_in : List Item → Mark → List Item
inner_in scope (Start n attributes empty) = inside scope attributes
inner_in scope End = []
inner_in scope (Text kind octets) = []
inner_in scope Other = []

abbrev pub is_alone : Mark → Bool
is_alone (Start n attributes empty) = empty
is_alone End = false
is_alone (Text kind octets) = false
is_alone Other = false

-- nothing, or an end tag
abbrev pub IsStop : List ℕ → Type 0
IsStop y = (y ≡ []) ⊎ ((e t : List ℕ) × IsKind End e t × (y ≡ e ++ t))

pub at_stop : KindsAreRead → (k : Mark) (m x : List ℕ) → IsKind k m x → IsStop (m ++ x) → k ≡ End
at_stop law k m x i (inl e) = absurd (some_mark law k m x i e)
at_stop law k m x i (inr (e, t, j, w)) = (mark_once law k End m e x t i j w).0

pub words_stop : KindsAreRead → (t m x : List ℕ) → AreWords t m x → IsStop (m ++ x) → ⊥
words_stop law t m x i s =
    let (k, j, words) = words_mark t m x i in subst (λ (z : Mark). IsWords z t) (at_stop law k m x j s) words

pub no_tag : (scope : List Item) (n : Named) (xs : List Attr) (b : Bool) → Start n xs b ≡ End → ⊥
no_tag scope n xs b e = let wrong = ap (tag_in scope) e in absurd (cc)

pub words_start : KindsAreRead → (t m x : List ℕ) (n : Named) (xs : List Attr) (b : Bool) (l y : List ℕ) → AreWords t m x → IsKind (Start n xs b) l y
    → m ++ x ≡ l ++ y → ⊥
words_start law t m x n xs b l y i j e =
    let (k, is, words) = words_mark t m x i in
    subst (λ (z : Mark). IsWords z t) (mark_once law k (Start n xs b) m l x y is j e).0 words

-- ---- rows

abbrev pub Same : Nodes → Nodes → List ℕ → List ℕ → Type 0
Same a b y z = (a ≡ b) × (y ≡ z)

-- the tag at the start of an element, and the octets that follow it
abbrev pub IsOpen : List Item → Tag → Named → List Attr → Bool → List ℕ → List ℕ → List ℕ → Type 0
IsOpen scope tag n xs b m rest x = (tag ≡ tag_of scope n xs) × (x ≡ m ++ rest) × IsKind (Start n xs b) m rest

-- two tags at the start are one
pub tag_once : KindsAreRead → (scope : List Item) (s t : Tag) (n k : Named) (xs ys : List Attr) (b c : Bool) (m rest l tail x : List ℕ)
    → IsOpen scope s n xs b m rest x → IsOpen scope t k ys c l tail x
    → (s ≡ t) × (m ≡ l) × (rest ≡ tail) × (b ≡ c) × (inside scope xs ≡ inside scope ys)
tag_once law scope s t n k xs ys b c m rest l tail x (e, w, i) (f, v, j) =
    let (same, octets, follow) = mark_once law (Start n xs b) (Start k ys c) m l rest tail i j (sym w ∙ v) in (
      e ∙ same_Some (tag_of scope n xs) (tag_of scope k ys) (ap (tag_in scope) same) ∙ sym f,
      octets,
      follow,
      ap is_alone same,
      ap (inner_in scope) same,
    )

pub nodes_once : KindsAreRead → (a b : Nodes) (scope : List Item) (at : ℕ) (x y z : List ℕ) → AreNodes a scope at x y → AreNodes b scope at x z
    → IsStop y → IsStop z → Same a b y z
nodes_once law Nothing Nothing scope at x y z e f s t = (refl, sym e ∙ f)
nodes_once law Nothing (Words u more) scope at x y z e (m, rest, i, w, r) s t =
    absurd (words_stop law u m rest i (subst (λ (q : List ℕ). IsStop q) (sym e ∙ w) s))
nodes_once law Nothing (Element tag place inner more) scope at x y z e (n, xs, m, rest, same, here, w, inl (i, none, r)) s t =
    absurd (no_tag scope n xs true (at_stop law (Start n xs true) m rest i (subst (λ (q : List ℕ). IsStop q) (sym e ∙ w) s)))
nodes_once law Nothing (Element tag place inner more) scope at x y z e (n, xs, m, rest, same, here, w, inr (end, tail, i, q, ends, r)) s t =
    absurd (no_tag scope n xs false (at_stop law (Start n xs false) m rest i (subst (λ (v : List ℕ). IsStop v) (sym e ∙ w) s)))
nodes_once law (Words u more) Nothing scope at x y z (m, rest, i, w, r) e s t =
    absurd (words_stop law u m rest i (subst (λ (q : List ℕ). IsStop q) (sym e ∙ w) t))
nodes_once law (Words u more) (Words v others) scope at x y z (m, rest, i, w, r) (n, tail, j, q, p) s t =
    let (k, is, words) = words_mark u m rest i in
    let (l, are, said) = words_mark v n tail j in
    let (same, octets, follow) = mark_once law k l m n rest tail is are (sym w ∙ q) in
    let text : u ≡ v = words_same l u v (subst (λ (h : Mark). IsWords h u) same words) said in
    let moved : AreNodes others scope (at + length m) rest z =
    subst (λ (h : List ℕ). AreNodes others scope (at + length m) h z) (sym follow)
    (subst (λ (h : List ℕ). AreNodes others scope (at + length h) tail z) (sym octets) p) in
    let (after, end) = nodes_once law more others scope (at + length m) rest y z r moved s t in
    (ap (λ (h : List ℕ). Words h more) text ∙ ap (λ (h : Nodes). Words v h) after, end)
nodes_once law (Words u more) (Element tag place inner others) scope at x y z (m, rest, i, w, r) (n, xs, l, tail, same, here, q, inl (j, none, p)) s t =
    absurd (words_start law u m rest n xs true l tail i j (sym w ∙ q))
nodes_once law (Words u more) (Element tag place inner others) scope at x y z (m, rest, i, w, r) (n, xs, l, tail, same, here, q, inr (end, left, j, c, ends, p)) s t =
    absurd (words_start law u m rest n xs false l tail i j (sym w ∙ q))
nodes_once law (Element tag place inner more) Nothing scope at x y z (n, xs, m, rest, same, here, w, inl (i, none, r)) e s t =
    absurd (no_tag scope n xs true (at_stop law (Start n xs true) m rest i (subst (λ (q : List ℕ). IsStop q) (sym e ∙ w) t)))
nodes_once law (Element tag place inner more) Nothing scope at x y z (n, xs, m, rest, same, here, w, inr (end, tail, i, q, ends, r)) e s t =
    absurd (no_tag scope n xs false (at_stop law (Start n xs false) m rest i (subst (λ (v : List ℕ). IsStop v) (sym e ∙ w) t)))
nodes_once law (Element tag place inner more) (Words v others) scope at x y z (n, xs, m, rest, same, here, w, inl (i, none, r)) (l, tail, j, q, p) s t =
    absurd (words_start law v l tail n xs true m rest j i (sym q ∙ w))
nodes_once law (Element tag place inner more) (Words v others) scope at x y z (n, xs, m, rest, same, here, w, inr (end, left, i, c, ends, r)) (l, tail, j, q, p) s t =
    absurd (words_start law v l tail n xs false m rest j i (sym q ∙ w))
nodes_once law (Element tag place inner more) (Element mark site content others) scope at x y z (n, xs, m, rest, same, here, w, inl (i, none, r)) (k, ys, l, tail, like, there, q, inl (j, nothing, p)) s t =
    let (tags, octets, follow, alone, scopes) = tag_once law scope tag mark n k xs ys true true m rest l tail x (same, w, i) (like, q, j) in
    let moved : AreNodes others scope (at + length m) rest z =
    subst (λ (h : List ℕ). AreNodes others scope (at + length m) h z) (sym follow)
    (subst (λ (h : List ℕ). AreNodes others scope (at + length h) tail z) (sym octets) p) in
    let (after, end) = nodes_once law more others scope (at + length m) rest y z r moved s t in (
      ap (λ (h : Tag). Element h place inner more) tags ∙ ap (λ (h : ℕ). Element mark h inner more) (here ∙ sym there)
          ∙ ap (λ (h : Nodes). Element mark site h more) (none ∙ sym nothing) ∙ ap (λ (h : Nodes). Element mark site content h) after,
      end,
    )
nodes_once law (Element tag place inner more) (Element mark site content others) scope at x y z (n, xs, m, rest, same, here, w, inl (i, none, r)) (k, ys, l, tail, like, there, q, inr (end, left, j, c, ends, p)) s t =
    let (tags, octets, follow, alone, scopes) = tag_once law scope tag mark n k xs ys true false m rest l tail x (same, w, i) (like, q, j) in
    absurd (cc)
nodes_once law (Element tag place inner more) (Element mark site content others) scope at x y z (n, xs, m, rest, same, here, w, inr (end, left, i, c, ends, r)) (k, ys, l, tail, like, there, q, inl (j, nothing, p)) s t =
    let (tags, octets, follow, alone, scopes) = tag_once law scope tag mark n k xs ys false true m rest l tail x (same, w, i) (like, q, j) in
    absurd (cc)
nodes_once law (Element tag place inner more) (Element mark site content others) scope at x y z (n, xs, m, rest, same, here, w, inr (end, left, i, c, ends, r)) (k, ys, l, tail, like, there, q, inr (stop, over, j, d, stops, p)) s t =
    let (tags, octets, follow, alone, scopes) = tag_once law scope tag mark n k xs ys false false m rest l tail x (same, w, i) (like, q, j) in
    let moved : AreNodes content (inside scope xs) (at + length m) rest (stop ++ over) =
    subst (λ (h : List Item). AreNodes content h (at + length m) rest (stop ++ over)) (sym scopes)
    (subst (λ (h : List ℕ). AreNodes content (inside scope ys) (at + length m) h (stop ++ over)) (sym follow)
    (subst (λ (h : List ℕ). AreNodes content (inside scope ys) (at + length h) tail (stop ++ over)) (sym octets) d)) in
    let (within, halt) = nodes_once law inner content (inside scope xs) (at + length m) rest (end ++ left) (stop ++ over) c moved
    (inr (end, left, ends, refl)) (inr (stop, over, stops, refl)) in
    let (kind, closed, beyond) = mark_once law End End end stop left over ends stops halt in
    let others_moved : AreNodes others scope (at + (length x - length left)) left z =
    subst (λ (h : List ℕ). AreNodes others scope (at + (length x - length h)) h z) (sym beyond) p in
    let (after, last) = nodes_once law more others scope (at + (length x - length left)) left y z r others_moved s t in (
      ap (λ (h : Tag). Element h place inner more) tags ∙ ap (λ (h : ℕ). Element mark h inner more) (here ∙ sym there)
          ∙ ap (λ (h : Nodes). Element mark site h more) within ∙ ap (λ (h : Nodes). Element mark site content h) after,
      last,
    )

pub one_reading : KindsAreRead → OneReading
one_reading law x at a b e f = (nodes_once law a b [] at x [] [] e f (inl refl) (inl refl)).0
