-- The elements of a normal packet are nested, and each has each attribute once.
use Rattle.std.proofs.Common.{◌≡◌, ◌≢◌, ◌==◌, ◌≤◌, ◌<◌, ◌&&◌, ◌++◌, ◌∙◌, inl, inr, refl, ℕ, suc, Bool, true, false, not, None, option_map, List, [], ◌∷◌, map, sym, ap, subst, arith, append_assoc}
use Rattle.std.proofs.lemmas.Bool.{and_parts}
use Rattle.std.specs.List.{AllByRecursion}
use Rattle.std.proofs.lemmas.Option.{same_Some}
use Rattle.px_xmp_text.specs.Texts.{normal_text}
use Rattle.px_xmp_text.specs.Values.{Label, Simple, Literal, Uri, Compound, Structure, Bag, Seq, Alt, Content, End, Flat, Nested}
use Rattle.px_xmp_marks.specs.Reading.{Named, Attr, is_space, ncname, name, attributes_of, Start, start_tag}
use Rattle.px_xmp_marks.specs.Grammar.{AreSpaces, IsStartTag, IsEndTag}
use Rattle.px_xmp_marks.specs.Declarations.{every}
use Rattle.px_xmp_marks.specs.Laws.{StartTagsAreRead}
use Rattle.px_xmp_marks.specs.Marks.{IsText, EndsText, IsMark, AreMarks}
use Rattle.px_xmp_markup.specs.Distinct.{AreDistinct, HasDistinct, IsDistinctRow}
use Rattle.px_xmp_markup.specs.Kinds as kinds
use Rattle.px_xmp_markup.specs.Kinds.{Kind, AreKinds}
use Rattle.px_xmp_markup.specs.Nesting as nesting
use Rattle.px_xmp_markup.specs.Nesting.{IsTree, IsRoot, limit, marks}
use Rattle.px_xmp.specs.Readable.{IsShallow, inner_depth}
use Rattle.px_xmp.proofs.StartLaws.{label_named}
use Rattle.px_xmp.proofs.PartLaws.{Part, Begin, Whole, Finish, Words, octets_of, IsPart, AreParts, text_parts, simple_parts, bag_named, seq_named, alt_named, begin_parts, finish_parts, parts_of, meta_named, root_named, description_named, end_parts, packet_parts}

-- ---- kinds

abbrev word_kind : Bool → Kind
word_kind true = kinds.Misc
word_kind false = kinds.Data

abbrev kind_of : Part → Kind
kind_of (Begin n attributes m) = kinds.Opening n
kind_of (Whole n attributes m) = kinds.Alone n
kind_of (Finish n m) = kinds.Closing n
kind_of (Words m) = word_kind (every is_space m)

spaces_from : (x : List ℕ) → every is_space x ≡ true → AreSpaces x
spaces_from [] h = tt
spaces_from (o ∷ x) h = let p = and_parts (is_space o) (every is_space x) h in (p.0, spaces_from x p.1)

not_spaces : (x : List ℕ) → every is_space x ≡ false → AreSpaces x → ⊥
not_spaces [] h k = absurd (cc)
not_spaces (o ∷ x) h k = not_spaces x (sym (ap (λ (b : Bool). b && every is_space x) k.0) ∙ h) k.1

word_is : (b : Bool) (m rest : List ℕ) → every is_space m ≡ b → IsText m → EndsText rest → kinds.IsKind (word_kind b) m rest
word_is true m rest e h k = inr (inr (h, spaces_from m e, k))
word_is false m rest e h k = inr (h, not_spaces m e, k)

kind_is : (p : Part) (rest : List ℕ) → IsPart p rest → kinds.IsKind (kind_of p) (octets_of p) rest
kind_is (Begin n attributes m) rest h = (attributes, h.0)
kind_is (Whole n attributes m) rest h = (attributes, h.0)
kind_is (Finish n m) rest h = h
kind_is (Words m) rest h = word_is (every is_space m) m rest refl h.0 h.1

kinds_are : (ps : List Part) (x : List ℕ) → AreParts ps x → AreKinds (map kind_of ps) x []
kinds_are [] x h = h
kinds_are (p ∷ ps) x (rest, h, e, more) = (octets_of p, rest, kind_is p rest h, e, kinds_are ps rest more)

-- ---- elements

abbrev word_tree : Bool → nesting.Content
word_tree true = nesting.AfterMisc nesting.Nothing
word_tree false = nesting.AfterData nesting.Nothing

abbrev text_tree : List ℕ → nesting.Content
text_tree [] = nesting.Nothing
text_tree (o ∷ t) = word_tree (every is_space (normal_text (o ∷ t)))

abbrev simple_tree : Label → Simple → nesting.Content → nesting.Content
simple_tree l (Literal g t) more = nesting.AfterElement (label_named l) (text_tree t) more
simple_tree l (Uri u) more = nesting.AfterAlone (label_named l) more

abbrev inside_tree : Compound → nesting.Content → nesting.Content
inside_tree Structure inner = inner
inside_tree Bag inner = nesting.AfterElement bag_named inner nesting.Nothing
inside_tree Seq inner = nesting.AfterElement seq_named inner nesting.Nothing
inside_tree Alt inner = nesting.AfterElement alt_named inner nesting.Nothing

abbrev tree_of : Content → nesting.Content
tree_of End = nesting.Nothing
tree_of (Flat l p rest) = simple_tree l p (tree_of rest)
tree_of (Nested l s inner rest) = nesting.AfterElement (label_named l) (inside_tree s (tree_of inner)) (tree_of rest)

word_marks : (b : Bool) (ks : List Kind) → word_kind b ∷ ks ≡ marks (word_tree b) ++ ks
word_marks true ks = refl
word_marks false ks = refl

text_kinds : (t : List ℕ) (ps : List Part) → map kind_of (text_parts t ps) ≡ marks (text_tree t) ++ map kind_of ps
text_kinds [] ps = refl
text_kinds (o ∷ t) ps = word_marks (every is_space (normal_text (o ∷ t))) (map kind_of ps)

-- an element with its content, before others
element_kinds : (n : Named) (inner more : nesting.Content) (ks : List Kind)
    → kinds.Opening n ∷ (marks inner ++ kinds.Closing n ∷ (marks more ++ ks)) ≡ marks (nesting.AfterElement n inner more) ++ ks
element_kinds n inner more ks =
    ap (λ (z : List Kind). kinds.Opening n ∷ z) (sym (append_assoc (marks inner) (kinds.Closing n ∷ marks more) ks))

simple_kinds : (l : Label) (p : Simple) (ps : List Part) (more : nesting.Content) (ks : List Kind) → map kind_of ps ≡ marks more ++ ks
    → map kind_of (simple_parts l p ps) ≡ marks (simple_tree l p more) ++ ks
simple_kinds l (Literal [] t) ps more ks e =
    ap (λ (z : List Kind). kinds.Opening (label_named l) ∷ z) (text_kinds t _)
    ∙ ap (λ (z : List Kind). kinds.Opening (label_named l) ∷ (marks (text_tree t) ++ kinds.Closing (label_named l) ∷ z)) e
    ∙ element_kinds (label_named l) (text_tree t) more ks
simple_kinds l (Literal (o ∷ g) t) ps more ks e =
    ap (λ (z : List Kind). kinds.Opening (label_named l) ∷ z) (text_kinds t _)
    ∙ ap (λ (z : List Kind). kinds.Opening (label_named l) ∷ (marks (text_tree t) ++ kinds.Closing (label_named l) ∷ z)) e
    ∙ element_kinds (label_named l) (text_tree t) more ks
simple_kinds l (Uri u) ps more ks e = ap (λ (z : List Kind). kinds.Alone (label_named l) ∷ z) e

-- an array
array_kinds : (n m : Named) (inner more : nesting.Content) (ks : List Kind)
    → kinds.Opening n ∷ kinds.Opening m ∷ (marks inner ++ kinds.Closing m ∷ kinds.Closing n ∷ (marks more ++ ks))
    ≡ marks (nesting.AfterElement n (nesting.AfterElement m inner nesting.Nothing) more) ++ ks
array_kinds n m inner more ks =
    ap (λ (z : List Kind). kinds.Opening n ∷ z) (element_kinds m inner nesting.Nothing (kinds.Closing n ∷ (marks more ++ ks)))
    ∙ element_kinds n (nesting.AfterElement m inner nesting.Nothing) more ks

nested_kinds : (l : Label) (s : Compound) (ks : List Kind) (ps : List Part) (inner more : nesting.Content) (qs : List Part)
    → map kind_of qs ≡ marks inner ++ map kind_of (finish_parts l s ps) → map kind_of ps ≡ marks more ++ ks
    → map kind_of (begin_parts l s qs) ≡ marks (nesting.AfterElement (label_named l) (inside_tree s inner) more) ++ ks
nested_kinds l Structure ks ps inner more qs e f =
    ap (λ (z : List Kind). kinds.Opening (label_named l) ∷ z)
    (e ∙ ap (λ (z : List Kind). marks inner ++ kinds.Closing (label_named l) ∷ z) f)
    ∙ element_kinds (label_named l) inner more ks
nested_kinds l Bag ks ps inner more qs e f =
    ap (λ (z : List Kind). kinds.Opening (label_named l) ∷ kinds.Opening bag_named ∷ z)
    (e ∙ ap (λ (z : List Kind). marks inner ++ kinds.Closing bag_named ∷ kinds.Closing (label_named l) ∷ z) f)
    ∙ array_kinds (label_named l) bag_named inner more ks
nested_kinds l Seq ks ps inner more qs e f =
    ap (λ (z : List Kind). kinds.Opening (label_named l) ∷ kinds.Opening seq_named ∷ z)
    (e ∙ ap (λ (z : List Kind). marks inner ++ kinds.Closing seq_named ∷ kinds.Closing (label_named l) ∷ z) f)
    ∙ array_kinds (label_named l) seq_named inner more ks
nested_kinds l Alt ks ps inner more qs e f =
    ap (λ (z : List Kind). kinds.Opening (label_named l) ∷ kinds.Opening alt_named ∷ z)
    (e ∙ ap (λ (z : List Kind). marks inner ++ kinds.Closing alt_named ∷ kinds.Closing (label_named l) ∷ z) f)
    ∙ array_kinds (label_named l) alt_named inner more ks

content_kinds : (c : Content) (ps : List Part) → map kind_of (parts_of c ps) ≡ marks (tree_of c) ++ map kind_of ps
content_kinds End ps = refl
content_kinds (Flat l p rest) ps = simple_kinds l p (parts_of rest ps) (tree_of rest) (map kind_of ps) (content_kinds rest ps)
content_kinds (Nested l s inner rest) ps =
    nested_kinds l s (map kind_of ps) (parts_of rest ps) (tree_of inner) (tree_of rest) (parts_of inner (finish_parts l s (parts_of rest ps)))
    (content_kinds inner (finish_parts l s (parts_of rest ps))) (content_kinds rest ps)

-- ---- how deep they are

word_shallow : (b : Bool) (d : ℕ) → nesting.IsShallow d (word_tree b)
word_shallow true d = tt
word_shallow false d = tt

text_shallow : (t : List ℕ) (d : ℕ) → nesting.IsShallow d (text_tree t)
text_shallow [] d = tt
text_shallow (o ∷ t) d = word_shallow (every is_space (normal_text (o ∷ t))) d

simple_shallow : (l : Label) (p : Simple) (d : ℕ) (more : nesting.Content) → d < limit → nesting.IsShallow d more
    → nesting.IsShallow d (simple_tree l p more)
simple_shallow l (Literal g t) d more h k = (h, text_shallow t (suc d), k)
simple_shallow l (Uri u) d more h k = (h, k)

nested_shallow : (l : Label) (s : Compound) (d : ℕ) (inner more : nesting.Content) → inner_depth s d ≤ limit
    → nesting.IsShallow (inner_depth s d) inner → nesting.IsShallow d more
    → nesting.IsShallow d (nesting.AfterElement (label_named l) (inside_tree s inner) more)
nested_shallow l Structure d inner more h k m = (omega (arith, h), k, m)
nested_shallow l Bag d inner more h k m = (omega (arith, h), (omega (arith, h), k, tt), m)
nested_shallow l Seq d inner more h k m = (omega (arith, h), (omega (arith, h), k, tt), m)
nested_shallow l Alt d inner more h k m = (omega (arith, h), (omega (arith, h), k, tt), m)

content_shallow : (c : Content) (d : ℕ) → IsShallow d c → nesting.IsShallow d (tree_of c)
content_shallow End d h = tt
content_shallow (Flat l p rest) d h = simple_shallow l p d (tree_of rest) h.0 (content_shallow rest d h.1)
content_shallow (Nested l s inner rest) d h =
    nested_shallow l s d (tree_of inner) (tree_of rest) h.0 (content_shallow inner (inner_depth s d) h.1) (content_shallow rest d h.2)

-- ---- the tree

abbrev packet_inner : Content → nesting.Content
packet_inner c = nesting.AfterElement root_named (nesting.AfterElement description_named (tree_of c) nesting.Nothing) nesting.Nothing

packet_kinds : (c : Content) → map kind_of (packet_parts c) ≡ kinds.Opening meta_named ∷ (marks (packet_inner c) ++ kinds.Closing meta_named ∷ [])
packet_kinds c =
    ap (λ (z : List Kind). kinds.Opening meta_named ∷ kinds.Opening root_named ∷ kinds.Opening description_named ∷ z) (content_kinds c end_parts)
    ∙ ap (λ (z : List Kind). kinds.Opening meta_named ∷ z) (array_kinds root_named description_named (tree_of c) nesting.Nothing (kinds.Closing meta_named ∷ []))

pub packet_tree : (c : Content) (x : List ℕ) → IsShallow 3 c → AreParts (packet_parts c) x → IsTree x
packet_tree c x h are =
    let root : IsRoot (map kind_of (packet_parts c)) =
    inr (meta_named, packet_inner c, (omega arith, (omega arith, content_shallow c 3 h, tt), tt), packet_kinds c) in
    (map kind_of (packet_parts c), kinds_are (packet_parts c) x are, ([], map kind_of (packet_parts c), [], tt, root, tt, sym (append_nil (map kind_of (packet_parts c)))))
  where
    append_nil : (ks : List Kind) → ks ++ [] ≡ ks
    append_nil [] = refl
    append_nil (k ∷ ks) = ap (λ (z : List Kind). k ∷ z) (append_nil ks)

-- ---- attributes

pub same_attributes : StartTagsAreRead → (x : List ℕ) (n k : Named) (xs ys : List Attr) (a b : Bool) → IsStartTag x n xs a → IsStartTag x k ys b → xs ≡ ys
same_attributes law x n k xs ys a b i j =
    let (t, e, named, has, empty, size) = law x [] n xs a i in
    let (u, f, called, holds, alone, long) = law x [] k ys b j in
    let same : t ≡ u = same_Some t u (sym e ∙ f) in
    same_Some xs ys (sym has ∙ ap (λ (z : Start). option_map (λ (r : List Attr × ℕ). r.0) (attributes_of z.rest)) same ∙ holds)

no_start_47 : (z : List ℕ) → start_tag (60 ∷ 47 ∷ z) ≡ None
unfolding start_tag name ncname
no_start_47 z = refl

pub no_start_end : StartTagsAreRead → (x : List ℕ) (n k : Named) (xs : List Attr) (b : Bool) → IsEndTag x k → IsStartTag x n xs b → ⊥
no_start_end law x n k xs b (y, s, named, spaced, w) i =
    let (t, e, same, has, empty, size) = law x [] n xs b i in
    let wrong = sym (no_start_47 ((y ++ (s ++ 62 ∷ [])) ++ [])) ∙ ap (λ (z : List ℕ). start_tag (z ++ [])) (sym w) ∙ e in absurd (cc)

pub no_less : (x z : List ℕ) → IsText x → x ≢ 60 ∷ z
no_less x z h e =
    let first : AllByRecursion (λ o. not (o == 60) ≡ true) (60 ∷ z) =
    subst (λ (u : List ℕ). AllByRecursion (λ o. not (o == 60) ≡ true) u) e h.inside in
    let wrong : false ≡ true = first.0 in absurd (cc)

part_distinct : StartTagsAreRead → (p : Part) (rest : List ℕ) → IsPart p rest → HasDistinct (octets_of p)
part_distinct law (Begin n xs m) rest h k ys b i = subst AreDistinct (same_attributes law m n k xs ys false b h.0 i) h.1
part_distinct law (Whole n xs m) rest h k ys b i = subst AreDistinct (same_attributes law m n k xs ys true b h.0 i) h.1
part_distinct law (Finish n m) rest h k ys b i = absurd (no_start_end law m k n ys b h i)
part_distinct law (Words m) rest h k ys b (y, z, named, has, w) = absurd (no_less m _ h.0 w)

pub part_mark : (p : Part) (rest : List ℕ) → IsPart p rest → IsMark (octets_of p) rest
part_mark (Begin n xs m) rest h = inl (n, xs, false, h.0)
part_mark (Whole n xs m) rest h = inl (n, xs, true, h.0)
part_mark (Finish n m) rest h = inr (inl (n, h))
part_mark (Words m) rest h = inr (inr (inr (inr (inr h))))

marks_are : (ps : List Part) (x : List ℕ) → AreParts ps x → AreMarks (map octets_of ps) x []
marks_are [] x h = h
marks_are (p ∷ ps) x (rest, h, e, more) = (rest, part_mark p rest h, e, marks_are ps rest more)

all_distinct : StartTagsAreRead → (ps : List Part) (x : List ℕ) → AreParts ps x → AllByRecursion HasDistinct (map octets_of ps)
all_distinct law [] x h = tt
all_distinct law (p ∷ ps) x (rest, h, e, more) = (part_distinct law p rest h, all_distinct law ps rest more)

pub parts_distinct : StartTagsAreRead → (ps : List Part) (x : List ℕ) → AreParts ps x → IsDistinctRow x
parts_distinct law ps x are = (map octets_of ps, marks_are ps x are, all_distinct law ps x are)
