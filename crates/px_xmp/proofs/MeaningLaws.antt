-- Nodes mean one thing.
use Rattle.std.proofs.Common.{◌≡◌, ◌≢◌, ◌++◌, ◌==◌, ◌∙◌, inl, inr, refl, ℕ, Bool, true, false, Option, Some, None, List, [], ◌∷◌, codes, sym, ap, subst, eq-eqb, eqb-true}
use Rattle.std.specs.List.{AllByRecursion}
use Rattle.std.specs.List.Sorted.{IsPermutation}
use Rattle.std.proofs.lemmas.List.Sorted.{IsPermutation-sym, All-permutation}
use Rattle.std.proofs.lemmas.List.Elements.{All-from_recursion, recursion_from_All}
use Rattle.px_xmp_text.specs.Texts.{text_of}
use Rattle.px_xmp_text.specs.declared.pieces.TextKind.TheVariants.{AttributeValue}
use Rattle.std.specs.Bool.{⊤}
use Rattle.std.proofs.lemmas.Option.{same_Some}
use Rattle.std.proofs.lemmas.Bool.{and_parts}
use Rattle.px_xmp_text.specs.Values.{Label, Uri, Compound, Structure, Bag, Seq, Alt, Content, End, IsContent, PacketIsInjective}
use Rattle.px_xmp_document.specs.Scopes.{is_same}
use Rattle.px_xmp_forms.specs.Entries.{Value, Plain, Inside, Entry, before, row}
use Rattle.px_xmp.specs.Names.{Name, is_rdf, is_root, rdf_space}
use Rattle.px_xmp.specs.Tags.{Field, Tag, inherited}
use Rattle.px_xmp.specs.Nodes.{Nodes, Nothing, Words, Element}
use Rattle.px_xmp.specs.Meaning.{IsText, literal, label_in, IsRow, AreAttributes, HasAttributes}
use Rattle.px_xmp.specs.Meaning.{IsLiteral, IsResource, IsParsed, IsUri, IsDescribed, IsValue, AreEntries, IsNode, without_about, AreSubjects, IsRdf, IsAlone}
use Rattle.px_xmp.specs.Laws.{NodesMeanOnce}
use Rattle.px_xmp.proofs.OrderLaws.{sorted_once}

-- ---- what can be written

abbrev pub Can : Entry → Type 0
Can e = IsContent (before e.label e.value End)

abbrev pub CanAll : List Entry → Type 0
CanAll es = AllByRecursion Can es

pub row_parts : (l : Label) (v : Value) (c : Content) → IsContent (before l v c) → IsContent (before l v End) × IsContent c
row_parts l (Plain p) c k = ((k.0, k.1, tt), k.2)
row_parts l (Inside s inner) c k = ((k.0, k.1, tt), k.2)

can_row : (es : List Entry) → IsContent (row es) → CanAll es
can_row [] h = tt
can_row (e ∷ es) h = let parts = row_parts e.label e.value (row es) h in (parts.0, can_row es parts.1)

pub can_append : (es fs : List Entry) → CanAll (es ++ fs) → CanAll fs
can_append [] fs h = h
can_append (e ∷ es) fs h = can_append es fs h.1

pub can_front : (es fs : List Entry) → CanAll (es ++ fs) → CanAll es
can_front [] fs h = tt
can_front (e ∷ es) fs h = (h.0, can_front es fs h.1)

can_moved : (es fs : List Entry) → IsPermutation es fs → CanAll fs → CanAll es
can_moved es fs h can =
    recursion_from_All Can es (All-permutation Can fs es (IsPermutation-sym es fs h) (All-from_recursion Can fs can))

-- what is inside a value
abbrev pub CanValue : Value → Type 0
CanValue (Plain p) = ⊤
CanValue (Inside s c) = IsContent c

pub value_can : (l : Label) (v : Value) → IsContent (before l v End) → CanValue v
value_can l (Plain p) h = tt
value_can l (Inside s c) h = h.1

pub inside_can : (v : Value) (s : Compound) (c : Content) → v ≡ Inside s c → CanValue v → IsContent c
inside_can v s c e h = subst CanValue e h

-- ---- rows

row_once : PacketIsInjective → (s : Compound) (es : List Entry) (c d : Content) → IsRow s es c → IsRow s es d → IsContent c → IsContent d → c ≡ d
row_once law Structure es c d (fs, (one, h), e) (gs, (other, k), f) p q =
    e ∙ sorted_once law es fs gs h k (subst IsContent e p) (subst IsContent f q) ∙ sym f
row_once law Bag es c d (fs, h, e) (gs, k, f) p q = e ∙ sorted_once law es fs gs h k (subst IsContent e p) (subst IsContent f q) ∙ sym f
row_once law Seq es c d (fs, h, e) (gs, k, f) p q = e ∙ ap row (h ∙ sym k) ∙ sym f
row_once law Alt es c d (fs, h, e) (gs, k, f) p q = e ∙ ap row (h ∙ sym k) ∙ sym f

pub row_can : (s : Compound) (es : List Entry) (c : Content) → IsRow s es c → IsContent c → CanAll es
row_can Structure es c (fs, (one, h), e) p = can_moved es fs h.same (can_row fs (subst IsContent e p))
row_can Bag es c (fs, h, e) p = can_moved es fs h.same (can_row fs (subst IsContent e p))
row_can Seq es c (fs, h, e) p = subst CanAll h (can_row fs (subst IsContent e p))
row_can Alt es c (fs, h, e) p = subst CanAll h (can_row fs (subst IsContent e p))

-- ---- texts and attributes

text_once : (nodes : Nodes) (t u : List ℕ) → IsText nodes t → IsText nodes u → t ≡ u
text_once Nothing t u e f = e ∙ sym f
text_once (Words w more) t u (a, e, p) (b, f, q) = e ∙ ap (λ (z : List ℕ). w ++ z) (text_once more a b p q) ∙ sym f
text_once (Element tag place inner more) t u e f = absurd e

abbrev entry_of : Label → Value → ℕ → Entry
entry_of l v place = record { label = l; value = v; place = place }

entry_once : (a b : Label) (v w : Value) (place : ℕ) (es fs : List Entry) → a ≡ b → v ≡ w → es ≡ fs → entry_of a v place ∷ es ≡ entry_of b w place ∷ fs
entry_once a b v w place es fs e f g =
    ap (λ (z : Label). entry_of z v place ∷ es) e ∙ ap (λ (z : Value). entry_of b z place ∷ es) f
    ∙ ap (λ (z : List Entry). entry_of b w place ∷ z) g

pub attributes_once : (l : List ℕ) (place : ℕ) (fields : List Field) (es fs : List Entry) → AreAttributes l place fields es
    → AreAttributes l place fields fs → es ≡ fs
attributes_once l place [] es fs e f = e ∙ sym f
attributes_once l place (x ∷ fields) es fs (a, t, more, named, text, e, rest) (b, u, others, called, word, f, after) =
    e ∙ entry_once a b (literal l t) (literal l u) place more others (same_Some a b (sym named ∙ called))
    (ap (literal l) (same_Some t u (sym text ∙ word))) (attributes_once l place fields more others rest after) ∙ sym f

pub has_once : (s : Compound) (l : List ℕ) (place : ℕ) (fields : List Field) (es fs : List Entry) → HasAttributes s l place fields es
    → HasAttributes s l place fields fs → es ≡ fs
has_once Structure l place fields es fs h k = attributes_once l place fields es fs h k
has_once Bag l place fields es fs h k = h.1 ∙ sym k.1
has_once Seq l place fields es fs h k = h.1 ∙ sym k.1
has_once Alt l place fields es fs h k = h.1 ∙ sym k.1

-- ---- names

abbrev pub name_in : List ℕ → List ℕ → Name
name_in space local = record { space = space; local = local }

pub same_octets : (x y : List ℕ) → is_same x y ≡ true → x ≡ y
same_octets [] [] h = refl
same_octets [] (o ∷ y) h = absurd (cc)
same_octets (o ∷ x) [] h = absurd (cc)
same_octets (o ∷ x) (p ∷ y) h =
    let parts = and_parts (o == p) (is_same x y) h in
    ap (λ (n : ℕ). n ∷ x) (eqb-true o p parts.0) ∙ ap (λ (z : List ℕ). p ∷ z) (same_octets x y parts.1)

pub rdf_name : (local : List ℕ) (n : Name) → is_rdf local n ≡ true → n ≡ name_in rdf_space local
rdf_name local n h =
    let parts = and_parts (is_same n.local local) (is_same n.space rdf_space) h in
    ap (λ (z : List ℕ). name_in n.space z) (same_octets n.local local parts.0)
    ∙ ap (λ (z : List ℕ). name_in z local) (same_octets n.space rdf_space parts.1)

-- ---- by the attributes of an element it has one production

abbrev pub way_if : Bool → Bool → ℕ
way_if true b = 1
way_if false true = 2
way_if false false = 3

abbrev pub way_by : Name → ℕ
way_by n = way_if (is_rdf (codes "parseType") n) (is_rdf (codes "resource") n)

abbrev pub way_of : List Field → ℕ
way_of [] = 0
way_of (f ∷ []) = way_by f.name
way_of (f ∷ g ∷ more) = 3

pub parsed_way : (fields : List Field) (f : Field) → fields ≡ f ∷ [] → is_rdf (codes "parseType") f.name ≡ true → way_of fields ≡ 1
parsed_way fields f e h = ap way_of e ∙ ap way_by (rdf_name (codes "parseType") f.name h)

pub uri_way : (fields : List Field) (f : Field) → fields ≡ f ∷ [] → is_rdf (codes "resource") f.name ≡ true → way_of fields ≡ 2
uri_way fields f e h = ap way_of e ∙ ap way_by (rdf_name (codes "resource") f.name h)

-- no property has a name of the syntax
pub no_property : (local : List ℕ) (n : Name) (label : Label) → label_in Structure (name_in rdf_space local) ≡ None → is_rdf local n ≡ true
    → label_in Structure n ≡ Some label → ⊥
no_property local n label none h k =
    let wrong : None ≡ Some label = sym none ∙ sym (ap (label_in Structure) (rdf_name local n h)) ∙ k in absurd (cc)

way_by_property : (n : Name) (label : Label) → label_in Structure n ≡ Some label → way_by n ≡ 3
way_by_property n label h = choose (is_rdf (codes "parseType") n) (is_rdf (codes "resource") n) refl refl
  where
    choose : (a b : Bool) → is_rdf (codes "parseType") n ≡ a → is_rdf (codes "resource") n ≡ b → way_if a b ≡ 3
    choose true b e f = absurd (no_property (codes "parseType") n label refl e h)
    choose false true e f = absurd (no_property (codes "resource") n label refl f h)
    choose false false e f = refl

pub described_way : (l : List ℕ) (place : ℕ) (fields : List Field) (es : List Entry) → fields ≢ [] → AreAttributes l place fields es → way_of fields ≡ 3
described_way l place [] es some h = absurd (some refl)
described_way l place (f ∷ []) es some (label, t, more, named, text, e, rest) = way_by_property f.name label named
described_way l place (f ∷ g ∷ fields) es some h = refl

pub ways_clash : (fields : List Field) (m n : ℕ) → way_of fields ≡ m → way_of fields ≡ n → (m == n) ≡ false → ⊥
ways_clash fields m n e f h = let same = eq-eqb m n (sym e ∙ f) in absurd (cc)

-- ---- values

abbrev NodeOnce : (Compound → Content → Type 0) → Type 0
NodeOnce IsInside = (s t : Compound) (c d : Content) → IsInside s c → IsInside t d → IsContent c → IsContent d → (s ≡ t) × (c ≡ d)

abbrev EntriesOnce : (List Entry → Type 0) → Type 0
EntriesOnce AreInside = (es fs : List Entry) → AreInside es → AreInside fs → CanAll es → CanAll fs → es ≡ fs

abbrev NoNode : Nodes → (Compound → Content → Type 0) → Type 0
NoNode inner IsInside = (t : List ℕ) (s : Compound) (c : Content) → IsText inner t → IsInside s c → ⊥

inside_once : (v w : Value) (s t : Compound) (c d : Content) → v ≡ Inside s c → w ≡ Inside t d → (s ≡ t) × (c ≡ d) → v ≡ w
inside_once v w s t c d e f g = e ∙ ap (λ (z : Compound). Inside z c) g.0 ∙ ap (λ (z : Content). Inside t z) g.1 ∙ sym f

module _ (law : PacketIsInjective) (l : List ℕ) (place : ℕ) (fields : List Field) (inner : Nodes) (IsInside : Compound → Content → Type 0)
    (AreInside : List Entry → Type 0) where
  abbrev value_way : (v : Value) → IsValue l place fields inner IsInside AreInside v → ℕ
  value_way v (inl h) = 0
  value_way v (inr (inl h)) = 0
  value_way v (inr (inr (inl h))) = 1
  value_way v (inr (inr (inr (inl h)))) = 2
  value_way v (inr (inr (inr (inr h)))) = 3

  way_is : (v : Value) (h : IsValue l place fields inner IsInside AreInside v) → way_of fields ≡ value_way v h
  way_is v (inl h) = ap way_of h.0
  way_is v (inr (inl h)) = ap way_of h.0
  way_is v (inr (inr (inl (f, one, named, is, es, c, p, r, e)))) = parsed_way fields f one named
  way_is v (inr (inr (inr (inl (f, one, named, whole, white, t, text, e))))) = uri_way fields f one named
  way_is v (inr (inr (inr (inr (some, white, es, c, attributes, r, e))))) = described_way l place fields es some attributes

  apart : (v w : Value) (h : IsValue l place fields inner IsInside AreInside v) (k : IsValue l place fields inner IsInside AreInside w)
      → (value_way v h == value_way w k) ≡ false → ⊥
  apart v w h k e = ways_clash fields (value_way v h) (value_way w k) (way_is v h) (way_is w k) e

  parsed_once : EntriesOnce AreInside → (v w : Value) → IsParsed fields AreInside v → IsParsed fields AreInside w → CanValue v → CanValue w → v ≡ w
  parsed_once once v w (f, one, named, is, es, c, p, r, e) (g, other, called, are, fs, d, q, k, h) can could =
      let i : IsContent c = inside_can v Structure c e can in
      let j : IsContent d = inside_can w Structure d h could in
      let same : es ≡ fs = once es fs p q (row_can Structure es c r i) (row_can Structure fs d k j) in
      inside_once v w Structure Structure c d e h
      (refl, row_once law Structure es c d r (subst (λ (z : List Entry). IsRow Structure z d) (sym same) k) i j)

  described_once : (v w : Value) → IsDescribed l place fields inner v → IsDescribed l place fields inner w → CanValue v → CanValue w → v ≡ w
  described_once v w (some, white, es, c, p, r, e) (others, blank, fs, d, q, k, h) can could =
      let i : IsContent c = inside_can v Structure c e can in
      let j : IsContent d = inside_can w Structure d h could in
      let same : es ≡ fs = attributes_once l place fields es fs p q in
      inside_once v w Structure Structure c d e h
      (refl, row_once law Structure es c d r (subst (λ (z : List Entry). IsRow Structure z d) (sym same) k) i j)

  uri_once : (v w : Value) → IsUri fields inner v → IsUri fields inner w → v ≡ w
  uri_once v w (f, one, named, whole, white, t, text, e) (g, other, called, all, blank, u, word, h) =
      let same : f ∷ [] ≡ g ∷ [] = sym one ∙ other in
      let values : f.value ≡ g.value = ap (λ (z : List Field). first_value z) same in
      e ∙ ap (λ (z : List ℕ). Plain (Uri z)) (same_Some t u (sym text ∙ ap (text_of AttributeValue) values ∙ word)) ∙ sym h
    where
      first_value : List Field → List ℕ
      first_value [] = []
      first_value (z ∷ more) = z.value

  literal_once : (v w : Value) → IsLiteral l fields inner v → IsLiteral l fields inner w → v ≡ w
  literal_once v w (n, t, is, e) (m, u, are, f) = e ∙ ap (λ (z : List ℕ). literal l z) (text_once inner t u is are) ∙ sym f

  resource_once : NodeOnce IsInside → (v w : Value) → IsResource fields IsInside v → IsResource fields IsInside w → CanValue v → CanValue w → v ≡ w
  resource_once once v w (n, s, c, i, e) (m, t, d, j, f) can could =
      inside_once v w s t c d e f (once s t c d i j (inside_can v s c e can) (inside_can w t d f could))

  pub value_once : NodeOnce IsInside → EntriesOnce AreInside → NoNode inner IsInside → (v w : Value)
      → IsValue l place fields inner IsInside AreInside v → IsValue l place fields inner IsInside AreInside w → CanValue v → CanValue w → v ≡ w
  value_once once all none v w (inl h) (inl k) can could = literal_once v w h k
  value_once once all none v w (inl (n, t, is, e)) (inr (inl (m, s, c, j, f))) can could = absurd (none t s c is j)
  value_once once all none v w (inl h) (inr (inr (inl k))) can could = absurd (apart v w (inl h) (inr (inr (inl k))) refl)
  value_once once all none v w (inl h) (inr (inr (inr (inl k)))) can could = absurd (apart v w (inl h) (inr (inr (inr (inl k)))) refl)
  value_once once all none v w (inl h) (inr (inr (inr (inr k)))) can could = absurd (apart v w (inl h) (inr (inr (inr (inr k)))) refl)
  value_once once all none v w (inr (inl (m, s, c, j, f))) (inl (n, t, is, e)) can could = absurd (none t s c is j)
  value_once once all none v w (inr (inl h)) (inr (inl k)) can could = resource_once once v w h k can could
  value_once once all none v w (inr (inl h)) (inr (inr (inl k))) can could = absurd (apart v w (inr (inl h)) (inr (inr (inl k))) refl)
  value_once once all none v w (inr (inl h)) (inr (inr (inr (inl k)))) can could = absurd (apart v w (inr (inl h)) (inr (inr (inr (inl k)))) refl)
  value_once once all none v w (inr (inl h)) (inr (inr (inr (inr k)))) can could = absurd (apart v w (inr (inl h)) (inr (inr (inr (inr k)))) refl)
  value_once once all none v w (inr (inr (inl h))) (inl k) can could = absurd (apart v w (inr (inr (inl h))) (inl k) refl)
  value_once once all none v w (inr (inr (inl h))) (inr (inl k)) can could = absurd (apart v w (inr (inr (inl h))) (inr (inl k)) refl)
  value_once once all none v w (inr (inr (inl h))) (inr (inr (inl k))) can could = parsed_once all v w h k can could
  value_once once all none v w (inr (inr (inl h))) (inr (inr (inr (inl k)))) can could = absurd (apart v w (inr (inr (inl h))) (inr (inr (inr (inl k)))) refl)
  value_once once all none v w (inr (inr (inl h))) (inr (inr (inr (inr k)))) can could = absurd (apart v w (inr (inr (inl h))) (inr (inr (inr (inr k)))) refl)
  value_once once all none v w (inr (inr (inr (inl h)))) (inl k) can could = absurd (apart v w (inr (inr (inr (inl h)))) (inl k) refl)
  value_once once all none v w (inr (inr (inr (inl h)))) (inr (inl k)) can could = absurd (apart v w (inr (inr (inr (inl h)))) (inr (inl k)) refl)
  value_once once all none v w (inr (inr (inr (inl h)))) (inr (inr (inl k))) can could = absurd (apart v w (inr (inr (inr (inl h)))) (inr (inr (inl k))) refl)
  value_once once all none v w (inr (inr (inr (inl h)))) (inr (inr (inr (inl k)))) can could = uri_once v w h k
  value_once once all none v w (inr (inr (inr (inl h)))) (inr (inr (inr (inr k)))) can could = absurd (apart v w (inr (inr (inr (inl h)))) (inr (inr (inr (inr k)))) refl)
  value_once once all none v w (inr (inr (inr (inr h)))) (inl k) can could = absurd (apart v w (inr (inr (inr (inr h)))) (inl k) refl)
  value_once once all none v w (inr (inr (inr (inr h)))) (inr (inl k)) can could = absurd (apart v w (inr (inr (inr (inr h)))) (inr (inl k)) refl)
  value_once once all none v w (inr (inr (inr (inr h)))) (inr (inr (inl k))) can could = absurd (apart v w (inr (inr (inr (inr h)))) (inr (inr (inl k))) refl)
  value_once once all none v w (inr (inr (inr (inr h)))) (inr (inr (inr (inl k)))) can could = absurd (apart v w (inr (inr (inr (inr h)))) (inr (inr (inr (inl k)))) refl)
  value_once once all none v w (inr (inr (inr (inr h)))) (inr (inr (inr (inr k)))) can could = described_once v w h k can could

-- ---- nodes

pub no_node : (l : List ℕ) (nodes : Nodes) (t : List ℕ) (s : Compound) (c : Content) → IsText nodes t → IsNode l nodes s c → ⊥
no_node l Nothing t s c h k = absurd k
no_node l (Words w more) t s c (u, e, h) k = no_node l more u s c h k.1
no_node l (Element tag place inner more) t s c h k = absurd h

mutual
  pub entries_once : PacketIsInjective → (s : Compound) (l : List ℕ) (nodes : Nodes) (es fs : List Entry) → AreEntries s l nodes es → AreEntries s l nodes fs
      → CanAll es → CanAll fs → es ≡ fs
  entries_once law s l Nothing es fs e f can could = e ∙ sym f
  entries_once law s l (Words t more) es fs e f can could = entries_once law s l more es fs e.1 f.1 can could
  entries_once law s l (Element tag place inner more) es fs (declares, a, v, others, named, e, rest, is) (speaks, b, w, more_others, called, f, after, are) can could =
      let language : List ℕ = inherited l tag.language in
      let i : CanAll (entry_of a v place ∷ others) = subst CanAll e can in
      let j : CanAll (entry_of b w place ∷ more_others) = subst CanAll f could in
      let values : v ≡ w = value_once law language place tag.fields inner (IsNode language inner) (AreEntries Structure language inner)
      (λ s t c d p q x y. node_once law language inner s t c d p q x y) (λ es fs p q x y. entries_once law Structure language inner es fs p q x y)
      (λ t s c p q. no_node language inner t s c p q) v w is are (value_can a v i.0) (value_can b w j.0) in
      e ∙ entry_once a b v w place others more_others (same_Some a b (sym named ∙ called)) values
      (entries_once law s l more others more_others rest after i.1 j.1) ∙ sym f

  pub node_once : PacketIsInjective → (l : List ℕ) (nodes : Nodes) (s t : Compound) (c d : Content) → IsNode l nodes s c → IsNode l nodes t d
      → IsContent c → IsContent d → (s ≡ t) × (c ≡ d)
  node_once law l Nothing s t c d e f can could = absurd e
  node_once law l (Words u more) s t c d e f can could = node_once law l more s t c d e.1 f.1 can could
  node_once law l (Element tag place inner more) s t c d (declares, named, white, fs, es, p, q, r) (speaks, called, blank, gs, hs, x, y, z) can could =
      let language : List ℕ = inherited l tag.language in
      let same : s ≡ t = same_Some s t (sym named ∙ called) in
      let fields : fs ≡ gs = has_once s language place tag.fields fs gs p
      (subst (λ (k : Compound). HasAttributes k language place tag.fields gs) (sym same) x) in
      let elements : es ≡ hs = entries_once law s language inner es hs q (subst (λ (k : Compound). AreEntries k language inner hs) (sym same) y)
      (can_append fs es (row_can s (fs ++ es) c r can)) (can_append gs hs (row_can t (gs ++ hs) d z could)) in
      let all : fs ++ es ≡ gs ++ hs = ap (λ (k : List Entry). k ++ es) fields ∙ ap (λ (k : List Entry). gs ++ k) elements in (
        same,
        row_once law s (fs ++ es) c d r (subst (λ (k : List Entry). IsRow s k d) (sym all) (subst (λ (k : Compound). IsRow k (gs ++ hs) d) (sym same) z)) can could,
      )

-- ---- documents

pub subjects_once : PacketIsInjective → (u w : Option (List ℕ)) (l : List ℕ) (nodes : Nodes) (all whole : List Entry) → AreSubjects u l nodes all
    → AreSubjects w l nodes whole → CanAll all → CanAll whole → all ≡ whole
subjects_once law u w l Nothing all whole e f can could = e ∙ sym f
subjects_once law u w l (Words t more) all whole e f can could = subjects_once law u w l more all whole e.1 f.1 can could
subjects_once law u w l (Element tag place inner more) all whole (declares, is, about, fs, es, others, p, q, r, e) (speaks, are, of, gs, hs, rest, x, y, z, f) can could =
    let language : List ℕ = inherited l tag.language in
    let i : CanAll (es ++ others) = can_append fs (es ++ others) (subst CanAll e can) in
    let j : CanAll (hs ++ rest) = can_append gs (hs ++ rest) (subst CanAll f could) in
    let fields : fs ≡ gs = attributes_once language place (without_about tag.fields) fs gs p x in
    let elements : es ≡ hs = entries_once law Structure language inner es hs q y (can_front es others i) (can_front hs rest j) in
    let after : others ≡ rest = subjects_once law u w l more others rest r z (can_append es others i) (can_append hs rest j) in
    e ∙ ap (λ (k : List Entry). k ++ (es ++ others)) fields ∙ ap (λ (k : List Entry). gs ++ (k ++ others)) elements
    ∙ ap (λ (k : List Entry). gs ++ (hs ++ k)) after ∙ sym f

rdf_once : PacketIsInjective → (tag : Tag) (inner : Nodes) (c d : Content) → IsRdf c tag inner → IsRdf d tag inner → IsContent c → IsContent d → c ≡ d
rdf_once law tag inner c d (declares, is, bare, u, es, p, r) (speaks, are, plain, w, fs, q, k) can could =
    let same : es ≡ fs = subjects_once law u w (inherited [] tag.language) inner es fs p q (row_can Structure es c r can) (row_can Structure fs d k could) in
    row_once law Structure es c d r (subst (λ (z : List Entry). IsRow Structure z d) (sym same) k) can could

has_rdf_once : PacketIsInjective → (nodes : Nodes) (c d : Content) → IsAlone (IsRdf c) nodes → IsAlone (IsRdf d) nodes → IsContent c → IsContent d → c ≡ d
has_rdf_once law Nothing c d e f can could = absurd e
has_rdf_once law (Words t more) c d e f can could = has_rdf_once law more c d e.1 f.1 can could
has_rdf_once law (Element tag place inner more) c d e f can could = rdf_once law tag inner c d e.0 f.0 can could

pub no_root : (n : Name) → is_rdf (codes "RDF") n ≡ true → is_root n ≡ true → ⊥
no_root n h k = let wrong : false ≡ true = sym (ap is_root (rdf_name (codes "RDF") n h)) ∙ k in absurd (cc)

pub nodes_mean_once : PacketIsInjective → NodesMeanOnce
nodes_mean_once law Nothing c d e f can could = absurd e
nodes_mean_once law (Words t more) c d e f can could = nodes_mean_once law more c d e.1 f.1 can could
nodes_mean_once law (Element tag place inner more) c d (inl p, e) (inl q, f) can could = rdf_once law tag inner c d p q can could
nodes_mean_once law (Element tag place inner more) c d (inl p, e) (inr q, f) can could = absurd (no_root tag.name p.1 q.0)
nodes_mean_once law (Element tag place inner more) c d (inr p, e) (inl q, f) can could = absurd (no_root tag.name q.1 p.0)
nodes_mean_once law (Element tag place inner more) c d (inr p, e) (inr q, f) can could = has_rdf_once law inner c d p.1 q.1 can could
