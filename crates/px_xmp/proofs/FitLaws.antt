-- Values that the output has room for.
use Rattle.std.proofs.Common.{◌≡◌, ◌≢◌, ◌≤◌, ◌+◌, ◌++◌, ◌∙◌, ◌⊎◌, inl, inr, refl, ℕ, suc, true, List, [], ◌∷◌, codes, length, sym, ap, subst, arith, length-append}
use Rattle.std.specs.List.Sorted.{IsPermutation}
use Rattle.std.proofs.lemmas.List.Sorted.{IsPermutation-sym, All-permutation}
use Rattle.std.proofs.lemmas.List.Elements.{All-from_recursion, recursion_from_All}
use Rattle.px_bytes.specs.Parts.{limit}
use Rattle.px_xmp_text.specs.Texts.{normal_text}
use Rattle.px_xmp_text.specs.Values.{Label, Literal, Uri, Compound, Structure, Bag, Seq, Alt, Content, End, IsContent}
use Rattle.px_xmp_text.specs.Values.{opening_tag, end_tag, compound_start, compound_end, simple, written}
use Rattle.px_xmp_forms.specs.Entries.{Value, Plain, Inside, Entry, before, row, entry_octets, AreDistinct}
use Rattle.px_xmp_forms.specs.Forms.{language_octets, HaveShortLanguages}
use Rattle.px_xmp_forms.specs.Outputs.{State, Open, Has, IsLevel, AreItems, AreLevels, begun, value_of}
use Rattle.px_xmp_forms.specs.declared.items.Item.{Item}
use Rattle.px_xmp_forms.specs.declared.output.Level.{Level}
use Rattle.px_xmp_forms.specs.declared.output.Output.{Output}
use Rattle.px_xmp_forms.specs.declared.labels.Content.TheVariants as content
use Rattle.px_xmp_forms.specs.declared.labels.Content as labels
use Rattle.px_xmp_forms.specs.declared.labels.Container.TheVariants as containers
use Rattle.px_xmp.specs.Names.{is_rdf}
use Rattle.px_xmp.specs.Tags.{Field}
use Rattle.px_xmp.specs.Nodes.{Nodes}
use Rattle.px_xmp.specs.Meaning.{IsRow, AreAttributes, HasAttributes, IsLiteral, IsResource, IsParsed, IsUri, IsDescribed, AreEntries, IsNode}
use Rattle.px_xmp.specs.Readable.{IsShallow}
use Rattle.px_xmp.specs.declared.elements.Node.{Node}
use Rattle.px_xmp.specs.declared.elements.Node.TheVariants as nodes
use Rattle.px_xmp.specs.calls.Opening.{node_view}
use Rattle.px_xmp.specs.calls.Contents.{with_entries, IsShallowInside, IsNodeDepth, HasValue}
use Rattle.px_xmp.specs.calls.Fits.{ContentFits, InsideFits, EntryFits, AreFit, JoinFits, NodeFits, FieldsFit, FillingFits}
use Rattle.px_xmp.proofs.OrderLaws.{written_more, before_more, total, totals_moved, literal_octets, start_more, opening_more}
use Rattle.px_xmp.proofs.MeaningLaws.{CanAll, CanValue, row_parts, can_append, way_of, parsed_way, uri_way, described_way, ways_clash}
use Rattle.px_xmp.proofs.AgainLaws.{uri_again}

-- ---- lengths

entry_length : (l : Label) (v : Value) (c : Content)
    → length (written (before l v c) []) ≡ length (written (before l v End) []) + length (written c [])
entry_length l v c = ap length (before_more l v c []) ∙ length-append (written (before l v End) []) (written c [])

row_length : (es : List Entry) → length (written (row es) []) ≡ total length es
row_length [] = refl
row_length (e ∷ es) = entry_length e.label e.value (row es) ∙ ap (λ (n : ℕ). length (entry_octets e) + n) (row_length es)

-- ---- entries

shallow_parts : (d : ℕ) (l : Label) (v : Value) (c : Content) → IsShallow d (before l v c) → IsShallow d (before l v End) × IsShallow d c
shallow_parts d l (Plain p) c h = ((h.0, tt), h.1)
shallow_parts d l (Inside s inner) c h = ((h.0, h.1, tt), h.2)

short_parts : (l : Label) (v : Value) (c : Content) → HaveShortLanguages (before l v c) → HaveShortLanguages (before l v End) × HaveShortLanguages c
short_parts l (Plain p) c h = ((h.0, tt), h.1)
short_parts l (Inside s inner) c h = ((h.0, tt), h.1)

fits_parts : (d : ℕ) (fs : List Entry) → ContentFits d (row fs) → AreFit d fs
fits_parts d [] h = tt
fits_parts d (e ∷ fs) (can, shallow, short, heard) =
    let (one, others) = row_parts e.label e.value (row fs) can in
    let (first, rest) = shallow_parts d e.label e.value (row fs) shallow in
    let (said, more) = short_parts e.label e.value (row fs) heard in
    let sum = entry_length e.label e.value (row fs) in
    ((one, first, omega (arith, short, sum), said), fits_parts d fs (others, rest, omega (arith, short, sum), more))

abbrev FitsAt : ℕ → Entry → Type 0
FitsAt d e = EntryFits d e.label e.value

fits_moved : (d : ℕ) (es fs : List Entry) → IsPermutation es fs → AreFit d fs → AreFit d es
fits_moved d es fs h fit =
    recursion_from_All (FitsAt d) es (All-permutation (FitsAt d) fs es (IsPermutation-sym es fs h) (All-from_recursion (FitsAt d) fs fit))

length_moved : (es fs : List Entry) → IsPermutation es fs → length (written (row fs) []) ≤ limit → length (written (row es) []) ≤ limit
length_moved es fs h short = omega (arith, short, row_length es, row_length fs, totals_moved es fs h length)

abbrev RowFits : ℕ → List Entry → Type 0
RowFits d es = AreFit d es × (length (written (row es) []) ≤ limit)

moved_fits : (d : ℕ) (es fs : List Entry) (c : Content) → IsPermutation es fs → c ≡ row fs → ContentFits d c → RowFits d es
moved_fits d es fs c h e fits =
    let f = subst (ContentFits d) e fits in (fits_moved d es fs h (fits_parts d fs f), length_moved es fs h f.2)

same_fits : (d : ℕ) (es fs : List Entry) (c : Content) → fs ≡ es → c ≡ row fs → ContentFits d c → RowFits d es
same_fits d es fs c h e fits = let f = subst (ContentFits d) (e ∙ ap row h) fits in (fits_parts d es f, f.2)

pub row_fits : (s : Compound) (d : ℕ) (es : List Entry) (c : Content) → IsRow s es c → ContentFits d c → RowFits d es
row_fits Structure d es c (fs, (one, h), e) fits = moved_fits d es fs c h.same e fits
row_fits Bag d es c (fs, h, e) fits = moved_fits d es fs c h.same e fits
row_fits Seq d es c (fs, h, e) fits = same_fits d es fs c h e fits
row_fits Alt d es c (fs, h, e) fits = same_fits d es fs c h e fits

row_distinct : (es : List Entry) (c : Content) → IsRow Structure es c → AreDistinct es
row_distinct es c (fs, (one, h), e) = one

pub join_fits : (node : Node) (d : ℕ) (es : List Entry) (c : Content) → IsRow (node_view node) es c → ContentFits d c → JoinFits node es
join_fits nodes.Description d es c h fits = (row_distinct es c h, omega (arith, (row_fits Structure d es c h fits).1))
join_fits (nodes.Container k) d es c h fits = omega (arith, (row_fits (node_view (nodes.Container k)) d es c h fits).1)

pub fit_can : (d : ℕ) (es : List Entry) → AreFit d es → CanAll es
fit_can d [] h = tt
fit_can d (e ∷ es) h = (h.0.0, fit_can d es h.1)

pub fit_front : (d : ℕ) (es fs : List Entry) → AreFit d (es ++ fs) → AreFit d es
fit_front d [] fs h = tt
fit_front d (e ∷ es) fs h = (h.0, fit_front d es fs h.1)

pub fit_back : (d : ℕ) (es fs : List Entry) → AreFit d (es ++ fs) → AreFit d fs
fit_back d [] fs h = h
fit_back d (e ∷ es) fs h = fit_back d es fs h.1

-- ---- values

tag_longer : (l : Label) (k : List ℕ) → length k ≤ length (opening_tag l k)
tag_longer l k = omega (arith, ap length (opening_more l k), length-append (opening_tag l []) k)

start_longer : (s : Compound) (k : List ℕ) → length k ≤ length (compound_start s k)
start_longer s k = omega (arith, ap length (start_more s k), length-append (compound_start s []) k)

inside_shorter : (l : Label) (s : Compound) (c : Content) → length (written c []) ≤ length (written (before l (Inside s c) End) [])
inside_shorter l s c =
    let k : List ℕ = compound_end s (end_tag l []) in
    omega (arith, tag_longer l (compound_start s (written c k)), start_longer s (written c k), ap length (written_more c k), length-append (written c []) k)

pub inside_fits : (d : ℕ) (l : Label) (s : Compound) (c : Content) → EntryFits d l (Inside s c) → InsideFits (suc d) s c
inside_fits d l s c (can, shallow, short, heard) = (can.1, by s shallow, omega (arith, short, inside_shorter l s c), heard.0)
  where
    by : (s : Compound) → IsShallow d (before l (Inside s c) End) → IsShallowInside (suc d) s c
    by Structure h = h.1
    by Bag h = (h.0, h.1)
    by Seq h = (h.0, h.1)
    by Alt h = (h.0, h.1)

pub text_short : (d : ℕ) (l : Label) (y t : List ℕ) → EntryFits d l (Plain (Literal y t)) → length (normal_text t) ≤ limit
text_short d l y t (can, shallow, short, heard) =
    omega (
      arith,
      short,
      tag_longer l (simple l (Literal y t) []),
      ap length (literal_octets l y t []),
      length-append (language y) (normal_text t ++ end_tag l []),
      length-append (normal_text t) (end_tag l []),
    )
  where
    language : List ℕ → List ℕ
    language y = language_octets y

-- ---- nodes

pub node_fits : (node : Node) (d : ℕ) (c : Content) → InsideFits d (node_view node) c → NodeFits node d
node_fits nodes.Description d c h = tt
node_fits (nodes.Container containers.Bag) d c (can, shallow, short, heard) = shallow.0
node_fits (nodes.Container containers.Seq) d c (can, shallow, short, heard) = shallow.0
node_fits (nodes.Container containers.Alt) d c (can, shallow, short, heard) = shallow.0

pub content_fits : (node : Node) (outer d : ℕ) (c : Content) → IsNodeDepth node outer d → InsideFits outer (node_view node) c → ContentFits d c
content_fits nodes.Description outer d c e (can, shallow, short, heard) = (can, subst (λ (n : ℕ). IsShallow n c) (sym e) shallow, short, heard)
content_fits (nodes.Container containers.Bag) outer d c e (can, shallow, short, heard) = (can, subst (λ (n : ℕ). IsShallow n c) (sym e.0) shallow.1, short, heard)
content_fits (nodes.Container containers.Seq) outer d c e (can, shallow, short, heard) = (can, subst (λ (n : ℕ). IsShallow n c) (sym e.0) shallow.1, short, heard)
content_fits (nodes.Container containers.Alt) outer d c e (can, shallow, short, heard) = (can, subst (λ (n : ℕ). IsShallow n c) (sym e.0) shallow.1, short, heard)

-- the attributes of a node, of which an array has none
pub attributes_fit : (node : Node) (d : ℕ) (l : List ℕ) (place : ℕ) (fields : List Field) (fs es : List Entry) (c : Content)
    → HasAttributes (node_view node) l place fields fs → IsRow (node_view node) (fs ++ es) c → InsideFits d (node_view node) c → AreFit d fs
attributes_fit nodes.Description d l place fields fs es c are row fits = fit_front d fs es (row_fits Structure d (fs ++ es) c row fits).0
attributes_fit (nodes.Container containers.Bag) d l place fields fs es c are row fits = subst (AreFit d) (sym are.1) tt
attributes_fit (nodes.Container containers.Seq) d l place fields fs es c are row fits = subst (AreFit d) (sym are.1) tt
attributes_fit (nodes.Container containers.Alt) d l place fields fs es c are row fits = subst (AreFit d) (sym are.1) tt

-- ---- what the output has

items_can : (xs : List Item) (es : List Entry) → AreItems xs es → CanAll es
items_can [] [] h = tt
items_can [] (e ∷ es) h = absurd h
items_can (x ∷ xs) [] h = absurd h
items_can (x ∷ xs) (e ∷ es) h = (h.0.element.can, items_can xs es h.1)

first_level : (xs : List Level) (o : Open) (os : List Open) → AreLevels xs (o ∷ os) → (x : Level) × IsLevel x o
first_level [] o os h = absurd h
first_level (x ∷ xs) o os h = (x, h.0)

pub has_can : (output : Output) (s : State) (es : List Entry) (o : Open) → Has output (begun (with_entries es o) s) → CanAll es
has_can output s es o has =
    let (x, level) = first_level _ (with_entries es o) s.opened has.levels in
    can_append o.entries es (items_can x.items.items (o.entries ++ es) level.entries)

pub has_inner : (output : Output) (s : State) (o : Open) → Has output (begun o s) → IsContent o.inner
has_inner output s o has = let (x, level) = first_level _ o s.opened has.levels in level.can

pub value_can_be : (c : labels.Content) (t : List ℕ) (inner : Content) → IsContent inner → CanValue (value_of c t inner)
value_can_be (content.Text language) t inner h = tt
value_can_be content.Resource t inner h = tt
value_can_be content.Structure t inner h = h
value_can_be (content.Members container) t inner h = h

-- ---- attributes

pub filling_fits : (d : ℕ) (label : Label) (l : List ℕ) (place : ℕ) (fields : List Field) (inner : Nodes) (v : Value) → EntryFits d label v
    → FieldsFit fields → HasValue l place fields inner v → FillingFits l place (suc d) fields
filling_fits d label l place fields inner v fits short (inl h) = inl h.0
filling_fits d label l place fields inner v fits short (inr (inl h)) = inl h.0
filling_fits d label l place fields inner v fits short (inr (inr (inl (f, one, named, is, es, c, are, row, e)))) = inr (inl (f, one, inl (named, is)))
filling_fits d label l place fields inner v fits short (inr (inr (inr (inl (f, one, named, absolute, white, t, text, e))))) =
    let few : length (normal_text t) ≤ limit = uri_short t (subst (EntryFits d label) e fits) in
    let same = ap length (uri_again f.value t absolute text) in
    inr (inl (f, one, inr (named, absolute, (t, text, omega (arith, few, same), omega (arith, few)))))
  where
    uri_short : (t : List ℕ) → EntryFits d label (Plain (Uri t)) → length (normal_text t) ≤ limit
    uri_short t (can, shallow, short, heard) =
        omega (arith, short, tag_longer label (simple label (Uri t) []), length-append (normal_text t) (codes "\"/>"))
filling_fits d label l place fields inner v fits short (inr (inr (inr (inr (some, white, es, c, are, row, e))))) =
    inr (inr (es, (are, (row_fits Structure (suc d) es c row (inside_fits d label Structure c (subst (EntryFits d label) e fits))).0, short)))

-- by its attributes a value is one production
pub parsed_only : (l : List ℕ) (place : ℕ) (fields : List Field) (inner : Nodes) (v : Value) (f : Field) → fields ≡ f ∷ []
    → is_rdf (codes "parseType") f.name ≡ true → HasValue l place fields inner v → IsParsed fields (AreEntries Structure l inner) v
parsed_only l place fields inner v f one named (inl h) = absurd (ways_clash fields 0 1 (ap way_of h.0) (parsed_way fields f one named) refl)
parsed_only l place fields inner v f one named (inr (inl h)) = absurd (ways_clash fields 0 1 (ap way_of h.0) (parsed_way fields f one named) refl)
parsed_only l place fields inner v f one named (inr (inr (inl h))) = h
parsed_only l place fields inner v f one named (inr (inr (inr (inl (g, other, called, absolute, white, t, text, e))))) =
    absurd (ways_clash fields 2 1 (uri_way fields g other called) (parsed_way fields f one named) refl)
parsed_only l place fields inner v f one named (inr (inr (inr (inr (some, white, es, c, are, row, e))))) =
    absurd (ways_clash fields 3 1 (described_way l place fields es some are) (parsed_way fields f one named) refl)

pub uri_only : (l : List ℕ) (place : ℕ) (fields : List Field) (inner : Nodes) (v : Value) (f : Field) → fields ≡ f ∷ []
    → is_rdf (codes "resource") f.name ≡ true → HasValue l place fields inner v → IsUri fields inner v
uri_only l place fields inner v f one named (inl h) = absurd (ways_clash fields 0 2 (ap way_of h.0) (uri_way fields f one named) refl)
uri_only l place fields inner v f one named (inr (inl h)) = absurd (ways_clash fields 0 2 (ap way_of h.0) (uri_way fields f one named) refl)
uri_only l place fields inner v f one named (inr (inr (inl (g, other, called, is, es, c, are, row, e)))) =
    absurd (ways_clash fields 1 2 (parsed_way fields g other called) (uri_way fields f one named) refl)
uri_only l place fields inner v f one named (inr (inr (inr (inl h)))) = h
uri_only l place fields inner v f one named (inr (inr (inr (inr (some, white, es, c, are, row, e))))) =
    absurd (ways_clash fields 3 2 (described_way l place fields es some are) (uri_way fields f one named) refl)

pub described_only : (l : List ℕ) (place : ℕ) (fields : List Field) (inner : Nodes) (v : Value) (es : List Entry) → fields ≢ []
    → AreAttributes l place fields es → HasValue l place fields inner v → IsDescribed l place fields inner v
described_only l place fields inner v es some are (inl h) = absurd (some h.0)
described_only l place fields inner v es some are (inr (inl h)) = absurd (some h.0)
described_only l place fields inner v es some are (inr (inr (inl (g, other, called, is, fs, c, inside, row, e)))) =
    absurd (ways_clash fields 1 3 (parsed_way fields g other called) (described_way l place fields es some are) refl)
described_only l place fields inner v es some are (inr (inr (inr (inl (g, other, called, absolute, white, t, text, e))))) =
    absurd (ways_clash fields 2 3 (uri_way fields g other called) (described_way l place fields es some are) refl)
described_only l place fields inner v es some are (inr (inr (inr (inr h)))) = h

pub bare_only : (l : List ℕ) (place : ℕ) (inner : Nodes) (v : Value) → HasValue l place [] inner v
    → IsLiteral l [] inner v ⊎ IsResource [] (IsNode l inner) v
bare_only l place inner v (inl h) = inl h
bare_only l place inner v (inr (inl h)) = inr h
bare_only l place inner v (inr (inr (inl (f, one, named, is, es, c, are, row, e)))) = absurd (ways_clash [] 0 1 refl (parsed_way [] f one named) refl)
bare_only l place inner v (inr (inr (inr (inl (f, one, named, absolute, white, t, text, e))))) = absurd (ways_clash [] 0 2 refl (uri_way [] f one named) refl)
bare_only l place inner v (inr (inr (inr (inr (some, white, es, c, are, row, e))))) = absurd (some refl)
