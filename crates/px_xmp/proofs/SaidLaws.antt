-- The elements of a normal packet mean its content.
use Rattle.std.proofs.Common.{◌≡◌, ◌==◌, ◌+◌, ◌-◌, ◌++◌, ◌∙◌, inl, inr, refl, ℕ, Bool, true, false, Option, Some, None, List, [], ◌∷◌, codes, length, sym, ap, subst, append-nil, eq-eqb}
use Rattle.px_xmp_text.specs.Texts.{normal_text}
use Rattle.px_xmp_text.specs.Laws.{NormalReadsBack, NormalBound, FaultOrText}
use Rattle.px_xmp_text.specs.declared.pieces.TextKind.TheVariants.{CharacterData}
use Rattle.px_xmp_text.specs.Values.{Label, Property, Item, Literal, Uri, Compound, Structure, Bag, Seq, Alt, Content, End, Flat, Nested}
use Rattle.px_xmp_text.specs.Values.{opening_tag, end_tag, compound_start, written, IsContent, normal_packet, packet_end}
use Rattle.px_xmp_marks.specs.Reading.{Named, Attr}
use Rattle.px_xmp_marks.specs.Grammar.{IsStartTag, IsEndTag}
use Rattle.px_xmp_marks.specs.Marks.{EndsText}
use Rattle.px_xmp_marks.specs.Declarations.{IsDeclaration}
use Rattle.px_xmp_document.specs.Scopes as scopes
use Rattle.px_xmp_document.specs.Scopes.{space_of}
use Rattle.px_xmp_forms.specs.Entries.{Value, Plain, Inside, Entry, before, row}
use Rattle.px_xmp_forms.specs.Forms.{HaveShortLanguages}
use Rattle.px_xmp.specs.Marks as marks
use Rattle.px_xmp.specs.Marks.{IsKind}
use Rattle.px_xmp.specs.Names.{Name, rdf_space, meta_space, or_none}
use Rattle.px_xmp.specs.Tags.{Field, Tag, DeclaresLanguage, tag_of, inside, inherited}
use Rattle.px_xmp.specs.Nodes.{Nodes, Nothing, Words, Element, AreNodes}
use Rattle.px_xmp.specs.Meaning.{label_in, compound_of, IsRow, HasAttributes, IsValue, IsText, AreEntries, IsNode}
use Rattle.px_xmp.specs.Meaning.{AreSubjects, Means, HasMeaning}
use Rattle.px_xmp.specs.Readable.{IsReadableLabel, IsOrdered, AreReadable, IsReadable}
use Rattle.px_xmp.specs.Limits.{IsShortLanguage, DeclareShortLanguages}
use Rattle.px_xmp.specs.Laws.{NormalSays}
use Rattle.px_xmp.proofs.OrderLaws.{end_more}
use Rattle.px_xmp.proofs.AlikeLaws.{row_ordered}
use Rattle.px_xmp.proofs.SimpleLaws.{uri_reads_back}
use Rattle.px_xmp.proofs.StartLaws.{named, attribute, label_named, label_attributes, label_named_by, opening_shift, spoken, spoken_more, resource, resource_more}
use Rattle.px_xmp.proofs.StartLaws.{text_mark, start_bare, start_spoken, start_resource, start_parsed, end_label}
use Rattle.px_xmp.proofs.StartLaws.{start_bag, start_seq, start_alt, end_bag, end_seq, end_alt}
use Rattle.px_xmp.proofs.StartLaws.{meta_start, root_start, description_start, meta_attributes, root_attributes, description_attributes}
use Rattle.px_xmp.proofs.StartLaws.{start_meta, start_root, start_description, end_meta, end_root, end_description}
use Rattle.px_xmp.proofs.PartLaws.{end_ends}

-- ---- names

-- this name with its namespace
abbrev pub rdf_name : List ℕ → Name
rdf_name local = record { space = rdf_space; local = local }

abbrev pub label_name : Label → Name
label_name (Property space local) = record { space = space; local = local }
label_name Item = rdf_name (codes "li")

-- the prefix of RDF is bound to it
abbrev pub HasRdfPrefix : List scopes.Item → Type 0
HasRdfPrefix scope = space_of (codes "rdf") scope ≡ Some rdf_space

abbrev rdf_field : List ℕ → List ℕ → Field
rdf_field local value = record { name = rdf_name local; value = value }

-- ---- tags

tag_bare : (scope : List scopes.Item) (l : Label) → HasRdfPrefix scope
    → tag_of scope (label_named l) (label_attributes l []) ≡ record { name = label_name l; fields = []; language = None }
tag_bare scope (Property space local) h = refl
tag_bare scope Item h = ap (λ u. record { name = record { space = or_none u; local = codes "li" }; fields = []; language = None }) h

tag_spoken : (scope : List scopes.Item) (l : Label) (language : List ℕ) → HasRdfPrefix scope
    → tag_of scope (label_named l) (label_attributes l (attribute (codes "xml") (codes "lang") language ∷ []))
    ≡ record { name = label_name l; fields = []; language = Some language }
tag_spoken scope (Property space local) language h = refl
tag_spoken scope Item language h =
    ap (λ u. record { name = record { space = or_none u; local = codes "li" }; fields = []; language = Some language }) h

tag_resource : (scope : List scopes.Item) (l : Label) (value : List ℕ) → HasRdfPrefix scope
    → tag_of scope (label_named l) (label_attributes l (attribute (codes "rdf") (codes "resource") value ∷ []))
    ≡ record { name = label_name l; fields = rdf_field (codes "resource") value ∷ []; language = None }
tag_resource scope (Property space local) value h =
    ap (λ u. record {
      name = record { space = space; local = local };
      fields = record { name = record { space = or_none u; local = codes "resource" }; value = value } ∷ [];
      language = None;
    }) h
tag_resource scope Item value h =
    ap (λ u. record {
      name = record { space = or_none u; local = codes "li" };
      fields = record { name = record { space = or_none u; local = codes "resource" }; value = value } ∷ [];
      language = None;
    }) h

tag_parsed : (scope : List scopes.Item) (l : Label) → HasRdfPrefix scope
    → tag_of scope (label_named l) (label_attributes l (attribute (codes "rdf") (codes "parseType") (codes "Resource") ∷ []))
    ≡ record { name = label_name l; fields = rdf_field (codes "parseType") (codes "Resource") ∷ []; language = None }
tag_parsed scope (Property space local) h =
    ap (λ u. record {
      name = record { space = space; local = local };
      fields = record { name = record { space = or_none u; local = codes "parseType" }; value = codes "Resource" } ∷ [];
      language = None;
    }) h
tag_parsed scope Item h =
    ap (λ u. record {
      name = record { space = or_none u; local = codes "li" };
      fields = record { name = record { space = or_none u; local = codes "parseType" }; value = codes "Resource" } ∷ [];
      language = None;
    }) h

inside_label : (scope : List scopes.Item) (l : Label) → HasRdfPrefix scope → HasRdfPrefix (inside scope (label_attributes l []))
inside_label scope (Property space local) h = h
inside_label scope Item h = h

inside_parsed : (scope : List scopes.Item) (l : Label) → HasRdfPrefix scope
    → HasRdfPrefix (inside scope (label_attributes l (attribute (codes "rdf") (codes "parseType") (codes "Resource") ∷ [])))
inside_parsed scope (Property space local) h = h
inside_parsed scope Item h = h

label_read : (s : Compound) (l : Label) → IsReadableLabel s l → label_in s (label_name l) ≡ Some l
label_read Structure (Property space local) h = h.2
label_read Structure Item h = absurd h
label_read Bag (Property space local) h = absurd h
label_read Bag Item h = refl
label_read Seq (Property space local) h = absurd h
label_read Seq Item h = refl
label_read Alt (Property space local) h = absurd h
label_read Alt Item h = refl

-- ---- elements

-- the octets x at an offset are entries in a row, and then y
abbrev pub AreSaid : Compound → List scopes.Item → ℕ → List ℕ → List ℕ → Content → Type 0
AreSaid s scope at x y c =
    (nodes : Nodes) × (es : List Entry) × AreNodes nodes scope at x y × AreEntries s [] nodes es × (c ≡ row es)
    × (HaveShortLanguages c → DeclareShortLanguages nodes)

-- an element declares short languages if a value and others have no longer ones
abbrev pub DeclaresShort : Label → Value → Content → Tag → Nodes → Type 0
DeclaresShort l v c tag inner =
    HaveShortLanguages (before l v c) → (IsShortLanguage tag.language × DeclareShortLanguages inner) × HaveShortLanguages c

-- a start tag, which is a tag in its scope, and the octets that follow it
abbrev pub IsBegun : List scopes.Item → Tag → Named → List Attr → Bool → List ℕ → List ℕ → Type 0
IsBegun scope tag n attributes empty m rest =
    DeclaresLanguage tag.language × (tag_of scope n attributes ≡ tag) × IsKind (marks.Start n attributes empty) m rest

-- an element is a value before others
element_said : (s : Compound) (scope : List scopes.Item) (at : ℕ) (l : Label) (v : Value) (c : Content) (n : Named) (attributes : List Attr) (tag : Tag)
    (m rest e tail y : List ℕ) (inner : Nodes) → label_in s tag.name ≡ Some l → IsBegun scope tag n attributes false m rest
    → AreNodes inner (inside scope attributes) (at + length m) rest (e ++ tail) → IsKind marks.End e tail
    → IsValue (inherited [] tag.language) at tag.fields inner (IsNode (inherited [] tag.language) inner) (AreEntries Structure (inherited [] tag.language) inner) v
    → DeclaresShort l v c tag inner
    → AreSaid s scope (at + (length (m ++ rest) - length tail)) tail y c → AreSaid s scope at (m ++ rest) y (before l v c)
element_said s scope at l v c n attributes tag m rest e tail y inner label (declares, same, start) within ends is short (more, es, are, mean, rows, others) = (
  Element tag at inner more,
  record { label = l; value = v; place = at } ∷ es,
  (n, attributes, m, rest, sym same, refl, refl, inr (e, tail, start, within, ends, are)),
  (declares, l, v, es, label, refl, mean, is),
  ap (before l v) rows,
  λ u. let (here, after) = short u in (here.0, here.1, others after),
)

-- an empty element is a value before others
alone_said : (s : Compound) (scope : List scopes.Item) (at : ℕ) (l : Label) (v : Value) (c : Content) (n : Named) (attributes : List Attr) (tag : Tag)
    (m rest y : List ℕ) → label_in s tag.name ≡ Some l → IsBegun scope tag n attributes true m rest
    → IsValue (inherited [] tag.language) at tag.fields Nothing (IsNode (inherited [] tag.language) Nothing)
    (AreEntries Structure (inherited [] tag.language) Nothing) v
    → DeclaresShort l v c tag Nothing → AreSaid s scope (at + length m) rest y c → AreSaid s scope at (m ++ rest) y (before l v c)
alone_said s scope at l v c n attributes tag m rest y label (declares, same, start) is short (more, es, are, mean, rows, others) = (
  Element tag at Nothing more,
  record { label = l; value = v; place = at } ∷ es,
  (n, attributes, m, rest, sym same, refl, refl, inl (start, refl, are)),
  (declares, l, v, es, label, refl, mean, is),
  ap (before l v) rows,
  λ u. let (here, after) = short u in (here.0, here.1, others after),
)

-- an array in an element is its node
node_said : (s : Compound) (scope : List scopes.Item) (at : ℕ) (c : Content) (n : Named) (tag : Tag) (m rest e tail : List ℕ)
    (nodes : Nodes) (es : List Entry) → compound_of tag.name ≡ Some s → HasAttributes s (inherited [] tag.language) at tag.fields []
    → inherited [] tag.language ≡ []
    → IsBegun scope tag n [] false m rest → AreNodes nodes (inside scope []) (at + length m) rest (e ++ tail) → IsKind marks.End e tail
    → AreEntries s [] nodes es → IsRow s es c → IsShortLanguage tag.language
    → (inner : Nodes) × AreNodes inner scope at (m ++ rest) tail × IsNode [] inner s c × (DeclareShortLanguages nodes → DeclareShortLanguages inner)
node_said s scope at c n tag m rest e tail nodes es kind bare silent (declares, same, start) within ends are rows short = (
  Element tag at nodes Nothing,
  (n, [], m, rest, sym same, refl, refl, inr (e, tail, start, within, ends, refl)),
  (declares, kind, tt, [], es, bare, subst (λ (z : List ℕ). AreEntries s z nodes es) (sym silent) are, rows),
  λ u. (short, u, tt),
)

-- ---- texts

-- the nodes of a text
abbrev text_nodes : List ℕ → Nodes
text_nodes [] = Nothing
text_nodes (o ∷ t) = Words (o ∷ t) Nothing

text_is : (t : List ℕ) → IsText (text_nodes t) t
text_is [] = refl
text_is (o ∷ t) = ([], sym (append-nil (o ∷ t)), refl)

text_short : (t : List ℕ) → DeclareShortLanguages (text_nodes t)
text_short [] = tt
text_short (o ∷ t) = tt

text_said : NormalReadsBack → NormalBound → FaultOrText → (t : List ℕ) (scope : List scopes.Item) (at : ℕ) (y : List ℕ) → EndsText y
    → AreNodes (text_nodes t) scope at (normal_text t ++ y) y
text_said reads bound faults [] scope at y ends = refl
text_said reads bound faults (o ∷ t) scope at y ends = (
  normal_text (o ∷ t),
  y,
  inl (CharacterData, normal_text (o ∷ t), (text_mark reads bound faults o t, ends, refl), reads (o ∷ t)),
  refl,
  refl,
)

-- ---- values

-- an element with a label is a value before others
labelled_said : (s : Compound) (scope : List scopes.Item) (at : ℕ) (l : Label) (v : Value) (c : Content) (attributes : List Attr) (tag : Tag)
    (m rest w x y : List ℕ) (inner : Nodes) → label_in s tag.name ≡ Some l → IsBegun scope tag (label_named l) attributes false m rest
    → AreNodes inner (inside scope attributes) (at + length m) rest (end_tag l w) → IsEndTag (end_tag l []) (label_named l)
    → IsValue (inherited [] tag.language) at tag.fields inner (IsNode (inherited [] tag.language) inner) (AreEntries Structure (inherited [] tag.language) inner) v
    → DeclaresShort l v c tag inner
    → ((place : ℕ) → AreSaid s scope place w y c) → x ≡ m ++ rest → AreSaid s scope at x y (before l v c)
labelled_said s scope at l v c attributes tag m rest w x y inner label begun within ends is short more whole =
    subst (λ (z : List ℕ). AreSaid s scope at z y (before l v c)) (sym whole)
    (element_said s scope at l v c (label_named l) attributes tag m rest (end_tag l []) w y inner label begun
    (subst (λ (z : List ℕ). AreNodes inner (inside scope attributes) (at + length m) rest z) (end_more l w) within) (label_named l, ends) is short
    (more (at + (length (m ++ rest) - length w))))

abbrev bare_tag : Label → Tag
bare_tag l = record { name = label_name l; fields = []; language = None }

-- an array is the one node in an element with a label
array_said : (s t : Compound) (name begin stop : List ℕ) (scope : List scopes.Item) (at : ℕ) (l : Label) (inner c : Content) (m w x y body : List ℕ)
    → label_in s (label_name l) ≡ Some l → HasRdfPrefix scope → IsStartTag m (label_named l) (label_attributes l []) false
    → IsEndTag (end_tag l []) (label_named l) → IsStartTag begin (named (codes "rdf") name) [] false → IsEndTag stop (named (codes "rdf") name)
    → compound_of (rdf_name name) ≡ Some t → ((place : ℕ) → HasAttributes t [] place [] []) → IsOrdered t inner
    → ((place : ℕ) → AreSaid t (scopes.Element ∷ inside scope (label_attributes l [])) place body (stop ++ end_tag l w) inner)
    → ((place : ℕ) → AreSaid s scope place w y c) → x ≡ m ++ (begin ++ body) → AreSaid s scope at x y (before l (Inside t inner) c)
array_said s t name begin stop scope at l inner c m w x y body label bound start ends opens closes kind bare ordered items more whole =
    let scope_in : List scopes.Item = inside scope (label_attributes l []) in
    let bound_in : HasRdfPrefix scope_in = inside_label scope l bound in
    let place : ℕ = at + length m in
    let (nodes, es, row, mean, rows, heard) = items (place + length begin) in
    let tag : Tag = record { name = rdf_name name; fields = []; language = None } in
    let same : tag_of scope_in (named (codes "rdf") name) [] ≡ tag =
    ap (λ u. record { name = record { space = or_none u; local = name }; fields = []; language = None }) bound_in in
    let (node, node_row, is, inside_short) =
    node_said t scope_in place inner (named (codes "rdf") name) tag begin body stop (end_tag l w) nodes es kind (bare place) refl (tt, same, opens) row
    (named (codes "rdf") name, closes) mean (row_ordered t inner es ordered rows) tt in
    labelled_said s scope at l (Inside t inner) c (label_attributes l []) (bare_tag l) m (begin ++ body) w x y node label (tt, tag_bare scope l bound, start)
    node_row ends (inr (inl (refl, t, inner, is, refl))) (λ u. ((tt, inside_short (heard u.0)), u.1)) more whole

module _ (reads : NormalReadsBack) (bounds : NormalBound) (faults : FaultOrText) where
  content_said : (s : Compound) (c : Content) → AreReadable s c → IsContent c → (scope : List scopes.Item) → HasRdfPrefix scope → (at : ℕ) (k : List ℕ)
      → AreSaid s scope at (written c k) k c
  content_said s End readable can scope bound at k = (Nothing, [], refl, refl, refl, λ u. tt)
  content_said s (Flat l (Literal [] t) rest) (label, simple, readable) (can, ok, others) scope bound at k =
      labelled_said s scope at l (Plain (Literal [] t)) rest (label_attributes l []) (bare_tag l) (opening_tag l (62 ∷ []))
      (normal_text t ++ end_tag l (written rest k)) (written rest k) (written (Flat l (Literal [] t) rest) k) k (text_nodes t) (label_read s l label)
      (tt, tag_bare scope l bound, start_bare faults l (label_named_by s l label) can)
      (text_said reads bounds faults t (inside scope (label_attributes l [])) (at + length (opening_tag l (62 ∷ []))) (end_tag l (written rest k))
      (end_ends l (written rest k))) (end_label l (label_named_by s l label)) (inl (refl, t, text_is t, refl))
      (λ u. ((tt, text_short t), u.1))
      (λ place. content_said s rest readable others scope bound place k)
      (opening_shift l (62 ∷ []) (normal_text t ++ end_tag l (written rest k)))
  content_said s (Flat l (Literal (o ∷ language) t) rest) (label, (language_is, lower, characters), readable) (can, ok, others) scope bound at k =
      let attributes : List Attr = label_attributes l (attribute (codes "xml") (codes "lang") (o ∷ language) ∷ []) in
      let m : List ℕ = opening_tag l (spoken (o ∷ language)) in
      labelled_said s scope at l (Plain (Literal (o ∷ language) t)) rest attributes
      (record { name = label_name l; fields = []; language = Some (o ∷ language) }) m
      (normal_text t ++ end_tag l (written rest k)) (written rest k) (written (Flat l (Literal (o ∷ language) t) rest) k) k (text_nodes t)
      (label_read s l label) (language_is, tag_spoken scope l (o ∷ language) bound, start_spoken faults l (o ∷ language) (label_named_by s l label) can language_is)
      (text_said reads bounds faults t (inside scope attributes) (at + length m) (end_tag l (written rest k)) (end_ends l (written rest k)))
      (end_label l (label_named_by s l label))
      (inl (refl, t, text_is t, ap (λ (z : List ℕ). Plain (Literal z t)) (sym lower)))
      (λ u. ((u.0, text_short t), u.1))
      (λ place. content_said s rest readable others scope bound place k)
      (ap (λ (z : List ℕ). opening_tag l z) (spoken_more (o ∷ language) (normal_text t ++ end_tag l (written rest k)))
      ∙ opening_shift l (spoken (o ∷ language)) (normal_text t ++ end_tag l (written rest k)))
  content_said s (Flat l (Uri uri) rest) (label, octets, readable) (can, ok, others) scope bound at k =
      let m : List ℕ = opening_tag l (resource uri) in
      subst (λ (z : List ℕ). AreSaid s scope at z k (Flat l (Uri uri) rest))
      (sym (ap (λ (z : List ℕ). opening_tag l z) (resource_more uri (written rest k)) ∙ opening_shift l (resource uri) (written rest k)))
      (alone_said s scope at l (Plain (Uri uri)) rest (label_named l) (label_attributes l (attribute (codes "rdf") (codes "resource") (normal_text uri) ∷ []))
      (record { name = label_name l; fields = rdf_field (codes "resource") (normal_text uri) ∷ []; language = None }) m (written rest k) k
      (label_read s l label) (tt, tag_resource scope l (normal_text uri) bound, start_resource faults bounds l uri (label_named_by s l label) can octets)
      (inr (inr (inr (inl (rdf_field (codes "resource") (normal_text uri), refl, refl, octets, tt, uri, uri_reads_back bounds uri octets, refl)))))
      (λ u. ((tt, tt), u.1))
      (content_said s rest readable others scope bound (at + length m) k))
  content_said s (Nested l Structure inner rest) (label, ordered, members, readable) (can, within, others) scope bound at k =
      let attributes : List Attr = label_attributes l (attribute (codes "rdf") (codes "parseType") (codes "Resource") ∷ []) in
      let m : List ℕ = opening_tag l (compound_start Structure []) in
      let w : List ℕ = written rest k in
      let field : Field = rdf_field (codes "parseType") (codes "Resource") in
      let (nodes, es, row, mean, rows, heard) =
      content_said Structure inner members within (inside scope attributes) (inside_parsed scope l bound) (at + length m) (end_tag l w) in
      labelled_said s scope at l (Inside Structure inner) rest attributes
      (record { name = label_name l; fields = field ∷ []; language = None }) m (written inner (end_tag l w)) w
      (written (Nested l Structure inner rest) k) k nodes (label_read s l label) (tt, tag_parsed scope l bound, start_parsed faults l (label_named_by s l label) can) row
      (end_label l (label_named_by s l label))
      (inr (inr (inl (field, refl, refl, refl, es, inner, mean, row_ordered Structure inner es ordered rows, refl))))
      (λ u. ((tt, heard u.0), u.1))
      (λ place. content_said s rest readable others scope bound place k) (opening_shift l (compound_start Structure []) (written inner (end_tag l w)))
  content_said s (Nested l Bag inner rest) (label, ordered, members, readable) (can, within, others) scope bound at k =
      let w : List ℕ = written rest k in
      array_said s Bag (codes "Bag") (codes "<rdf:Bag>") (codes "</rdf:Bag>") scope at l inner rest (opening_tag l (62 ∷ [])) w
      (written (Nested l Bag inner rest) k) k (written inner (codes "</rdf:Bag>" ++ end_tag l w)) (label_read s l label) bound (start_bare faults l (label_named_by s l label) can)
      (end_label l (label_named_by s l label)) start_bag end_bag refl (λ place. (refl, refl)) ordered
      (λ place. content_said Bag inner members within (scopes.Element ∷ inside scope (label_attributes l [])) (inside_label scope l bound) place
      (codes "</rdf:Bag>" ++ end_tag l w))
      (λ place. content_said s rest readable others scope bound place k)
      (opening_shift l (62 ∷ []) (codes "<rdf:Bag>" ++ written inner (codes "</rdf:Bag>" ++ end_tag l w)))
  content_said s (Nested l Seq inner rest) (label, ordered, members, readable) (can, within, others) scope bound at k =
      let w : List ℕ = written rest k in
      array_said s Seq (codes "Seq") (codes "<rdf:Seq>") (codes "</rdf:Seq>") scope at l inner rest (opening_tag l (62 ∷ [])) w
      (written (Nested l Seq inner rest) k) k (written inner (codes "</rdf:Seq>" ++ end_tag l w)) (label_read s l label) bound (start_bare faults l (label_named_by s l label) can)
      (end_label l (label_named_by s l label)) start_seq end_seq refl (λ place. (refl, refl)) ordered
      (λ place. content_said Seq inner members within (scopes.Element ∷ inside scope (label_attributes l [])) (inside_label scope l bound) place
      (codes "</rdf:Seq>" ++ end_tag l w))
      (λ place. content_said s rest readable others scope bound place k)
      (opening_shift l (62 ∷ []) (codes "<rdf:Seq>" ++ written inner (codes "</rdf:Seq>" ++ end_tag l w)))
  content_said s (Nested l Alt inner rest) (label, ordered, members, readable) (can, within, others) scope bound at k =
      let w : List ℕ = written rest k in
      array_said s Alt (codes "Alt") (codes "<rdf:Alt>") (codes "</rdf:Alt>") scope at l inner rest (opening_tag l (62 ∷ [])) w
      (written (Nested l Alt inner rest) k) k (written inner (codes "</rdf:Alt>" ++ end_tag l w)) (label_read s l label) bound (start_bare faults l (label_named_by s l label) can)
      (end_label l (label_named_by s l label)) start_alt end_alt refl (λ place. (refl, refl)) ordered
      (λ place. content_said Alt inner members within (scopes.Element ∷ inside scope (label_attributes l [])) (inside_label scope l bound) place
      (codes "</rdf:Alt>" ++ end_tag l w))
      (λ place. content_said s rest readable others scope bound place k)
      (opening_shift l (62 ∷ []) (codes "<rdf:Alt>" ++ written inner (codes "</rdf:Alt>" ++ end_tag l w)))

-- ---- the packet

abbrev pub bare_rdf : List ℕ → Tag
bare_rdf local = record { name = rdf_name local; fields = []; language = None }

abbrev pub description_tag : Tag
description_tag = record { name = rdf_name (codes "Description"); fields = rdf_field (codes "about") [] ∷ []; language = None }

abbrev pub meta_tag : Tag
meta_tag = record { name = record { space = meta_space; local = codes "xmpmeta" }; fields = []; language = None }

-- an element with others in it, and nothing after it
one_element : (scope : List scopes.Item) (at : ℕ) (tag : Tag) (n k : Named) (attributes : List Attr) (m rest e tail : List ℕ) (inner : Nodes)
    → tag_of scope n attributes ≡ tag → IsStartTag m n attributes false → AreNodes inner (inside scope attributes) (at + length m) rest (e ++ tail)
    → IsEndTag e k → AreNodes (Element tag at inner Nothing) scope at (m ++ rest) tail
one_element scope at tag n k attributes m rest e tail inner same start within ends =
    (n, attributes, m, rest, sym same, refl, refl, inr (e, tail, start, within, (k, ends), refl))

-- what is in scope in x:xmpmeta, in rdf:RDF, and in rdf:Description
abbrev pub meta_scope : List scopes.Item
meta_scope = inside [] meta_attributes

abbrev pub root_scope : List scopes.Item
root_scope = inside meta_scope root_attributes

abbrev pub description_scope : List scopes.Item
description_scope = inside root_scope description_attributes

-- a description with no attribute but rdf:about is one subject
subject_said : (place : ℕ) (inner : Nodes) (es : List Entry) → AreEntries Structure [] inner es
    → AreSubjects None [] (Element description_tag place inner Nothing) es
subject_said place inner es mean = (tt, refl, ((λ h. inl refl), tt), [], es, [], refl, mean, refl, sym (append-nil es))

packet_means : (c : Content) (inner : Nodes) (es : List Entry) (a b d : ℕ) → AreEntries Structure [] inner es → IsRow Structure es c
    → Means (Element meta_tag a (Element (bare_rdf (codes "RDF")) b (Element description_tag d inner Nothing) Nothing) Nothing) c
packet_means c inner es a b d mean rows = (inr (refl, ((tt, refl, refl, None, es, subject_said d inner es mean, rows), tt)), tt)

apart : (a b : ℕ) → a ≡ b → (a == b) ≡ false → ⊥
apart a b e h = let same : (a == b) ≡ true = eq-eqb a b e in absurd (cc)

abbrev second : List ℕ → ℕ
second [] = 0
second (a ∷ []) = 0
second (a ∷ b ∷ x) = b

no_declaration : (c : Content) (d y : List ℕ) (e : Option (List ℕ)) → IsDeclaration d e → normal_packet c ≡ d ++ y → ⊥
no_declaration c d y e h w =
    let wrong : normal_packet c ≡ (codes "<?xml" ++ (h.version_info ++ (h.encoding_decl ++ (h.standalone_decl ++ (h.space ++ codes "?>"))))) ++ y =
    w ∙ ap (λ (z : List ℕ). z ++ y) h.whole in
    apart 120 63 (ap second wrong) refl

-- it means its content, by elements that declare short languages if the content has no longer ones
pub packet_says : NormalReadsBack → NormalBound → FaultOrText → (c : Content) → IsContent c → IsReadable c
    → (h : HasMeaning (normal_packet c) 0 c) × (HaveShortLanguages c → DeclareShortLanguages h.nodes)
packet_says reads bounds faults c can (ordered, readable, shallow) =
    let a : ℕ = 0 + (length (normal_packet c) - length (normal_packet c)) in
    let b : ℕ = a + length meta_start in
    let d : ℕ = b + length root_start in
    let (inner, es, row, mean, rows, heard) =
    content_said reads bounds faults Structure c readable can description_scope refl (d + length description_start) packet_end in (
      record {
        nodes = Element meta_tag a (Element (bare_rdf (codes "RDF")) b (Element description_tag d inner Nothing) Nothing) Nothing;
        are = record {
          declaration = [];
          encoding = None;
          tree = normal_packet c;
          parts = (refl, inr (refl, refl, no_declaration c));
          row = one_element [] a meta_tag (named (codes "x") (codes "xmpmeta")) (named (codes "x") (codes "xmpmeta")) meta_attributes meta_start
              (root_start ++ (description_start ++ written c packet_end)) (codes "</x:xmpmeta>") [] _ refl (start_meta faults)
              (one_element meta_scope b (bare_rdf (codes "RDF")) (named (codes "rdf") (codes "RDF")) (named (codes "rdf") (codes "RDF")) root_attributes
              root_start (description_start ++ written c packet_end) (codes "</rdf:RDF>") (codes "</x:xmpmeta>") _ refl (start_root faults)
              (one_element root_scope d description_tag (named (codes "rdf") (codes "Description")) (named (codes "rdf") (codes "Description"))
              description_attributes description_start (written c packet_end) (codes "</rdf:Description>") (codes "</rdf:RDF></x:xmpmeta>") inner refl
              (start_description faults) row end_description) end_root) end_meta;
        };
        means = packet_means c inner es a b d mean (row_ordered Structure c es ordered rows);
      },
      λ u. (tt, (tt, (tt, heard u, tt), tt), tt),
    )

pub normal_says : NormalReadsBack → NormalBound → FaultOrText → NormalSays
normal_says reads bounds faults c can readable = (packet_says reads bounds faults c can readable).0
