-- What is read of rdf:RDF and of the root.
use Rattle.std.proofs.Common.{◌≡◌, ℕ, Bool, true, false, Option, Some, None, option_map, List, [], ◌∷◌, ◌++◌, refl, sym, ap, subst, ◌∙◌, inl, inr, append_assoc, append-nil, map, if◌then◌else◌, codes}
use Rattle.std.proofs.lemmas.Option.{same_Some}
use Rattle.std.proofs.lemmas.Bool.{both_ways}
use Rattle.px_xmp_text.specs.Texts.{text_of}
use Rattle.px_xmp_text.specs.Values.{Content, End}
use Rattle.px_xmp_forms.specs.Entries.{Entry, row}
use Rattle.px_xmp.specs.Nodes.{Nodes, Nothing, Words, Element, AreNodes}
use Rattle.px_xmp.specs.Meaning.{AreWhite, AreAttributes, AreEntries, AreAbout, without_about, AreSubjects, IsAlone, IsRootOf, HasRoot, IsRdf, Means}
use Rattle.px_xmp.specs.Refusals.{IsNamedRdf, AreAllAbout, NamesSeveral}
use Rattle.px_xmp_text.specs.declared.pieces.TextKind.TheVariants.{AttributeValue}
use Rattle.px_xmp_text.specs.Values.{Structure}
use Rattle.px_xmp_marks.specs.Reading.{Attr, next_view}
use Rattle.px_xmp_marks.specs.declared.listing.NextAttribute.{NextAttribute}
use Rattle.px_xmp_document.specs.Scopes.{Item, ended}
use Rattle.px_xmp_forms.specs.Outputs.{State, Has, nothing, begun, changed, properties_ended, JoinsProperties}
use Rattle.px_xmp_forms.specs.declared.output.Output.{Output}
use Rattle.px_xmp.specs.Names.{Name, is_rdf, is_root, is_about}
use Rattle.px_xmp.specs.Tags.{Tag, Field, DeclaresLanguage, field_of, fields_in, plain, inherited}
use Rattle.px_xmp.specs.Meaning.{IsRow}
use Rattle.px_xmp.specs.declared.elements.Opened.{Opened}
use Rattle.px_xmp.specs.declared.source.Source.{Source}
use Rattle.px_xmp.specs.declared.subject.Subject.{Subject}
use Rattle.px_xmp.specs.calls.Listed.{AreListed, IsNextPlain}
use Rattle.px_xmp.specs.calls.Opening.{name_of, IsOpened}
use Rattle.px_xmp.specs.calls.Steps.{IsLeft, Moves, IsStart, TagAfter, HasInside, InsideRead, AfterRead}
use Rattle.px_xmp.specs.Readable.{IsShallow}
use Rattle.px_xmp.specs.calls.Contents.{with_entries, attribute, AreShallow, ItemsRead}
use Rattle.px_xmp.specs.calls.Roots.{IsSubject, Keeps, Stays, NamesOne, IsNew, IsAbout, AttributeRead, AttributesRead, SubjectRead, SubjectsRead, RdfRead, AroundRead, RootRead, DocumentRead}
use Rattle.px_xmp.proofs.TagLaws.{ended_inside}
use Rattle.px_xmp.proofs.StepLaws.{joined, nodes_joined, white_joined, moves_on}
use Rattle.px_xmp.proofs.OpeningLaws.{no_entries, entry_after, entries_after, attribute_after}
use Rattle.px_xmp.proofs.ContentLaws.{element_read, structure_row}
use Rattle.px_xmp.proofs.DepthLaws.{shallow_append, row_shallow}
use Rattle.px_xmp.proofs.MeaningLaws.{no_root}
use Rattle.px_xmp.proofs.NodeLaws.{nodes_once}
use Rattle.px_xmp.specs.Laws.{KindsAreRead}

-- what was read, of a source whose scope alone has changed
pub inside_kept : (empty : Bool) (nodes : Nodes) (old mid new : Source) → new.rest.now ≡ mid.rest.now → new.at ≡ mid.at → InsideRead empty nodes old mid
    → InsideRead empty nodes old new
inside_kept empty nodes old mid new rest at h = record {
  row = subst (λ (z : List ℕ). HasInside empty nodes old.scope old.at old.rest.now z) (sym rest) h.row;
  moves = subst (λ (z : List ℕ). Moves old.at old.rest.now new.at z) (sym rest)
      (subst (λ (z : ℕ). Moves old.at old.rest.now z mid.rest.now) (sym at) h.moves);
}

-- ---- subjects, one after another

pub subjects_joined : (u : Option (List ℕ)) (l : List ℕ) (a b : Nodes) (es fs : List Entry) → AreSubjects u l a es → AreSubjects u l b fs
    → AreSubjects u l (joined a b) (es ++ fs)
subjects_joined u l Nothing b es fs e f = subst (λ (q : List Entry). AreSubjects u l b (q ++ fs)) (sym e) f
subjects_joined u l (Words t more) b es fs (e, r) f = (e, subjects_joined u l more b es fs r f)
subjects_joined u l (Element tag place inner more) b es fs (declares, is, about, as1, own, others, p, q, r, e) f = (
  declares,
  is,
  about,
  as1,
  own,
  others ++ fs,
  p,
  q,
  subjects_joined u l more b others fs r f,
  ap (λ (z : List Entry). z ++ fs) e ∙ append_assoc as1 (own ++ others) fs ∙ ap (λ (z : List Entry). as1 ++ z) (append_assoc own others fs),
)

pub white_subjects : (u : Option (List ℕ)) (l : List ℕ) (a : Nodes) → AreWhite a → AreSubjects u l a []
white_subjects u l Nothing h = refl
white_subjects u l (Words t more) (e, r) = (e, white_subjects u l more r)
white_subjects u l (Element tag place inner more) h = absurd h

pub white_alone : (P : Tag → Nodes → Type 0) (a b : Nodes) → AreWhite a → IsAlone P b → IsAlone P (joined a b)
white_alone P Nothing b h m = m
white_alone P (Words t more) b (e, r) m = (e, white_alone P more b r m)
white_alone P (Element tag place inner more) b h m = absurd h

-- ---- the attributes of rdf:Description in rdf:RDF

-- no other subject, from one to the next
pub keeps_on : (a b c : Subject) (P Q : Option (List ℕ) → Type 0) → Keeps a b P → Keeps b c Q → Keeps a c (λ u. P u × Q u)
keeps_on a b c P Q k l h =
    let (e, second) = l h in
    let (d, first) = k e in
    (d, λ u s. (let (m, q) = second u s in let (n, p) = first u m in (n, (p, q))))

pub keeps_with : (a b : Subject) (P Q : Option (List ℕ) → Type 0) → ((u : Option (List ℕ)) → P u → Q u) → Keeps a b P → Keeps a b Q
keeps_with a b P Q f k h = let (d, first) = k h in (d, λ u s. (let (n, p) = first u s in (n, f u p)))

pub stays_on : (a b c : Subject) (P Q : Option (List ℕ) → Type 0) → Stays a b P → Stays b c Q → Stays a c (λ u. P u × Q u)
stays_on a b c P Q k l u none is both = let (other, now) = k u none is both.0 in l u other now both.1

pub stays_with : (a b : Subject) (P Q : Option (List ℕ) → Type 0) → ((u : Option (List ℕ)) → Q u → P u) → Stays a b P → Stays a b Q
stays_with a b P Q f k u none is q = k u none is (f u q)

about_front : (u : Option (List ℕ)) (fs : List Field) (f : Field) → AreAbout u (fs ++ f ∷ [])
    → AreAbout u fs × (is_about f.name ≡ true → IsAbout f.value u)
about_front u [] f (h, k) = (tt, h)
about_front u (g ∷ fs) f (h, k) = let (front, last) = about_front u fs f k in ((h, front), last)

about_after : (u : Option (List ℕ)) (fs : List Field) (f : Field) → AreAbout u fs → (is_about f.name ≡ true → IsAbout f.value u) → AreAbout u (fs ++ f ∷ [])
about_after u [] f h k = (k, tt)
about_after u (g ∷ fs) f h k = (h.0, about_after u fs f h.1 k)

abbrev or_field : Bool → Field → List Field → List Field
or_field true f fs = fs
or_field false f fs = f ∷ fs

or_after : (b : Bool) (g : Field) (fs gs : List Field) → or_field b g (fs ++ gs) ≡ or_field b g fs ++ gs
or_after true g fs gs = refl
or_after false g fs gs = refl

without_is : (f : Field) (fs : List Field) → without_about (f ∷ fs) ≡ or_field (is_about f.name) f (without_about fs)
without_is f fs = by (is_about f.name)
  where
    by : (b : Bool) → (if b then without_about fs else f ∷ without_about fs) ≡ or_field b f (without_about fs)
    by true = refl
    by false = refl

without_after : (fs : List Field) (f : Field) → without_about (fs ++ f ∷ []) ≡ without_about fs ++ without_about (f ∷ [])
without_after [] f = refl
without_after (g ∷ fs) f =
    without_is g (fs ++ f ∷ []) ∙ ap (λ (z : List Field). or_field (is_about g.name) g z) (without_after fs f)
    ∙ or_after (is_about g.name) g (without_about fs) (without_about (f ∷ [])) ∙ ap (λ (z : List Field). z ++ without_about (f ∷ [])) (sym (without_is g fs))

-- entries were put of the first fields, and the attributes that are left have the others
pub record AttributesLeft (n : Option NextAttribute) (scope : List Item) (all : List Attr) (l : List ℕ) (depth place : ℕ) (s : State) (old new : Subject)
    (output : Output) : Type 0 where
  pub fields : List Field
  pub entries : List Entry
  pub more : List Attr
  pub found : IsNextPlain (option_map next_view n) more
  pub whole : fields_in scope all ≡ fields ++ fields_in scope more
  pub are : AreAttributes l place (without_about fields) entries
  pub shallow : AreShallow depth entries
  pub about : Keeps old new (λ u. AreAbout u fields)
  pub only : Stays old new (λ u. AreAbout u fields)
  pub has : Has output (changed (with_entries entries) s)

pub attributes_begin : (n : Option NextAttribute) (scope : List Item) (all : List Attr) (l : List ℕ) (depth place : ℕ) (s : State) (subject : Subject)
    (output : Output) → IsNextPlain (option_map next_view n) all → Has output s → AttributesLeft n scope all l depth place s subject subject output
attributes_begin n scope all l depth place s subject output found has =
    record {
      fields = [];
      entries = [];
      more = all;
      found = found;
      whole = refl;
      are = refl;
      shallow = tt;
      about = λ h. (h, λ u k. (k, tt));
      only = λ u none is h. (none, is);
      has = subst (λ (z : State). Has output z) (sym (no_entries s)) has;
    }

attributes_step : (n : Option NextAttribute) (scope : List Item) (all more : List Attr) (l : List ℕ) (depth place : ℕ) (s : State)
    (old now new : Subject) (before after : Output) (fields : List Field) (entries : List Entry) (f : Field) → IsNextPlain (option_map next_view n) more
    → fields_in scope all ≡ (fields ++ f ∷ []) ++ fields_in scope more → AreAttributes l place (without_about fields) entries → AreShallow depth entries
    → Keeps old now (λ u. AreAbout u fields) → Stays old now (λ u. AreAbout u fields)
    → AttributeRead f l depth place (changed (with_entries entries) s) now new after → AttributesLeft n scope all l depth place s old new after
attributes_step n scope all more l depth place s old now new before after fields entries f found whole are shallow about only (inl (is, keeps, stays, has)) =
    record {
      fields = fields ++ f ∷ [];
      entries = entries;
      more = more;
      found = found;
      whole = whole;
      are = subst (λ (z : List Field). AreAttributes l place z entries)
          (sym (without_after fields f ∙ ap (λ (b : Bool). without_about fields ++ (if b then [] else f ∷ [])) is ∙ append-nil (without_about fields))) are;
      shallow = shallow;
      about = keeps_with old new (λ u. AreAbout u fields × IsAbout f.value u) (λ u. AreAbout u (fields ++ f ∷ []))
          (λ u p. about_after u fields f p.0 (λ e. p.1)) (keeps_on old now new (λ u. AreAbout u fields) (IsAbout f.value) about keeps);
      only = stays_with old new (λ u. AreAbout u fields × IsAbout f.value u) (λ u. AreAbout u (fields ++ f ∷ []))
          (λ u p. let (front, last) = about_front u fields f p in (front, last is))
          (stays_on old now new (λ u. AreAbout u fields) (IsAbout f.value) only stays);
      has = has;
    }
attributes_step n scope all more l depth place s old now new before after fields entries f found whole are shallow about only (inr (is, same, put)) =
    record {
      fields = fields ++ f ∷ [];
      entries = entries ++ attribute put.label place l put.text ∷ [];
      more = more;
      found = found;
      whole = whole;
      are = subst (λ (z : List Field). AreAttributes l place z (entries ++ attribute put.label place l put.text ∷ []))
          (sym (without_after fields f ∙ ap (λ (b : Bool). without_about fields ++ (if b then [] else f ∷ [])) is))
          (attribute_after l place (without_about fields) entries f put.label put.text are put.named put.says);
      shallow = shallow_append depth entries (attribute put.label place l put.text ∷ []) shallow ((put.shallow, tt), tt);
      about = subst (λ (z : Subject). Keeps old z (λ u. AreAbout u (fields ++ f ∷ []))) (sym same)
          (keeps_with old now (λ u. AreAbout u fields) (λ u. AreAbout u (fields ++ f ∷ []))
          (λ u p. about_after u fields f p (λ e. absurd (both_ways (is_about f.name) is e))) about);
      only = subst (λ (z : Subject). Stays old z (λ u. AreAbout u (fields ++ f ∷ []))) (sym same)
          (stays_with old now (λ u. AreAbout u fields) (λ u. AreAbout u (fields ++ f ∷ [])) (λ u p. (about_front u fields f p).0) only);
      has = subst (λ (z : State). Has after z) (entry_after s entries (attribute put.label place l put.text)) put.has;
    }

-- one more was read
pub attributes_next : (m n : Option NextAttribute) (x : NextAttribute) (scope : List Item) (all : List Attr) (l : List ℕ) (depth place : ℕ) (s : State)
    (old now new : Subject) (before after : Output) → m ≡ Some x → (left : AttributesLeft m scope all l depth place s old now before)
    → ((rest : List Attr) → AreListed x.rest.now rest → IsNextPlain (option_map next_view n) rest)
    → AttributeRead (field_of scope (next_view x).attribute) l depth place (changed (with_entries left.entries) s) now new after
    → AttributesLeft n scope all l depth place s old new after
attributes_next m n x scope all l depth place s old now new before after is left next put =
    let (more, listed, same) = subst (λ (z : Option NextAttribute). IsNextPlain (option_map next_view z) left.more) is left.found in
    attributes_step n scope all more l depth place s old now new before after left.fields left.entries (field_of scope (next_view x).attribute)
    (next more listed)
    (left.whole ∙ ap (λ (z : List Attr). left.fields ++ map (field_of scope) z) same
    ∙ sym (append_assoc left.fields (field_of scope (next_view x).attribute ∷ []) (fields_in scope more))) left.are left.shallow left.about left.only put

-- all were read
pub attributes_end : (n : Option NextAttribute) (scope : List Item) (all : List Attr) (l : List ℕ) (depth place : ℕ) (s : State) (old new : Subject)
    (output : Output) → n ≡ None → AttributesLeft n scope all l depth place s old new output → AttributesRead (fields_in scope all) l depth place s old new output
attributes_end n scope all l depth place s old new output is left =
    let none : plain left.more ≡ [] = subst (λ (z : Option NextAttribute). IsNextPlain (option_map next_view z) left.more) is left.found in
    let whole : fields_in scope all ≡ left.fields =
    left.whole ∙ ap (λ (z : List Attr). left.fields ++ map (field_of scope) z) none ∙ append-nil left.fields in
    record {
      entries = left.entries;
      are = subst (λ (z : List Field). AreAttributes l place (without_about z) left.entries) (sym whole) left.are;
      shallow = left.shallow;
      about = subst (λ (z : List Field). Keeps old new (λ u. AreAbout u z)) (sym whole) left.about;
      only = subst (λ (z : List Field). Stays old new (λ u. AreAbout u z)) (sym whole) left.only;
      has = left.has;
    }

-- ---- rdf:Description in rdf:RDF

pub subject_done : (o : Opened) (t : Tag) (outer l : List ℕ) (outside depth place : ℕ) (fields : List Field) (old mid at_end new : Source) (before after : Subject)
    (s : State) (middle output : Output) → DeclaresLanguage t.language → is_rdf (codes "Description") (name_of o.name) ≡ true
    → name_of o.name ≡ t.name
    → l ≡ inherited outer t.language → depth ≡ outside → place ≡ o.place → fields ≡ t.fields → mid ≡ old → new.rest.now ≡ at_end.rest.now → new.at ≡ at_end.at
    → new.scope ≡ ended at_end.scope → (a : AttributesRead fields l depth place s before after middle)
    → ItemsRead o.is_empty Structure l depth mid at_end (changed (with_entries a.entries) s) output
    → SubjectRead o t outer outside old new before after s output
subject_done o t outer l outside depth place fields old mid at_end new before after s middle output declares named name language inner here same source rest at scope a items =
    let read : ItemsRead o.is_empty Structure l depth old at_end (changed (with_entries a.entries) s) output =
    subst (λ (z : Source). ItemsRead o.is_empty Structure l depth z at_end (changed (with_entries a.entries) s) output) source items in
    record {
      nodes = read.nodes;
      attributes = a.entries;
      entries = read.entries;
      declares = declares;
      named = ap (λ (z : Name). is_rdf (codes "Description") z) (sym name) ∙ named;
      inside = inside_kept o.is_empty read.nodes old at_end new rest at read.inside;
      attributes_are =
          subst (λ (z : List Field). AreAttributes (inherited outer t.language) o.place (without_about z) a.entries) same
          (subst (λ (z : List ℕ). AreAttributes z o.place (without_about fields) a.entries) language
          (subst (λ (z : ℕ). AreAttributes l z (without_about fields) a.entries) here a.are));
      are = subst (λ (z : List ℕ). AreEntries Structure z read.nodes read.entries) language read.are;
      about = subst (λ (z : List Field). Keeps before after (λ u. AreAbout u z)) same a.about;
      shallow = subst (λ (z : ℕ). AreShallow z (a.entries ++ read.entries)) inner
          (shallow_append depth a.entries read.entries a.shallow read.shallow);
      only = subst (λ (z : List Field). Stays before after (λ u. AreAbout u z)) same a.only;
      scope = scope ∙ ap ended read.scope;
      has = subst (λ (z : State). Has output z) (entries_after s a.entries read.entries) read.has;
    }

-- ---- subjects, one after another

all_about_front : (u : Option (List ℕ)) (a b : Nodes) → AreAllAbout u (joined a b) → AreAllAbout u a × AreAllAbout u b
all_about_front u Nothing b h = (tt, h)
all_about_front u (Words t more) b h = all_about_front u more b h
all_about_front u (Element tag place inner more) b (about, h) = let (front, last) = all_about_front u more b h in ((about, front), last)

-- elements that are read are about their subject
pub are_all_about : (u : Option (List ℕ)) (l : List ℕ) (nodes : Nodes) (es : List Entry) → AreSubjects u l nodes es → AreAllAbout u nodes
are_all_about u l Nothing es h = tt
are_all_about u l (Words t more) es (white, h) = are_all_about u l more es h
are_all_about u l (Element tag place inner more) es (declares, is, about, as1, own, others, p, q, r, e) = (about, are_all_about u l more others r)

pub record SubjectsSoFar (l : List ℕ) (depth : ℕ) (old now : Source) (before after : Subject) (s : State) (output : Output) : Type 0 where
  pub nodes : Nodes
  pub entries : List Entry
  pub octets : AreNodes nodes old.scope old.at old.rest.now now.rest.now
  pub are : Keeps before after (λ u. AreSubjects u l nodes entries)
  pub shallow : AreShallow depth entries
  pub only : Stays before after (λ u. AreAllAbout u nodes)
  pub scope : now.scope ≡ old.scope
  pub moves : Moves old.at old.rest.now now.at now.rest.now
  pub has : Has output (changed (with_entries entries) s)

pub subjects_begin : (l : List ℕ) (depth : ℕ) (old : Source) (subject : Subject) (s : State) (output : Output) → IsLeft old.at old.rest.now → Has output s
    → SubjectsSoFar l depth old old subject subject s output
subjects_begin l depth old subject s output left has =
    record {
      nodes = Nothing;
      entries = [];
      octets = refl;
      are = λ h. (h, λ u k. (k, refl));
      shallow = tt;
      only = λ u none is h. (none, is);
      scope = refl;
      moves = record { left = left; same = refl };
      has = subst (λ (z : State). Has output z) (sym (no_entries s)) has;
    }

pub subjects_next : (l : List ℕ) (depth : ℕ) (old a b d : Source) (subject before after : Subject) (s : State) (middle output : Output) (o : Opened) (white : Nodes)
    → (so : SubjectsSoFar l depth old a subject before s middle) → AreWhite white → TagAfter (Some o) white a b
    → ((t : Tag) → IsOpened b.scope o t → SubjectRead o t l depth b d before after (changed (with_entries so.entries) s) output)
    → SubjectsSoFar l depth old d subject after s output
subjects_next l depth old a b d subject before after s middle output o white so is_white tag read =
    let (t, start) = tag.is in
    let v = read t start.opened in
    let one : Nodes = Element t o.place v.nodes Nothing in
    let es : List Entry = v.attributes ++ v.entries in
    let first : AreNodes one a.scope tag.at tag.octets d.rest.now =
    element_read o t a.scope b.scope tag.at b.at tag.octets b.rest.now d.rest.now v.nodes start v.inside.row (sym tag.place ∙ tag.moves.same) in
    let two : AreNodes (joined white one) a.scope a.at a.rest.now d.rest.now =
    nodes_joined white one a.scope a.at tag.at a.rest.now tag.octets d.rest.now tag.row first tag.place in
    record {
      nodes = joined so.nodes (joined white one);
      entries = so.entries ++ es;
      octets =
          nodes_joined so.nodes (joined white one) old.scope old.at a.at old.rest.now a.rest.now d.rest.now so.octets
          (subst (λ (q : List Item). AreNodes (joined white one) q a.at a.rest.now d.rest.now) so.scope two) so.moves.same;
      are = keeps_with subject after (λ u. AreSubjects u l so.nodes so.entries × AreAbout u t.fields)
          (λ u. AreSubjects u l (joined so.nodes (joined white one)) (so.entries ++ es))
          (λ u p. subjects_joined u l so.nodes (joined white one) so.entries es p.0
          (subjects_joined u l white one [] es (white_subjects u l white is_white) (
            v.declares,
            v.named,
            p.1,
            v.attributes,
            v.entries,
            [],
            v.attributes_are,
            v.are,
            refl,
            ap (λ (z : List Entry). v.attributes ++ z) (sym (append-nil v.entries)),
          )))
          (keeps_on subject before after (λ u. AreSubjects u l so.nodes so.entries) (λ u. AreAbout u t.fields) so.are v.about);
      shallow = shallow_append depth so.entries es so.shallow v.shallow;
      only = stays_with subject after (λ u. AreAllAbout u so.nodes × AreAbout u t.fields) (λ u. AreAllAbout u (joined so.nodes (joined white one)))
          (λ u h.
          let (front, more) = all_about_front u so.nodes (joined white one) h in
          let (blank, (about, none)) = all_about_front u white one more in
          (front, about))
          (stays_on subject before after (λ u. AreAllAbout u so.nodes) (λ u. AreAbout u t.fields) so.only v.only);
      scope = v.scope ∙ ap ended start.inner_is ∙ ended_inside a.scope start.attributes ∙ so.scope;
      moves = moves_on old.at a.at d.at old.rest.now a.rest.now d.rest.now so.moves
          (moves_on a.at b.at d.at a.rest.now b.rest.now d.rest.now tag.moves v.inside.moves);
      has = subst (λ (z : State). Has output z) (entries_after s so.entries es) v.has;
    }

pub subjects_end : (l : List ℕ) (depth : ℕ) (old a b : Source) (subject after : Subject) (s : State) (output : Output) (white : Nodes)
    → SubjectsSoFar l depth old a subject after s output → AreWhite white → TagAfter None white a b
    → SubjectsRead false l depth old b subject after s output
subjects_end l depth old a b subject after s output white so is_white tag =
    let ((m, kind, whole), same) = tag.is in
    record {
      nodes = joined so.nodes white;
      entries = so.entries;
      inside = record {
        row = (
          m,
          nodes_joined so.nodes white old.scope old.at a.at old.rest.now a.rest.now (m ++ b.rest.now) so.octets
              (subst (λ (q : List Item). AreNodes white q a.at a.rest.now (m ++ b.rest.now)) so.scope
              (subst (λ (q : List ℕ). AreNodes white a.scope a.at a.rest.now q) whole tag.row)) so.moves.same,
          kind,
        );
        moves = moves_on old.at a.at b.at old.rest.now a.rest.now b.rest.now so.moves tag.moves;
      };
      are = keeps_with subject after (λ u. AreSubjects u l so.nodes so.entries) (λ u. AreSubjects u l (joined so.nodes white) so.entries)
          (λ u p. subst (λ (q : List Entry). AreSubjects u l (joined so.nodes white) q) (append-nil so.entries)
          (subjects_joined u l so.nodes white so.entries [] p (white_subjects u l white is_white))) so.are;
      shallow = so.shallow;
      only = stays_with subject after (λ u. AreAllAbout u so.nodes) (λ u. AreAllAbout u (joined so.nodes white))
          (λ u h. (all_about_front u so.nodes white h).0) so.only;
      scope = same ∙ so.scope;
      has = so.has;
    }

pub subjects_none : (empty : Bool) (l : List ℕ) (depth : ℕ) (old : Source) (subject : Subject) (s : State) (output : Output) → empty ≡ true → IsLeft old.at old.rest.now
    → Has output s → SubjectsRead empty l depth old old subject subject s output
subjects_none empty l depth old subject s output is left has =
    record {
      nodes = Nothing;
      entries = [];
      inside = record {
        row = subst (λ (z : Bool). HasInside z Nothing old.scope old.at old.rest.now old.rest.now) (sym is) (refl, refl);
        moves = record { left = left; same = refl };
      };
      are = λ h. (h, λ u k. (k, refl));
      shallow = tt;
      only = λ u none is h. (none, is);
      scope = refl;
      has = subst (λ (z : State). Has output z) (sym (no_entries s)) has;
    }

-- ---- rdf:RDF

-- the text of the subject that was named, if one was
pub has_subject : (s : Subject) → (u : Option (List ℕ)) × IsSubject s u
has_subject s = by (option_map (λ x. x.now) s.value)
  where
    by : (m : Option (List ℕ)) → (u : Option (List ℕ)) × ((v : List ℕ) → m ≡ Some v → text_of AttributeValue v ≡ u)
    by None = (None, λ v e. absurd (cc))
    by (Some x) = (text_of AttributeValue x, λ v e. ap (text_of AttributeValue) (sym (same_Some x v e)))

-- none was named, so that it is any
pub no_subject : (s : Subject) (u : Option (List ℕ)) → s.value ≡ None → IsSubject s u
no_subject s u none v e = let wrong : None ≡ Some v = sym (ap (λ m. option_map (λ x. x.now) m) none) ∙ e in absurd (cc)

-- no attribute declares nothing
pub no_fields : (scope : List Item) (all : List Attr) → plain all ≡ [] → fields_in scope all ≡ []
no_fields scope all none = ap (λ (z : List Attr). map (field_of scope) z) none

-- the properties of rdf:RDF were joined, and are those of the packet
-- nothing was put
abbrev pub empty_state : State
empty_state = record { opened = []; properties = End }

pub rdf_row : (es : List Entry) (after : State) (first second : Output) → JoinsProperties (changed (with_entries es) (begun nothing empty_state)) after
    → Has first after → ((s : State) → Has first s → Has second (properties_ended s))
    → (c : Content) × IsRow Structure es c × Has second (record { opened = []; properties = c })
rdf_row es after first second joins has ended_as =
    let (fs, row_is, now) = structure_row (changed (with_entries es) (begun nothing empty_state)) after es [] first refl joins has in
    (row fs, row_is, ended_as _ now)

pub rdf_done : (o : Opened) (t : Tag) (l : List ℕ) (depth : ℕ) (old mid new : Source) (before after : Subject) (s : State) (middle output : Output) (c : Content)
    → DeclaresLanguage t.language → is_rdf (codes "RDF") (name_of o.name) ≡ true → name_of o.name ≡ t.name → l ≡ inherited [] t.language → depth ≡ 3 → t.fields ≡ []
    → new.rest.now ≡ mid.rest.now → new.at ≡ mid.at → new.scope ≡ ended mid.scope
    → IsNew before → (r : SubjectsRead o.is_empty l depth old mid before after s middle) → IsRow Structure r.entries c
    → Has output (record { opened = []; properties = c }) → RdfRead o t old new after output
rdf_done o t l depth old mid new before after s middle output c declares named name language three none rest at scope new_one r line has =
    record {
      nodes = r.nodes;
      content = c;
      inside = inside_kept o.is_empty r.nodes old mid new rest at r.inside;
      is = λ h. (let (e, each) = r.are h in
          let (u, subject) = has_subject after in
          let (kept, are) = each u subject in (
            declares,
            ap (λ (z : Name). is_rdf (codes "RDF") z) (sym name) ∙ named,
            none,
            u,
            r.entries,
            subst (λ (z : List ℕ). AreSubjects u z r.nodes r.entries) language are,
            line,
          ));
      shallow = subst (λ (z : ℕ). IsShallow z c) three (row_shallow depth Structure r.entries c line r.shallow);
      only = (
        ap (λ (z : Name). is_rdf (codes "RDF") z) (sym name) ∙ named,
        λ u about. (r.only u new_one.1 (no_subject before u new_one.0) about).0,
      );
      scope = scope ∙ ap ended r.scope;
      has = has;
    }

-- ---- the root

alone_joined : (P : Tag → Nodes → Type 0) (a b : Nodes) → IsAlone P a → AreWhite b → IsAlone P (joined a b)
alone_joined P Nothing b h w = absurd h
alone_joined P (Words t more) b (e, h) w = (e, alone_joined P more b h w)
alone_joined P (Element tag place inner more) b (is, white) w = (is, white_joined more b white w)

-- one element with white space around it
alone_among : (P : Tag → Nodes → Type 0) (white blank : Nodes) (t : Tag) (place : ℕ) (inner : Nodes) → AreWhite white → AreWhite blank → P t inner
    → IsAlone P (joined (joined white (Element t place inner Nothing)) blank)
alone_among P white blank t place inner w v is =
    alone_joined P (joined white (Element t place inner Nothing)) blank (white_alone P white (Element t place inner Nothing) w (is, tt)) v

-- white space and an element, whose content was read
element_after : (o : Opened) (white : Nodes) (t : Tag) (old mid on : Source) (nodes : Nodes) (tag : TagAfter (Some o) white old mid)
    → IsStart o t old.scope mid.scope tag.at tag.octets mid.rest.now → InsideRead o.is_empty nodes mid on
    → AreNodes (joined white (Element t o.place nodes Nothing)) old.scope old.at old.rest.now on.rest.now × Moves old.at old.rest.now on.at on.rest.now
element_after o white t old mid on nodes tag start read =
    let one : Nodes = Element t o.place nodes Nothing in (
      nodes_joined white one old.scope old.at tag.at old.rest.now tag.octets on.rest.now tag.row
          (element_read o t old.scope mid.scope tag.at mid.at tag.octets mid.rest.now on.rest.now nodes start read.row
          (sym tag.place ∙ tag.moves.same)) tag.place,
      moves_on old.at mid.at on.at old.rest.now mid.rest.now on.rest.now tag.moves read.moves,
    )

-- what is in scope after the element is what was before it
pub scope_after : (o : Opened) (white : Nodes) (t : Tag) (old mid on : Source) (tag : TagAfter (Some o) white old mid)
    → (start : IsStart o t old.scope mid.scope tag.at tag.octets mid.rest.now) → on.scope ≡ ended mid.scope → on.scope ≡ old.scope
scope_after o white t old mid on tag start same = same ∙ ap ended start.inner_is ∙ ended_inside old.scope start.attributes

pub around_done : (o : Opened) (white blank : Nodes) (old mid on new : Source) (after : Subject) (output : Output) → AreWhite white
    → TagAfter (Some o) white old mid → ((t : Tag) → IsOpened mid.scope o t → RdfRead o t mid on after output)
    → AreWhite blank → TagAfter None blank on new → AroundRead old new after output
around_done o white blank old mid on new after output is_white tag read is_blank last =
    let (t, start) = tag.is in
    let r = read t start.opened in
    let one : Nodes = joined white (Element t o.place r.nodes Nothing) in
    let (octets, moves) = element_after o white t old mid on r.nodes tag start r.inside in
    let scope : on.scope ≡ old.scope = scope_after o white t old mid on tag start r.scope in
    let ((m, kind, whole), same) = last.is in
    record {
      nodes = joined one blank;
      content = r.content;
      inside = record {
        row = (
          m,
          nodes_joined one blank old.scope old.at on.at old.rest.now on.rest.now (m ++ new.rest.now) octets
              (subst (λ (q : List Item). AreNodes blank q on.at on.rest.now (m ++ new.rest.now)) scope
              (subst (λ (q : List ℕ). AreNodes blank on.scope on.at on.rest.now q) whole last.row)) moves.same,
          kind,
        );
        moves = moves_on old.at on.at new.at old.rest.now on.rest.now new.rest.now moves last.moves;
      };
      only = alone_among (NamesOne after) white blank t o.place r.nodes is_white is_blank r.only;
      is = λ h. alone_among (IsRdf r.content) white blank t o.place r.nodes is_white is_blank (r.is h);
      shallow = r.shallow;
      scope = same ∙ scope;
      has = r.has;
    }

-- an element of another name than the root around rdf:RDF
pub rdf_alone : (P : Tag → Nodes → Type 0) (t : Tag) (nodes : Nodes) → is_root t.name ≡ false → IsRootOf P t nodes → P t nodes
rdf_alone P t nodes other (inl is) = is
rdf_alone P t nodes other (inr (is, others)) = absurd (both_ways (is_root t.name) other is)

pub around_alone : (P : Tag → Nodes → Type 0) (t : Tag) (nodes : Nodes) → (P t nodes → is_rdf (codes "RDF") t.name ≡ true) → is_root t.name ≡ true
    → IsRootOf P t nodes → IsAlone P nodes
around_alone P t nodes named is (inl h) = absurd (no_root t.name (named h) is)
around_alone P t nodes named is (inr (other, has)) = has

pub root_rdf : (o : Opened) (t : Tag) (old new : Source) (after : Subject) (output : Output) → is_root (name_of o.name) ≡ false
    → name_of o.name ≡ t.name → RdfRead o t old new after output → RootRead o t old new after output
root_rdf o t old new after output named name r =
    record {
      nodes = r.nodes;
      content = r.content;
      inside = r.inside;
      is = λ h. inl (r.is h);
      only = inl r.only;
      shallow = r.shallow;
      scope = r.scope;
      has = r.has;
    }

pub root_around : (o : Opened) (t : Tag) (old mid new : Source) (after : Subject) (output : Output) → is_root (name_of o.name) ≡ true
    → name_of o.name ≡ t.name → o.is_empty ≡ false → new.rest.now ≡ mid.rest.now → new.at ≡ mid.at → new.scope ≡ ended mid.scope
    → AroundRead old mid after output → RootRead o t old new after output
root_around o t old mid new after output named name some rest at scope r =
    record {
      nodes = r.nodes;
      content = r.content;
      inside = subst (λ (z : Bool). InsideRead z r.nodes old new) (sym some) (inside_kept false r.nodes old mid new rest at r.inside);
      is = λ h. inr (ap is_root (sym name) ∙ named, r.is h);
      shallow = r.shallow;
      only = inr (ap is_root (sym name) ∙ named, r.only);
      scope = scope ∙ ap ended r.scope;
      has = r.has;
    }

pub document_done : (o : Opened) (white : Nodes) (old mid on : Source) (after : Subject) (output : Output) → AreWhite white
    → TagAfter (Some o) white old mid → ((t : Tag) → IsOpened mid.scope o t → RootRead o t mid on after output)
    → (IsLeft on.at on.rest.now → AfterRead on) → after.other ≡ None → DocumentRead old output
document_done o white old mid on after output is_white tag read last h =
    let (t, start) = tag.is in
    let r = read t start.opened in
    let one : Nodes = joined white (Element t o.place r.nodes Nothing) in
    let (octets, moves) = element_after o white t old mid on r.nodes tag start r.inside in
    let (blank, is_blank, ending) = last moves.left in (
      joined one blank,
      r.content,
      nodes_joined one blank old.scope old.at on.at old.rest.now on.rest.now [] octets
          (subst (λ (q : List Item). AreNodes blank q on.at on.rest.now []) (scope_after o white t old mid on tag start r.scope) ending) moves.same,
      alone_among (IsRootOf (IsRdf r.content)) white blank t o.place r.nodes is_white is_blank (r.is h),
      r.shallow,
      r.has,
    )

-- a document that is read has rdf:RDF alone, and one subject if that names one
pub document_subject : KindsAreRead → (o : Opened) (white : Nodes) (old mid on : Source) (after : Subject) (output : Output) (all : Nodes)
    → AreWhite white → TagAfter (Some o) white old mid → ((t : Tag) → IsOpened mid.scope o t → RootRead o t mid on after output)
    → (IsLeft on.at on.rest.now → AfterRead on) → AreNodes all old.scope old.at old.rest.now [] → HasRoot (NamesOne after) all
document_subject law o white old mid on after output all is_white tag read last row =
    let (t, start) = tag.is in
    let r = read t start.opened in
    let one : Nodes = joined white (Element t o.place r.nodes Nothing) in
    let (octets, moves) = element_after o white t old mid on r.nodes tag start r.inside in
    let (blank, is_blank, ending) = last moves.left in
    let whole : AreNodes (joined one blank) old.scope old.at old.rest.now [] =
    nodes_joined one blank old.scope old.at on.at old.rest.now on.rest.now [] octets
    (subst (λ (q : List Item). AreNodes blank q on.at on.rest.now []) (scope_after o white t old mid on tag start r.scope) ending) moves.same in
    let (same, end) = nodes_once law all (joined one blank) old.scope old.at old.rest.now [] [] row whole (inl refl) (inl refl) in
    subst (HasRoot (NamesOne after)) (sym same) (alone_among (IsRootOf (NamesOne after)) white blank t o.place r.nodes is_white is_blank r.only)

-- ---- two views of one root

alone_both : (P Q : Tag → Nodes → Type 0) (R : Type 0) → ((t : Tag) (inner : Nodes) → P t inner → Q t inner → R) → (nodes : Nodes)
    → IsAlone P nodes → IsAlone Q nodes → R
alone_both P Q R f Nothing h k = absurd h
alone_both P Q R f (Words t more) (e, h) (d, k) = alone_both P Q R f more h k
alone_both P Q R f (Element tag place inner more) (is, white) (has, blank) = f tag inner is has

alone_map : (P Q : Tag → Nodes → Type 0) → ((t : Tag) (inner : Nodes) → P t inner → Q t inner) → (nodes : Nodes) → IsAlone P nodes → IsAlone Q nodes
alone_map P Q f Nothing h = h
alone_map P Q f (Words t more) (e, h) = (e, alone_map P Q f more h)
alone_map P Q f (Element tag place inner more) (is, white) = (f tag inner is, white)

root_map : (P Q : Tag → Nodes → Type 0) → ((t : Tag) (inner : Nodes) → P t inner → Q t inner) → (t : Tag) (inner : Nodes) → IsRootOf P t inner
    → IsRootOf Q t inner
root_map P Q f t inner (inl is) = inl (f t inner is)
root_map P Q f t inner (inr (named, has)) = inr (named, alone_map P Q f inner has)

pub document_map : (P Q : Tag → Nodes → Type 0) → ((t : Tag) (inner : Nodes) → P t inner → Q t inner) → (nodes : Nodes) → HasRoot P nodes → HasRoot Q nodes
document_map P Q f = alone_map (IsRootOf P) (IsRootOf Q) (root_map P Q f)

-- a meaning is of elements about one subject
rdf_subject : (s : Subject) (c : Content) (t : Tag) (inner : Nodes) → NamesOne s t inner → IsRdf c t inner → s.other ≡ None
rdf_subject s c t inner (named, one) (says, is, fields, u, es, are, line) = one u (are_all_about u (inherited [] t.language) inner es are)

root_subject : (s : Subject) (c : Content) (t : Tag) (inner : Nodes) → IsRootOf (NamesOne s) t inner → IsRootOf (IsRdf c) t inner → s.other ≡ None
root_subject s c t inner (inl h) (inl k) = rdf_subject s c t inner h k
root_subject s c t inner (inl h) (inr (is, k)) = absurd (no_root t.name h.0 is)
root_subject s c t inner (inr (is, h)) (inl k) = absurd (no_root t.name k.1 is)
root_subject s c t inner (inr (is, h)) (inr (also, k)) = alone_both (NamesOne s) (IsRdf c) (s.other ≡ None) (rdf_subject s c) inner h k

pub one_subject : (s : Subject) (c : Content) (nodes : Nodes) → HasRoot (NamesOne s) nodes → Means nodes c → s.other ≡ None
one_subject s c nodes h k = alone_both (IsRootOf (NamesOne s)) (IsRootOf (IsRdf c)) (s.other ≡ None) (root_subject s c) nodes h k

pub means_rdf : (nodes : Nodes) (c : Content) → Means nodes c → HasRoot IsNamedRdf nodes
means_rdf nodes c h = document_map (IsRdf c) IsNamedRdf (λ t inner is. is.1) nodes h

-- another subject was named, so that there are several
pub several_subjects : (s : Subject) (place : ℕ) (nodes : Nodes) → s.other ≡ Some place → HasRoot (NamesOne s) nodes → HasRoot NamesSeveral nodes
several_subjects s place nodes is h =
    document_map (NamesOne s) NamesSeveral (λ t inner one. (one.0, λ u about. let wrong : None ≡ Some place = sym (one.1 u about) ∙ is in absurd (cc))) nodes h
