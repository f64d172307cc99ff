-- What is read of an element, and what the output has of it.
use Rattle.std.proofs.Common.{◌≡◌, ◌≢◌, ◌≤◌, ◌+◌, ℕ, suc, codes, Bool, true, false, Some, None, List, [], ◌∷◌, ◌++◌, length, refl, sym, ap, subst, ◌∙◌, inl, inr, arith, length-append, append-nil}
use Rattle.px_xmp_text.specs.Values.{Label, Compound, Structure, Bag, Seq, Alt}
use Rattle.px_xmp_text.specs.Values as values
use Rattle.px_xmp_marks.specs.Reading.{Named, Attr}
use Rattle.px_xmp_document.specs.Scopes.{Item, ended}
use Rattle.px_xmp_forms.specs.Entries.{Entry, Inside, row, AreDistinct}
use Rattle.px_xmp_forms.specs.Outputs.{State, Open, Has, nothing, begun, changed, with_text, with_inner, with_entry, with_joined, value_of, node_ended, first_closed, first_entries, SortsIf, JoinsFirst, JoinsProperties}
use Rattle.px_xmp_forms.specs.declared.output.Output.{Output}
use Rattle.px_xmp_forms.specs.declared.labels.Content.{Content}
use Rattle.px_xmp_forms.specs.declared.labels.Content.TheVariants as content
use Rattle.px_xmp_forms.specs.declared.labels.Container.{Container}
use Rattle.px_xmp_forms.specs.declared.labels.Container.TheVariants as containers
use Rattle.px_xmp_forms.specs.Labels.{container_view}
use Rattle.px_xmp_forms.specs.Uris.{IsAbsolute}
use Rattle.px_xmp.specs.Names.{Name, is_rdf}
use Rattle.px_xmp_text.specs.Texts.{text_of}
use Rattle.px_xmp_text.specs.declared.pieces.TextKind.TheVariants.{AttributeValue}
use Rattle.px_xmp.specs.Marks.{Start}
use Rattle.px_xmp.specs.Tags.{Field, Tag, DeclaresLanguage, tag_of, inside, inherited}
use Rattle.px_xmp.specs.Nodes.{Nodes, Nothing, Words, Element, AreNodes}
use Rattle.px_xmp.specs.Meaning.{AreWhite, label_in, compound_of, AreEntries, IsNode, AreAttributes, Joins, IsRow}
use Rattle.px_xmp.specs.declared.elements.Opened.{Opened}
use Rattle.px_xmp.specs.declared.elements.Around.{Around}
use Rattle.px_xmp.specs.declared.elements.Node.{Node}
use Rattle.px_xmp.specs.declared.elements.Node.TheVariants as nodes
use Rattle.px_xmp.specs.declared.source.Source.{Source}
use Rattle.px_xmp.specs.calls.Opening.{name_of, node_view, IsOpened}
use Rattle.px_xmp.specs.calls.Steps.{IsLeft, Moves, IsFirst, IsStart, TagAfter, HasInside, EndRead}
use Rattle.px_xmp_markup.specs.Nesting.{limit}
use Rattle.px_xmp.specs.calls.Contents.{content_of, with_entries, AreShallow, IsShallowValue, is_bag, JoinsNode, PropertiesPut, NodeBegun, NodeEnded, HasValue, TextRead, ItemsRead, ValueRead, ContentRead, NodeRead}
use Rattle.px_xmp.proofs.TagLaws.{ended_inside}
use Rattle.px_xmp.proofs.StepLaws.{joined, nodes_joined, entries_joined, white_entries, moves_on}
use Rattle.px_xmp.proofs.OpeningLaws.{entry_after}
use Rattle.px_xmp.proofs.DepthLaws.{shallow_append, row_shallow, entry_shallow, node_shallow}

-- ---- the octets of an element

element_if : (b : Bool) (n : Named) (xs : List Attr) (tag : Tag) (place : ℕ) (scope inner : List Item) (at to : ℕ) (x y z : List ℕ) (all : Nodes)
    → IsFirst (Start n xs b) x y → HasInside b all inner to y z → tag ≡ tag_of scope n xs → inner ≡ inside scope xs → place ≡ at
    → at + length x ≡ to + length y → AreNodes (Element tag place all Nothing) scope at x z
element_if true n xs tag place scope inner at to x y z all (m, kind, whole) (none, same) t i p h =
    (n, xs, m, y, t, p, whole, inl (kind, none, same))
element_if false n xs tag place scope inner at to x y z all (m, kind, whole) (e, within, ends) t i p h = (
  n,
  xs,
  m,
  y,
  t,
  p,
  whole,
  inr (
    e,
    z,
    kind,
    subst (λ (q : List Item). AreNodes all q (at + length m) y (e ++ z)) i
        (subst (λ (q : ℕ). AreNodes all inner q y (e ++ z)) (omega (arith, h, ap length whole, length-append m y)) within),
    ends,
    refl,
  ),
)

-- an element whose content was read
pub element_read : (o : Opened) (tag : Tag) (scope inner : List Item) (at to : ℕ) (x y z : List ℕ) (all : Nodes) → IsStart o tag scope inner at x y
    → HasInside o.is_empty all inner to y z → at + length x ≡ to + length y → AreNodes (Element tag o.place all Nothing) scope at x z
element_read o tag scope inner at to x y z all s within h =
    element_if o.is_empty s.name s.attributes tag o.place scope inner at to x y z all s.first within s.tag_is s.inner_is s.place h

-- ---- items, one after another

pub record ItemsSoFar (c : Compound) (l : List ℕ) (depth : ℕ) (old now : Source) (s : State) (output : Output) : Type 0 where
  pub nodes : Nodes
  pub entries : List Entry
  pub octets : AreNodes nodes old.scope old.at old.rest.now now.rest.now
  pub are : AreEntries c l nodes entries
  pub shallow : AreShallow depth entries
  pub scope : now.scope ≡ old.scope
  pub moves : Moves old.at old.rest.now now.at now.rest.now
  pub has : Has output (changed (with_entries entries) s)

pub items_next : (c : Compound) (l : List ℕ) (depth : ℕ) (old a b d : Source) (s : State) (before after : Output) (o : Opened) (white : Nodes) (label : Label)
    → (so : ItemsSoFar c l depth old a s before) → AreWhite white → TagAfter (Some o) white a b → label_in c (name_of o.name) ≡ Some label
    → ((t : Tag) → IsOpened b.scope o t → ValueRead o t label l depth b d (changed (with_entries so.entries) s) after)
    → ItemsSoFar c l depth old d s after
items_next c l depth old a b d s before after o white label so is_white tag named value =
    let (t, start) = tag.is in
    let v = value t start.opened in
    let e : Entry = record { label = label; value = v.value; place = o.place } in
    let one : AreNodes (Element t o.place v.nodes Nothing) a.scope tag.at tag.octets d.rest.now =
    element_read o t a.scope b.scope tag.at b.at tag.octets b.rest.now d.rest.now v.nodes start v.inside.row
    (sym tag.place ∙ tag.moves.same) in
    let two : AreNodes (joined white (Element t o.place v.nodes Nothing)) a.scope a.at a.rest.now d.rest.now =
    nodes_joined white (Element t o.place v.nodes Nothing) a.scope a.at tag.at a.rest.now tag.octets d.rest.now tag.row one tag.place in
    record {
      nodes = joined so.nodes (joined white (Element t o.place v.nodes Nothing));
      entries = so.entries ++ e ∷ [];
      octets =
          nodes_joined so.nodes (joined white (Element t o.place v.nodes Nothing)) old.scope old.at a.at old.rest.now a.rest.now d.rest.now so.octets
          (subst (λ (q : List Item). AreNodes (joined white (Element t o.place v.nodes Nothing)) q a.at a.rest.now d.rest.now) so.scope two)
          so.moves.same;
      are =
          entries_joined c l so.nodes (joined white (Element t o.place v.nodes Nothing)) so.entries (e ∷ []) so.are
          (entries_joined c l white (Element t o.place v.nodes Nothing) [] (e ∷ []) (white_entries c l white is_white)
          (v.declares, label, v.value, [], ap (λ (q : Name). label_in c q) (sym start.opened.0) ∙ named, refl, refl, v.is));
      shallow = shallow_append depth so.entries (e ∷ []) so.shallow (v.shallow, tt);
      scope = v.scope ∙ ap ended start.inner_is ∙ ended_inside a.scope start.attributes ∙ so.scope;
      moves = moves_on old.at a.at d.at old.rest.now a.rest.now d.rest.now so.moves
          (moves_on a.at b.at d.at a.rest.now b.rest.now d.rest.now tag.moves v.inside.moves);
      has = subst (λ (z : State). Has after z) (entry_after s so.entries e) v.has;
    }

pub items_end : (c : Compound) (l : List ℕ) (depth : ℕ) (old a b : Source) (s : State) (output : Output) (white : Nodes) → ItemsSoFar c l depth old a s output
    → AreWhite white → TagAfter None white a b → ItemsRead false c l depth old b s output
items_end c l depth old a b s output white so is_white tag =
    let ((m, kind, whole), same) = tag.is in
    record {
      nodes = joined so.nodes white;
      entries = so.entries;
      inside = record {
        row = (
          m,
          nodes_joined so.nodes white old.scope old.at a.at old.rest.now a.rest.now (m ++ b.rest.now) so.octets
              (subst (λ (q : List Item). AreNodes white q a.at a.rest.now (m ++ b.rest.now)) so.scope
              (subst (λ (q : List ℕ). AreNodes white a.scope a.at a.rest.now q) whole tag.row)) so.moves.same,
          kind,
        );
        moves = moves_on old.at a.at b.at old.rest.now a.rest.now b.rest.now so.moves tag.moves;
      };
      are = subst (λ (q : List Entry). AreEntries c l (joined so.nodes white) q) (append-nil so.entries)
          (entries_joined c l so.nodes white so.entries [] so.are (white_entries c l white is_white));
      shallow = so.shallow;
      scope = same ∙ so.scope;
      has = so.has;
    }

-- ---- a value

pub value_done : (content : Content) (o : Opened) (t : Tag) (label : Label) (outer : List ℕ) (depth : ℕ) (a : Around) (old mid new : Source) (s : State)
    (before after : Output) → DeclaresLanguage t.language → a.language.now ≡ inherited outer t.language → a.place ≡ o.place
    → a.depth ≡ suc depth → a.depth ≤ limit → (r : ContentRead content o.is_empty t.fields a old mid s before) → new.rest.now ≡ mid.rest.now → new.at ≡ mid.at → new.scope ≡ ended mid.scope
    → Has after (changed (with_entry (record { label = label; value = value_of content r.element.text r.element.inner; place = a.place })) s)
    → ValueRead o t label outer depth old new s after
value_done content o t label outer depth a old mid new s before after declares language place deeper within r rest at scope has =
    record {
      nodes = r.nodes;
      value = value_of content r.element.text r.element.inner;
      inside = record {
        row = subst (λ (q : List ℕ). HasInside o.is_empty r.nodes old.scope old.at old.rest.now q) (sym rest) r.inside.row;
        moves = subst (λ (q : ℕ). Moves old.at old.rest.now q new.rest.now) (sym at)
            (subst (λ (q : List ℕ). Moves old.at old.rest.now mid.at q) (sym rest) r.inside.moves);
      };
      declares = declares;
      is = subst (λ (q : ℕ). HasValue (inherited outer t.language) q t.fields r.nodes (value_of content r.element.text r.element.inner)) place
          (subst (λ (q : List ℕ). HasValue q a.place t.fields r.nodes (value_of content r.element.text r.element.inner)) language r.is);
      shallow = entry_shallow depth a.depth label (value_of content r.element.text r.element.inner) deeper within r.shallow;
      scope = scope ∙ ap ended r.scope;
      has = subst
          (λ (q : ℕ). Has after (changed (with_entry
          (record { label = label; value = value_of content r.element.text r.element.inner; place = q })) s)) place has;
    }

-- ---- a node

pub node_closed : (after : State) (es fs : List Entry) (o : Open) (os : List Open) (p : values.Content) (output : Output)
    → after.opened ≡ with_joined fs (with_entries es nothing) ∷ o ∷ os → after.properties ≡ p → Has output (node_ended after)
    → Has output (record { opened = with_inner (row fs) o ∷ os; properties = p })
node_closed after es fs o os p output e f has =
    subst (λ (z : values.Content). Has output (record { opened = with_inner (row fs) o ∷ os; properties = z })) f
    (subst (λ (z : List Open). Has output (record { opened = first_closed z; properties = after.properties })) e has)

container_joined : (k : Container) (es fs : List Entry) → SortsIf (is_bag k) es fs → Joins (container_view k) es fs
container_joined containers.Bag es fs j = j
container_joined containers.Seq es fs j = j
container_joined containers.Alt es fs j = j

-- what joined entries are
abbrev pub IsJoined : Compound → List Entry → Open → List Open → values.Content → State → Type 0
IsJoined c es o os p after =
    (fs : List Entry) × Joins c es fs × (after.opened ≡ with_joined fs (with_entries es nothing) ∷ o ∷ os) × (after.properties ≡ p)

pub properties_joined : (s after : State) (es : List Entry) (o : Open) (os : List Open) → s.opened ≡ with_entries es nothing ∷ o ∷ os
    → JoinsProperties s after → IsJoined Structure es o os s.properties after
properties_joined s after es o os e (distinct, (joins, same)) =
    let (fs, sorts, opened) = subst (λ (z : List Open). JoinsFirst true z after.opened) e joins in
    (fs, (subst (λ (z : List Open). AreDistinct (first_entries z)) e distinct, sorts), opened, same)

pub node_joined : (node : Node) (s after : State) (es : List Entry) (o : Open) (os : List Open) → s.opened ≡ with_entries es nothing ∷ o ∷ os
    → JoinsNode node s after → IsJoined (node_view node) es o os s.properties after
node_joined nodes.Description s after es o os e j = properties_joined s after es o os e j
node_joined (nodes.Container k) s after es o os e (joins, same) =
    let (fs, sorts, opened) = subst (λ (z : List Open). JoinsFirst (is_bag k) z after.opened) e joins in
    (fs, container_joined k es fs sorts, opened, same)

-- a description was begun
pub description_begun : (t : Tag) (outer : List ℕ) (depth place : ℕ) (a : Around) (s : State) (output : Output) (all : List Field)
    → DeclaresLanguage t.language → a.language.now ≡ inherited outer t.language → a.place ≡ place → a.depth ≡ depth → all ≡ t.fields
    → PropertiesPut all a.language.now a.depth a.place (begun nothing s) output → NodeBegun nodes.Description t outer depth place a s output
description_begun t outer depth place a s output all declares language same inner fields put =
    record {
      declares = declares;
      language = language;
      entries = put.entries;
      are = subst (λ (z : List Field). AreAttributes (inherited outer t.language) place z put.entries) fields
          (subst (λ (z : ℕ). AreAttributes (inherited outer t.language) z all put.entries) same
          (subst (λ (z : List ℕ). AreAttributes z a.place all put.entries) language put.are));
      inner = inner;
      shallow = put.shallow;
      has = put.has;
    }

-- a description was joined: its properties are a structure
pub structure_row : (s after : State) (es : List Entry) (os : List Open) (output : Output) → s.opened ≡ with_entries es nothing ∷ os
    → JoinsProperties s after → Has output after
    → (fs : List Entry) × IsRow Structure es (row fs) × Has output (record { opened = with_joined fs (with_entries es nothing) ∷ os; properties = s.properties })
structure_row s after es os output e (distinct, (joins, same)) has =
    let (fs, sorts, opened) = subst (λ (z : List Open). JoinsFirst true z after.opened) e joins in (
      fs,
      (fs, (subst (λ (z : List Open). AreDistinct (first_entries z)) e distinct, sorts), refl),
      subst (λ (z : values.Content). Has output (record { opened = with_joined fs (with_entries es nothing) ∷ os; properties = z })) same
          (subst (λ (z : List Open). Has output (record { opened = z; properties = after.properties })) opened has),
    )

-- ---- the content of a property or an item, by its attributes

pub content_parsed : (empty : Bool) (fields : List Field) (a : Around) (old new : Source) (s after : State) (first before output : Output)
    → (f : Field) × (fields ≡ f ∷ []) × (is_rdf (codes "parseType") f.name ≡ true) × (f.value ≡ codes "Resource") × Has first (begun nothing s)
    → (r : ItemsRead empty Structure a.language.now a.depth old new (begun nothing s) before)
    → JoinsProperties (begun (with_entries r.entries nothing) s) after → Has output after
    → ContentRead content.Structure empty fields a old new s output
content_parsed empty fields a old new s after first before output (f, only, named, value, has) r joins now =
    let (fs, rows, joined) = structure_row (begun (with_entries r.entries nothing) s) after r.entries s.opened output refl joins now in
    record {
      nodes = r.nodes;
      element = with_joined fs (with_entries r.entries nothing);
      inside = r.inside;
      is = inr (inr (inl (f, only, named, value, r.entries, row fs, r.are, rows, refl)));
      shallow = row_shallow a.depth Structure r.entries (row fs) rows r.shallow;
      scope = r.scope;
      has = joined;
    }

pub content_uri : (empty : Bool) (fields : List Field) (a : Around) (old new : Source) (s : State) (output : Output)
    → (f : Field) × (fields ≡ f ∷ []) × (is_rdf (codes "resource") f.name ≡ true) × IsAbsolute f.value
    × (t : List ℕ) × (text_of AttributeValue f.value ≡ Some t) × Has output (begun (with_text t nothing) s)
    → EndRead empty old new → ContentRead content.Resource empty fields a old new s output
content_uri empty fields a old new s output (f, only, named, absolute, t, says, has) (all, white, within, scope) =
    record {
      nodes = all;
      element = with_text t nothing;
      inside = within;
      is = inr (inr (inr (inl (f, only, named, absolute, white, t, says, refl))));
      shallow = tt;
      scope = scope;
      has = has;
    }

pub content_described : (empty : Bool) (fields : List Field) (a : Around) (old new : Source) (s after : State) (before output : Output) → fields ≢ []
    → (p : PropertiesPut fields a.language.now a.depth a.place (begun nothing s) before) → EndRead empty old new
    → JoinsProperties (begun (with_entries p.entries nothing) s) after → Has output after
    → ContentRead content.Structure empty fields a old new s output
content_described empty fields a old new s after before output some p (all, white, within, scope) joins now =
    let (fs, rows, joined) = structure_row (begun (with_entries p.entries nothing) s) after p.entries s.opened output refl joins now in
    record {
      nodes = all;
      element = with_joined fs (with_entries p.entries nothing);
      inside = within;
      is = inr (inr (inr (inr (some, white, p.entries, row fs, p.are, rows, refl))));
      shallow = row_shallow a.depth Structure p.entries (row fs) rows p.shallow;
      scope = scope;
      has = joined;
    }

-- ---- the content of a property or an item without attributes

pub content_empty : (a : Around) (old : Source) (s : State) (output : Output) → IsLeft old.at old.rest.now → Has output (begun nothing s)
    → ContentRead (content.Text a.language) true [] a old old s output
content_empty a old s output left has =
    record {
      nodes = Nothing;
      element = nothing;
      inside = record { row = (refl, refl); moves = record { left = left; same = refl } };
      is = inl (refl, [], refl, refl);
      shallow = tt;
      scope = refl;
      has = has;
    }

pub content_text : (a : Around) (old new : Source) (s : State) (output : Output) → TextRead None s old new output
    → ContentRead (content.Text a.language) false [] a old new s output
content_text a old new s output r =
    let ((m, kind, whole), scope) = r.after.is in
    record {
      nodes = r.nodes;
      element = with_text r.text nothing;
      inside = record {
        row = (m, subst (λ (q : List ℕ). AreNodes r.nodes old.scope old.at old.rest.now q) whole r.after.row, kind);
        moves = r.after.moves;
      };
      is = inl (refl, r.text, r.is_text, refl);
      shallow = tt;
      scope = scope;
      has = r.has;
    }

node_after : (white : Nodes) (l : List ℕ) (rest : Nodes) (s : Compound) (c : values.Content) → AreWhite white → IsNode l rest s c
    → IsNode l (joined white rest) s c
node_after Nothing l rest s c e is = is
node_after (Words t more) l rest s c (e, r) is = (e, node_after more l rest s c r is)
node_after (Element tag place inner more) l rest s c e is = absurd e

node_value : (node : Node) (t : List ℕ) (c : values.Content) → value_of (content_of node) t c ≡ Inside (node_view node) c
node_value nodes.Description t c = refl
node_value (nodes.Container k) t c = refl

pub content_node : (node : Node) (inner : Opened) (a : Around) (old mid on new : Source) (s : State) (before after : Output)
    → TextRead (Some inner) s old mid before
    → ((t : Tag) → IsOpened mid.scope inner t → NodeRead node inner t a.language.now a.depth mid on s after)
    → EndRead false on new → ContentRead (content_of node) false [] a old new s after
content_node node inner a old mid on new s before after r read (more, more_white, within, scope) =
    let (t, start) = r.after.is in
    let n = read t start.opened in
    let (e, last, ends) = within.row in
    let back : on.scope ≡ old.scope = n.scope ∙ ap ended start.inner_is ∙ ended_inside old.scope start.attributes in
    let one : AreNodes (Element t inner.place n.nodes Nothing) old.scope r.after.at r.after.octets on.rest.now =
    element_read inner t old.scope mid.scope r.after.at mid.at r.after.octets mid.rest.now on.rest.now n.nodes start n.inside.row
    (sym r.after.place ∙ r.after.moves.same) in
    let two : AreNodes (Element t inner.place n.nodes more) old.scope r.after.at r.after.octets (e ++ new.rest.now) =
    nodes_joined (Element t inner.place n.nodes Nothing) more old.scope r.after.at on.at r.after.octets on.rest.now (e ++ new.rest.now) one
    (subst (λ (q : List Item). AreNodes more q on.at on.rest.now (e ++ new.rest.now)) back last)
    (sym r.after.place ∙ r.after.moves.same ∙ n.inside.moves.same) in
    record {
      nodes = joined r.nodes (Element t inner.place n.nodes more);
      element = with_inner n.content nothing;
      inside = record {
        row = (
          e,
          nodes_joined r.nodes (Element t inner.place n.nodes more) old.scope old.at r.after.at old.rest.now r.after.octets (e ++ new.rest.now)
              r.after.row two r.after.place,
          ends,
        );
        moves = moves_on old.at mid.at new.at old.rest.now mid.rest.now new.rest.now r.after.moves
            (moves_on mid.at on.at new.at mid.rest.now on.rest.now new.rest.now n.inside.moves within.moves);
      };
      is = inr (inl (
        refl,
        node_view node,
        n.content,
        node_after r.nodes a.language.now (Element t inner.place n.nodes more) (node_view node) n.content (r.white refl)
            (n.declares, n.named, more_white, n.attributes, n.entries, n.attributes_are, n.are, n.row),
        node_value node [] n.content,
      ));
      shallow = subst (IsShallowValue a.depth) (sym (node_value node [] n.content)) n.shallow;
      scope = scope ∙ back;
      has = n.has;
    }

pub node_done : (node : Node) (o : Opened) (t : Tag) (outer : List ℕ) (depth : ℕ) (a : Around) (old mid on new : Source) (s : State) (begin before after : Output)
    → compound_of (name_of o.name) ≡ Some (node_view node) → name_of o.name ≡ t.name → mid ≡ old → NodeBegun node t outer depth o.place a (begun nothing s) begin
    → ((st : State) → Has begin st → ItemsRead o.is_empty (node_view node) a.language.now a.depth mid on st before)
    → new.rest.now ≡ on.rest.now → new.at ≡ on.at → new.scope ≡ ended on.scope
    → ((st : State) → Has before st → NodeEnded node st after) → NodeRead node o t outer depth old new s after
node_done node o t outer depth a old mid on new s begin before after named name same b items rest at scope ends =
    let r = items (begun (with_entries b.entries nothing) (begun nothing s)) b.has in
    let (c, rows, has) =
    ends (begun (with_entries r.entries (with_entries b.entries nothing)) (begun nothing s)) r.has (b.entries ++ r.entries) nothing s.opened refl in
    record {
      nodes = r.nodes;
      content = c;
      attributes = b.entries;
      entries = r.entries;
      inside = record {
        row = subst (λ (q : List ℕ). HasInside o.is_empty r.nodes old.scope old.at old.rest.now q) (sym rest)
            (subst (λ (q : Source). HasInside o.is_empty r.nodes q.scope q.at q.rest.now on.rest.now) same r.inside.row);
        moves = subst (λ (q : ℕ). Moves old.at old.rest.now q new.rest.now) (sym at)
            (subst (λ (q : List ℕ). Moves old.at old.rest.now on.at q) (sym rest)
            (subst (λ (q : Source). Moves q.at q.rest.now on.at on.rest.now) same r.inside.moves));
      };
      declares = b.declares;
      named = ap compound_of (sym name) ∙ named;
      attributes_are = b.are;
      are = subst (λ (q : List ℕ). AreEntries (node_view node) q r.nodes r.entries) b.language r.are;
      row = rows;
      shallow = node_shallow node depth a.depth c b.inner (row_shallow a.depth (node_view node) (b.entries ++ r.entries) c rows
          (shallow_append a.depth b.entries r.entries b.shallow r.shallow));
      scope = scope ∙ ap ended (r.scope ∙ ap (λ (q : Source). q.scope) same);
      has = has;
    }
