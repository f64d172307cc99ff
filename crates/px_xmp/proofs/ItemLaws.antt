-- What is left of the properties or items of an element is read.
use Rattle.std.proofs.Common.{◌≡◌, ◌++◌, ◌⊎◌, ◌∙◌, inl, inr, refl, ℕ, Bool, false, Some, None, List, [], sym, ap, subst, arith}
use Rattle.std.proofs.lemmas.Option.{same_Some}
use Rattle.px_xmp_text.specs.Values.{Label, Compound, Structure, Content, PacketIsInjective}
use Rattle.px_xmp_document.specs.Scopes.{ended}
use Rattle.px_xmp_forms.specs.Entries.{Value, Inside, Entry, ValueFits}
use Rattle.px_xmp_forms.specs.Outputs.{State}
use Rattle.px_xmp_forms.specs.declared.output.Output.{Output}
use Rattle.px_xmp.specs.Names.{Name}
use Rattle.px_xmp.specs.Tags.{Field, Tag}
use Rattle.px_xmp.specs.Nodes.{Nodes, Nothing, Words, Element}
use Rattle.px_xmp.specs.Meaning.{AreWhite, label_in, IsLiteral, IsResource, AreEntries, IsNode}
use Rattle.px_xmp.specs.Laws.{KindsAreRead}
use Rattle.px_xmp.specs.declared.elements.Opened.{Opened}
use Rattle.px_xmp.specs.declared.source.Source.{Source}
use Rattle.px_xmp.specs.calls.Opening.{name_of}
use Rattle.px_xmp.specs.Marks.{End, IsKind}
use Rattle.px_xmp.specs.calls.Steps.{IsLeft, IsStart, TagAfter, HasInside, InsideRead}
use Rattle.px_xmp.specs.calls.Contents.{HasValue, ItemsRead}
use Rattle.px_xmp.specs.calls.Fits.{TagFits, HasElement, HasTag, IsAhead, IsValueOf, EntryFits, AreFit}
use Rattle.px_xmp.proofs.MeaningLaws.{CanAll, CanValue, value_can, value_once, entries_once, node_once, no_node}
use Rattle.px_xmp.proofs.StepLaws.{joined}
use Rattle.px_xmp.proofs.RefusedLaws.{inside_once, row_after}
use Rattle.px_xmp.proofs.AheadLaws.{AtElement, element_entered, inside_ahead}
use Rattle.px_xmp.proofs.FitLaws.{fit_can, bare_only}
use Rattle.px_xmp.proofs.LiteralLaws.{text_no_tag}

-- ---- what follows white space

entries_front : (c : Compound) (l : List ℕ) (a b : Nodes) (es : List Entry) → AreWhite a → AreEntries c l (joined a b) es → AreEntries c l b es
entries_front c l Nothing b es w h = h
entries_front c l (Words t more) b es w h = entries_front c l more b es w.1 h.1
entries_front c l (Element tag place inner more) b es w h = absurd w

node_front : (l : List ℕ) (a b : Nodes) (k : Compound) (c : Content) → AreWhite a → IsNode l (joined a b) k c → IsNode l b k c
node_front l Nothing b k c w h = h
node_front l (Words t more) b k c w h = node_front l more b k c w.1 h.1
node_front l (Element tag place inner more) b k c w h = absurd w

-- ---- a tag is ahead

pub entries_tag : (c : Compound) (l : List ℕ) (nodes : Nodes) (es : List Entry) (e y : List ℕ) → AreEntries c l nodes es → IsKind End e y
    → HasTag nodes (e ++ y)
entries_tag c l Nothing es e y are ends = (y, (e, ends, refl))
entries_tag c l (Words t more) es e y are ends = (are.0, entries_tag c l more es e y are.1 ends)
entries_tag c l (Element tag place inner more) es e y are ends = tt

pub node_element : (l : List ℕ) (nodes : Nodes) (k : Compound) (c : Content) → IsNode l nodes k c → HasElement nodes
node_element l Nothing k c h = absurd h
node_element l (Words t more) k c h = (h.0, node_element l more k c h.1)
node_element l (Element tag place inner more) k c h = tt

-- properties or items are left
pub record ItemsAhead (c : Compound) (l : List ℕ) (depth : ℕ) (source : Source) (y : List ℕ) : Type 0 where
  pub nodes : Nodes
  pub entries : List Entry
  pub ahead : IsAhead false nodes source y
  pub are : AreEntries c l nodes entries
  pub fit : AreFit depth entries

-- what is in the element of the first one
pub record ItemAhead (l : List ℕ) (depth : ℕ) (o : Opened) (t : Tag) (label : Label) (source : Source) : Type 0 where
  pub nodes : Nodes
  pub value : Value
  pub tail : List ℕ
  pub ahead : IsAhead o.is_empty nodes source tail
  pub tag : TagFits t
  pub is : IsValueOf l o.place t nodes value
  pub fits : EntryFits depth label value

module _ (law : KindsAreRead) (c : Compound) (l : List ℕ) (depth : ℕ) (o : Opened) (white : Nodes) (t : Tag) (old mid : Source) (y : List ℕ)
    (a : ItemsAhead c l depth old y) (is_white : AreWhite white) (tag : TagAfter (Some o) white old mid)
    (start : IsStart o t old.scope mid.scope tag.at tag.octets mid.rest.now) where
  entered : AtElement o white t a.nodes old mid (a.ahead.row.0 ++ y)
  entered =
      let (e, row, ends) = a.ahead.row in
      element_entered law o white t a.nodes old mid (e ++ y) a.ahead.fit is_white tag start row (inr (e, y, ends, refl))

  are_left : AreEntries c l (Element t o.place entered.entered.content entered.entered.more) a.entries
  are_left =
      entries_front c l white (Element t o.place entered.entered.content entered.entered.more) a.entries is_white
      (subst (λ (q : Nodes). AreEntries c l q a.entries) entered.is a.are)

  pub items_left : (nodes : Nodes) (on : Source) → InsideRead o.is_empty nodes mid on → on.scope ≡ ended mid.scope → ItemsAhead c l depth on y
  items_left nodes on read scope =
      let (e, row, ends) = a.ahead.row in
      let (declares, label, v, rest, named, same, are, is) = are_left in
      record {
        nodes = entered.entered.more;
        entries = rest;
        ahead = record {
          left = read.moves.left;
          row = (e, row_after law o white t entered.left nodes old mid on (e ++ y) tag start entered.entered read scope, ends);
          fit = entered.fit.2;
        };
        are = are;
        fit = (subst (AreFit depth) same a.fit).1;
      }

  pub item_ahead : (label : Label) → IsLeft mid.at mid.rest.now → label_in c (name_of o.name) ≡ Some label → ItemAhead l depth o t label mid
  item_ahead label left called =
      let (e, row, ends) = a.ahead.row in
      let (declares, other, v, rest, named, same, are, is) = are_left in
      let one : other ≡ label =
      same_Some other label (sym named ∙ ap (λ (z : Name). label_in c z) (sym start.opened.0) ∙ called) in
      record {
        nodes = entered.entered.content;
        value = v;
        tail = entered.entered.tail;
        ahead = inside_ahead o white t a.nodes old mid (e ++ y) entered left;
        tag = entered.fit.0;
        is = (declares, is);
        fits = subst (λ (z : Label). EntryFits depth z v) one (subst (AreFit depth) same a.fit).0;
      }

  pub item_labelled : label_in c (name_of o.name) ≡ None → ⊥
  item_labelled none =
      let (declares, other, v, rest, named, same, are, is) = are_left in
      let wrong = sym none ∙ ap (λ (z : Name). label_in c z) start.opened.0 ∙ named in
      absurd (cc)

-- ---- what was read is what was ahead

pub items_same : KindsAreRead → PacketIsInjective → (b : Bool) (c : Compound) (l : List ℕ) (d depth : ℕ) (old new : Source) (s : State) (output : Output)
    (nodes : Nodes) (es : List Entry) (y : List ℕ) → IsAhead b nodes old y → AreEntries c l nodes es → AreFit d es
    → (r : ItemsRead b c l depth old new s output) → CanAll r.entries → r.entries ≡ es
items_same law once b c l d depth old new s output nodes es y ahead are fit r can =
    let (same, tail) = inside_once law b r.nodes nodes old.scope old.at old.rest.now new.rest.now y r.inside.row ahead.row in
    entries_once once c l nodes r.entries es (subst (λ (q : Nodes). AreEntries c l q r.entries) same r.are) are can (fit_can d es fit)

pub value_same : PacketIsInjective → (l : List ℕ) (place : ℕ) (fields : List Field) (nodes : Nodes) (v w : Value) → HasValue l place fields nodes v
    → HasValue l place fields nodes w → CanValue v → CanValue w → v ≡ w
value_same once l place fields nodes v w is are can could =
    value_once once l place fields nodes (IsNode l nodes) (AreEntries Structure l nodes)
    (λ s t c d p q x y. node_once once l nodes s t c d p q x y) (λ es fs p q x y. entries_once once Structure l nodes es fs p q x y)
    (λ t s c p q. no_node l nodes t s c p q) v w is are can could

pub value_fits : PacketIsInjective → (l : List ℕ) (place : ℕ) (fields : List Field) (nodes others : Nodes) (d : ℕ) (label : Label) (v w : Value)
    → others ≡ nodes → HasValue l place fields nodes v → HasValue l place fields others w → EntryFits d label v → CanValue w → ValueFits label w
value_fits once l place fields nodes others d label v w same is are fits could =
    subst (ValueFits label) (value_same once l place fields nodes v w is (subst (λ (q : Nodes). HasValue l place fields q w) same are)
    (value_can label v fits.0) could) (fits.0, omega (arith, fits.2), fits.3)

-- ---- a node that is left to be read, with white space around it

pub record NodeAhead (l : List ℕ) (o : Opened) (t : Tag) (mid : Source) (k : Compound) (c : Content) (y : List ℕ) : Type 0 where
  pub nodes : Nodes
  pub more : Nodes
  pub tail : List ℕ
  pub ahead : IsAhead o.is_empty nodes mid tail
  pub tag : TagFits t
  pub is : IsNode l (Element t o.place nodes Nothing) k c
  pub white : AreWhite more
  pub last : (others : Nodes) (on : Source) → InsideRead o.is_empty others mid on → on.scope ≡ ended mid.scope
      → HasInside false more on.scope on.at on.rest.now y

pub node_ahead : KindsAreRead → (l : List ℕ) (o : Opened) (white : Nodes) (t : Tag) (nodes : Nodes) (old mid : Source) (y : List ℕ) → IsAhead false nodes old y
    → AreWhite white → (tag : TagAfter (Some o) white old mid) → IsStart o t old.scope mid.scope tag.at tag.octets mid.rest.now
    → (k : Compound) (c : Content) → IsNode l nodes k c → NodeAhead l o t mid k c y
node_ahead law l o white t nodes old mid y ahead is_white tag start k c node =
    let (e, row, ends) = ahead.row in
    let at = element_entered law o white t nodes old mid (e ++ y) ahead.fit is_white tag start row (inr (e, y, ends, refl)) in
    let content = at.entered.content in
    let (declares, kind, blank, fs, es, attributes, are, rows) =
    node_front l white (Element t o.place content at.entered.more) k c is_white (subst (λ (q : Nodes). IsNode l q k c) at.is node) in
    record {
      nodes = content;
      more = at.entered.more;
      tail = at.entered.tail;
      ahead = inside_ahead o white t nodes old mid (e ++ y) at tag.moves.left;
      tag = at.fit.0;
      is = (declares, kind, tt, fs, es, attributes, are, rows);
      white = blank;
      last = λ others on read scope. (e, row_after law o white t at.left others old mid on (e ++ y) tag start at.entered read scope, ends);
    }

-- a value with an element in it, and no attributes, is a node
pub node_kind : KindsAreRead → (l : List ℕ) (place : ℕ) (o : Opened) (white nodes : Nodes) (v : Value) (old mid : Source) (y : List ℕ)
    → IsAhead false nodes old y → AreWhite white → TagAfter (Some o) white old mid → HasValue l place [] nodes v
    → (k : Compound) × (c : Content) × IsNode l nodes k c × (v ≡ Inside k c)
node_kind law l place o white nodes v old mid y ahead is_white tag is = by (bare_only l place nodes v is)
  where
    by : IsLiteral l [] nodes v ⊎ IsResource [] (IsNode l nodes) v → (k : Compound) × (c : Content) × IsNode l nodes k c × (v ≡ Inside k c)
    by (inl (none, t, text, same)) =
        let (e, row, ends) = ahead.row in absurd (text_no_tag law o white nodes old mid e y t is_white tag row ends text)
    by (inr (none, k, c, node, same)) = (k, c, node, same)
