-- Attributes that are properties, one after another.
use Rattle.std.proofs.Common.{◌≡◌, ◌≢◌, ◌≤◌, ◌⊎◌, ◌+◌, ℕ, Option, Some, None, option_map, is_some, Bool, true, false, not, nat_eq, List, [], ◌∷◌, ◌++◌, length, refl, sym, ap, subst, ◌∙◌, append_assoc, append-nil, map, inl, inr}
use Rattle.std.specs.Cmp.Lexicographic.{pointwise, same_text}
use Rattle.px_bytes.specs.Parts.{limit}
use Rattle.px_xmp_text.specs.Texts.{text_of}
use Rattle.px_xmp_text.specs.declared.pieces.TextKind.TheVariants.{AttributeValue}
use Rattle.px_xmp_text.specs.Values.{Label, Structure}
use Rattle.px_xmp_marks.specs.Reading.{Attr, Next, next_view}
use Rattle.px_xmp_marks.specs.declared.listing.NextAttribute.{NextAttribute}
use Rattle.px_xmp_document.specs.Scopes.{Item}
use Rattle.px_xmp_forms.specs.Entries.{Entry}
use Rattle.px_xmp_forms.specs.Outputs.{State, Open, Has, changed, with_entry, first_changed}
use Rattle.px_xmp_forms.specs.declared.output.Output.{Output}
use Rattle.px_xmp.specs.Names.{Name, attribute_name}
use Rattle.px_xmp.specs.Tags.{Field, field_of, fields_in, plain}
use Rattle.px_xmp.specs.Meaning.{label_in, literal, AreAttributes}
use Rattle.px_xmp.specs.calls.Listed.{AreListed, IsNextPlain}
use Rattle.px_xmp.specs.calls.Fits.{EntryFits, AreFit, AttributesFit, OneFits, FillingFits}
use Rattle.px_xmp.specs.calls.Contents.{with_entries, attribute, AreShallow, PropertyPut, PropertiesPut}
use Rattle.px_xmp.proofs.DepthLaws.{shallow_append}

-- entries were put of the first fields, and the attributes that are left have the others
pub record PropertiesLeft (n : Option NextAttribute) (scope : List Item) (all : List Attr) (l : List ℕ) (depth : ℕ) (place : ℕ) (s : State) (output : Output) : Type 0 where
  pub fields : List Field
  pub entries : List Entry
  pub more : List Attr
  pub found : IsNextPlain (option_map next_view n) more
  pub whole : fields_in scope all ≡ fields ++ fields_in scope more
  pub are : AreAttributes l place fields entries
  pub shallow : AreShallow depth entries
  pub has : Has output (changed (with_entries entries) s)

-- how many octets are left, with one for the attribute
abbrev pub left_len : Option NextAttribute → ℕ
left_len None = 0
left_len (Some n) = length n.rest.now + 1

-- ---- entries, one after another

pub no_entries : (s : State) → changed (with_entries []) s ≡ s
no_entries s = ap (λ (z : List Open). record { opened = z; properties = s.properties }) (by_opened s.opened)
  where
    by_opened : (os : List Open) → first_changed (with_entries []) os ≡ os
    by_opened [] = refl
    by_opened (o ∷ os) = ap (λ (z : List Entry). record { text = o.text; inner = o.inner; entries = z } ∷ os) (append-nil o.entries)

pub entry_after : (s : State) (es : List Entry) (e : Entry) → changed (with_entry e) (changed (with_entries es) s) ≡ changed (with_entries (es ++ e ∷ [])) s
entry_after s es e = ap (λ (z : List Open). record { opened = z; properties = s.properties }) (by_opened s.opened)
  where
    by_opened : (os : List Open) → first_changed (with_entry e) (first_changed (with_entries es) os) ≡ first_changed (with_entries (es ++ e ∷ [])) os
    by_opened [] = refl
    by_opened (o ∷ os) =
        ap (λ (z : List Entry). record { text = o.text; inner = o.inner; entries = z } ∷ os) (append_assoc o.entries es (e ∷ []))

pub entries_after : (s : State) (es fs : List Entry) → changed (with_entries fs) (changed (with_entries es) s) ≡ changed (with_entries (es ++ fs)) s
entries_after s es fs = ap (λ (z : List Open). record { opened = z; properties = s.properties }) (by_opened s.opened)
  where
    by_opened : (os : List Open) → first_changed (with_entries fs) (first_changed (with_entries es) os) ≡ first_changed (with_entries (es ++ fs)) os
    by_opened [] = refl
    by_opened (o ∷ os) = ap (λ (z : List Entry). record { text = o.text; inner = o.inner; entries = z } ∷ os) (append_assoc o.entries es fs)

-- ---- attributes, one after another

pub attribute_after : (l : List ℕ) (place : ℕ) (fs : List Field) (es : List Entry) (f : Field) (label : Label) (t : List ℕ) → AreAttributes l place fs es
    → label_in Structure f.name ≡ Some label → text_of AttributeValue f.value ≡ Some t
    → AreAttributes l place (fs ++ f ∷ []) (es ++ attribute label place l t ∷ [])
attribute_after l place [] es f label t e named says =
    (label, t, [], named, says, ap (λ (z : List Entry). z ++ attribute label place l t ∷ []) e, refl)
attribute_after l place (g ∷ fs) es f label t (other, u, more, h, i, e, r) named says = (
  other,
  u,
  more ++ attribute label place l t ∷ [],
  h,
  i,
  ap (λ (z : List Entry). z ++ attribute label place l t ∷ []) e,
  attribute_after l place fs more f label t r named says,
)

-- nothing was put yet
pub properties_begin : (n : Option NextAttribute) (scope : List Item) (all : List Attr) (l : List ℕ) (depth place : ℕ) (s : State) (output : Output)
    → IsNextPlain (option_map next_view n) all → Has output s → PropertiesLeft n scope all l depth place s output
properties_begin n scope all l depth place s output found has =
    record {
      fields = [];
      entries = [];
      more = all;
      found = found;
      whole = refl;
      are = refl;
      shallow = tt;
      has = subst (λ (z : State). Has output z) (sym (no_entries s)) has;
    }

-- one more was put
pub properties_next : (m n : Option NextAttribute) (x : NextAttribute) (scope : List Item) (all : List Attr) (l : List ℕ) (depth place : ℕ) (s : State)
    (before after : Output) (name : Name) → m ≡ Some x → (left : PropertiesLeft m scope all l depth place s before)
    → ((rest : List Attr) → AreListed x.rest.now rest → IsNextPlain (option_map next_view n) rest)
    → name ≡ attribute_name scope (next_view x).attribute.name
    → PropertyPut name (next_view x).attribute.value l depth place (changed (with_entries left.entries) s) after
    → PropertiesLeft n scope all l depth place s after
properties_next m n x scope all l depth place s before after name is left next named put =
    let (more, listed, same) = subst (λ (z : Option NextAttribute). IsNextPlain (option_map next_view z) left.more) is left.found in
    let f = field_of scope (next_view x).attribute in
    record {
      fields = left.fields ++ f ∷ [];
      entries = left.entries ++ attribute put.label place l put.text ∷ [];
      more = more;
      found = next more listed;
      whole = left.whole ∙ ap (λ (z : List Attr). left.fields ++ map (field_of scope) z) same
          ∙ sym (append_assoc left.fields (f ∷ []) (fields_in scope more));
      are = attribute_after l place left.fields left.entries f put.label put.text left.are
          (ap (λ (z : Name). label_in Structure z) (sym named) ∙ put.named) put.says;
      shallow = shallow_append depth left.entries (attribute put.label place l put.text ∷ []) left.shallow ((put.shallow, tt), tt);
      has = subst (λ (z : State). Has after z) (entry_after s left.entries (attribute put.label place l put.text)) put.has;
    }

-- all were put
pub properties_end : (n : Option NextAttribute) (scope : List Item) (all : List Attr) (l : List ℕ) (depth place : ℕ) (s : State) (output : Output)
    → n ≡ None → PropertiesLeft n scope all l depth place s output → PropertiesPut (fields_in scope all) l depth place s output
properties_end n scope all l depth place s output is left =
    let none : plain left.more ≡ [] = subst (λ (z : Option NextAttribute). IsNextPlain (option_map next_view z) left.more) is left.found in
    let whole : fields_in scope all ≡ left.fields =
    left.whole ∙ ap (λ (z : List Attr). left.fields ++ map (field_of scope) z) none ∙ append-nil left.fields in
    record {
      entries = left.entries;
      are = subst (λ (z : List Field). AreAttributes l place z left.entries) (sym whole) left.are;
      shallow = left.shallow;
      has = left.has;
    }

-- the only attribute that declares nothing
pub only_field : (scope : List Item) (all more : List Attr) (n : Next) → plain all ≡ n.attribute ∷ plain more → plain more ≡ []
    → fields_in scope all ≡ field_of scope n.attribute ∷ []
only_field scope all more n same none =
    ap (λ (z : List Attr). map (field_of scope) z) same ∙ ap (λ (z : List Attr). field_of scope n.attribute ∷ map (field_of scope) z) none

pub none_after : (n : Option NextAttribute) (more : List Attr) → is_some n ≡ false → IsNextPlain (option_map next_view n) more → plain more ≡ []
none_after None more e next = next
none_after (Some x) more e next = absurd (cc)

-- two lists of octets that are not found to be different
pub same_octets : (x y : List ℕ) → not (pointwise nat_eq x y) ≡ false → x ≡ y
same_octets x y h = same_text x y (sym (by_not (pointwise nat_eq x y) h))
  where
    by_not : (b : Bool) → not b ≡ false → b ≡ true
    by_not true e = refl
    by_not false e = absurd (cc)

-- ---- attributes that are properties, which the output has room for

-- the properties that are left
abbrev pub PropertiesAhead : Option NextAttribute → List Item → List ℕ → ℕ → ℕ → Type 0
PropertiesAhead n scope l place depth =
    (more : List Attr) × IsNextPlain (option_map next_view n) more × (es : List Entry) × AttributesFit l place depth (fields_in scope more) es

-- an attribute that is one
abbrev pub PropertyFits : Field → List ℕ → ℕ → Type 0
PropertyFits f l depth =
    (label : Label) × (t : List ℕ) × (label_in Structure f.name ≡ Some label) × (text_of AttributeValue f.value ≡ Some t)
    × (length f.value ≤ limit) × EntryFits depth label (literal l t)

pub first_fits : (l : List ℕ) (place depth : ℕ) (f : Field) (fields : List Field) (es : List Entry) → AttributesFit l place depth (f ∷ fields) es
    → PropertyFits f l depth × (others : List Entry) × AttributesFit l place depth fields others
first_fits l place depth f fields es ((label, t, others, named, says, is, are), fit, short) =
    let all = subst (AreFit depth) is fit in ((label, t, named, says, short.0, all.0), others, (are, all.1, short.1))

pub ahead_next : (m n : Option NextAttribute) (x : NextAttribute) (scope : List Item) (l : List ℕ) (place depth : ℕ) → m ≡ Some x
    → PropertiesAhead m scope l place depth → ((rest : List Attr) → AreListed x.rest.now rest → IsNextPlain (option_map next_view n) rest)
    → PropertyFits (field_of scope (next_view x).attribute) l depth × PropertiesAhead n scope l place depth
ahead_next m n x scope l place depth is (more, found, es, fits) next =
    let (rest, listed, same) = subst (λ (z : Option NextAttribute). IsNextPlain (option_map next_view z) more) is found in
    let (first, others, left) = first_fits l place depth (field_of scope (next_view x).attribute) (fields_in scope rest) es
    (subst (λ (z : List Attr). AttributesFit l place depth (map (field_of scope) z) es) same fits) in
    (first, (rest, next rest listed, others, left))

pub ahead_first : (m : Option NextAttribute) (x : NextAttribute) (scope : List Item) (l : List ℕ) (place depth : ℕ) → m ≡ Some x
    → PropertiesAhead m scope l place depth → PropertyFits (field_of scope (next_view x).attribute) l depth
ahead_first m x scope l place depth is (more, found, es, fits) =
    let (rest, listed, same) = subst (λ (z : Option NextAttribute). IsNextPlain (option_map next_view z) more) is found in
    (first_fits l place depth (field_of scope (next_view x).attribute) (fields_in scope rest) es
    (subst (λ (z : List Attr). AttributesFit l place depth (map (field_of scope) z) es) same fits)).0

-- ---- the attributes of a property or an item, of which there is a first one

pub some_field : (scope : List Item) (all more : List Attr) (n : Next) → plain all ≡ n.attribute ∷ plain more → fields_in scope all ≢ []
some_field scope all more n same none = let wrong = sym none ∙ ap (λ (z : List Attr). map (field_of scope) z) same in absurd (cc)

map_none : (scope : List Item) (xs : List Attr) → map (field_of scope) xs ≡ [] → xs ≡ []
map_none scope [] e = refl
map_none scope (a ∷ xs) e = absurd (cc)

pub none_next : (n : Option NextAttribute) (all : List Attr) → plain all ≡ [] → IsNextPlain (option_map next_view n) all → n ≡ None
none_next None all e next = refl
none_next (Some x) all e (more, listed, same) = let wrong = sym e ∙ same in absurd (cc)

pub no_field : (n : Option NextAttribute) (scope : List Item) (all : List Attr) → fields_in scope all ≡ [] → IsNextPlain (option_map next_view n) all
    → n ≡ None
no_field n scope all e next = none_next n all (map_none scope (plain all) e) next

-- it is the only one, or all are properties
pub filling_first : (l : List ℕ) (place depth : ℕ) (scope : List Item) (all more : List Attr) (n : Next) → plain all ≡ n.attribute ∷ plain more
    → FillingFits l place depth (fields_in scope all)
    → ((plain more ≡ []) × OneFits (field_of scope n.attribute))
    ⊎ ((es : List Entry) × AttributesFit l place depth (fields_in scope all) es
    × ((label : Label) × (label_in Structure (field_of scope n.attribute).name ≡ Some label)))
filling_first l place depth scope all more n same (inl none) = absurd (some_field scope all more n same none)
filling_first l place depth scope all more n same (inr (inl (f, one, fits))) =
    let whole : field_of scope n.attribute ∷ map (field_of scope) (plain more) ≡ f ∷ [] =
    sym (ap (λ (z : List Attr). map (field_of scope) z) same) ∙ one in
    inl (map_none scope (plain more) (tails whole), subst OneFits (sym (heads whole)) fits)
  where
    tails : {x y : Field} {xs ys : List Field} → x ∷ xs ≡ y ∷ ys → xs ≡ ys
    tails e = cc

    heads : {x y : Field} {xs ys : List Field} → x ∷ xs ≡ y ∷ ys → x ≡ y
    heads e = cc
filling_first l place depth scope all more n same (inr (inr (es, fits))) =
    let first = (first_fits l place depth (field_of scope n.attribute) (fields_in scope more) es
    (subst (λ (z : List Attr). AttributesFit l place depth (map (field_of scope) z) es) same fits)).0 in
    let (label, t, named, says, short, room) = first in inr (es, fits, (label, named))
