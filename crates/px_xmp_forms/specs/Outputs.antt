-- What the output has of the elements that are open, and what each call does to it.
use Rattle.std.specs.Prelude.{◌≡◌, ℕ, Bool, true, false, not, List, [], ◌∷◌, ◌++◌, reverse, length, Some, ⊤}
use Rattle.std.specs.Str.{str_to_ascii_lowercase}
use Rattle.px_xmp_text.specs.Texts.{text_of, normal_text}
use Rattle.px_xmp_text.specs.Values as values
use Rattle.px_xmp_text.specs.Values.{Content as Row, End, Literal, Uri, Structure, IsContent, opening_tag, written}
use Rattle.px_xmp_text.specs.declared.pieces.TextKind.{TextKind}
use Rattle.px_xmp_forms.specs.Entries.{Value, Entry, Plain, Inside, before, row, Sorts, AreDistinct}
use Rattle.px_xmp_forms.specs.Forms.{HaveShortLanguages, is_white}
use Rattle.px_xmp_forms.specs.Labels.{label_view, container_view}
use Rattle.px_xmp_forms.specs.declared.labels.Label.{Label}
use Rattle.px_xmp_forms.specs.declared.labels.Origin.{Origin}
use Rattle.px_xmp_forms.specs.declared.labels.Content.{Content}
use Rattle.px_xmp_forms.specs.declared.labels.Content.TheVariants as content
use Rattle.px_xmp_forms.specs.declared.elements.Element.{Element}
use Rattle.px_xmp_forms.specs.declared.items.Item.{Item}
use Rattle.px_xmp_forms.specs.declared.items.BagOrder.TheVariants.{Sorted}
use Rattle.px_xmp_forms.specs.declared.output.Level.{Level}
use Rattle.px_xmp_forms.specs.declared.output.Output.{Output}

-- what was read of an open element: its text or URI, what is inside it, and properties or members that are not joined yet
pub record Open : Type 0 where
  pub text : List ℕ
  pub inner : Row
  pub entries : List Entry

-- the open elements, the innermost first, and the properties of the packet
pub record State : Type 0 where
  pub opened : List Open
  pub properties : Row

-- ---- what an output has

-- an element has the octets of a value with its label, which can be written and has no long language
pub record IsElement (x : Element) (l : values.Label) (v : Value) : Type 0 where
  pub octets : x.piece ≡ written (before l v End) []
  pub label : x.label_len ≡ length (opening_tag l [])
  pub can : IsContent (before l v End)
  pub short : HaveShortLanguages (before l v End)

-- a stored item has the octets of an entry, and the offset in the packet at which the entry begins
pub record IsItem (x : Item) (e : Entry) : Type 0 where
  pub element : IsElement x.element e.label e.value
  pub place : x.place ≡ e.place

-- stored items have these entries, one each, in order
abbrev pub AreItems : List Item → List Entry → Type 0
AreItems [] [] = ⊤
AreItems (x ∷ xs) (e ∷ es) = IsItem x e × AreItems xs es
AreItems [] (e ∷ es) = ⊥
AreItems (x ∷ xs) [] = ⊥

-- what is stored of an open element is what was read of it, with the texts and values in their
-- normal form
pub record IsLevel (x : Level) (o : Open) : Type 0 where
  pub text : x.text ≡ normal_text o.text
  pub inner : x.inner ≡ written o.inner []
  pub can : IsContent o.inner
  pub short : HaveShortLanguages o.inner
  pub entries : AreItems x.items.items o.entries

-- what is stored of open elements is what was read of them, one each, in order
abbrev pub AreLevels : List Level → List Open → Type 0
AreLevels [] [] = ⊤
AreLevels (x ∷ xs) (o ∷ os) = IsLevel x o × AreLevels xs os
AreLevels [] (o ∷ os) = ⊥
AreLevels (x ∷ xs) [] = ⊥

-- an output that sorts the items of bags has the octets of these values
pub record Has (x : Output) (s : State) : Type 0 where
  pub levels : AreLevels (reverse x.levels.items) s.opened
  pub properties : x.properties ≡ written s.properties []
  pub can : IsContent s.properties
  pub short : HaveShortLanguages s.properties
  pub order : x.order ≡ Sorted

-- ---- what a call does

-- an element of which nothing was read
abbrev pub nothing : Open
nothing = record { text = []; inner = End; entries = [] }

-- an open element after its text or URI became t
abbrev pub with_text : List ℕ → Open → Open
with_text t o = record { text = t; inner = o.inner; entries = o.entries }

-- an open element after what is inside became c
abbrev pub with_inner : Row → Open → Open
with_inner c o = record { text = o.text; inner = c; entries = o.entries }

-- an open element after one entry was added to those that are not joined yet
abbrev pub with_entry : Entry → Open → Open
with_entry e o = record { text = o.text; inner = o.inner; entries = o.entries ++ e ∷ [] }

-- entries joined, and none left
abbrev pub with_joined : List Entry → Open → Open
with_joined es o = record { text = o.text; inner = row es; entries = [] }

-- open elements after a change f of the innermost, if there is one
abbrev pub first_changed : (Open → Open) → List Open → List Open
first_changed f [] = []
first_changed f (o ∷ os) = f o ∷ os

-- a change of the innermost element, if one is open
abbrev pub changed : (Open → Open) → State → State
changed f s = record { opened = first_changed f s.opened; properties = s.properties }

-- an element was opened, of which o was read
abbrev pub begun : Open → State → State
begun o s = record { opened = o ∷ s.opened; properties = s.properties }

-- the value of an element: its text or URI, or what is inside it
abbrev pub value_of : Content → List ℕ → Row → Value
value_of (content.Text language) text inner = Plain (Literal (str_to_ascii_lowercase language.now) text)
value_of content.Resource text inner = Plain (Uri text)
value_of content.Structure text inner = Inside Structure inner
value_of (content.Members container) text inner = Inside (container_view container) inner

-- a property that is an attribute with this text
abbrev pub attribute_entry : Label → Origin → List ℕ → Entry
attribute_entry l origin t =
    record { label = label_view l; value = Plain (Literal (str_to_ascii_lowercase origin.language.now) t); place = origin.place }

-- the innermost element with its label, as an entry of the one around it
abbrev pub first_ended : Label → Content → ℕ → List Open → List Open
first_ended l content place [] = []
first_ended l content place (o ∷ os) =
    first_changed (with_entry (record { label = label_view l; value = value_of content o.text o.inner; place = place })) os

-- the innermost element ended: with its label and this content it is an entry of the one around it
abbrev pub element_ended : Label → Content → ℕ → State → State
element_ended l content place s = record { opened = first_ended l content place s.opened; properties = s.properties }

-- what is inside the innermost element, inside the one around it
abbrev pub first_closed : List Open → List Open
first_closed [] = []
first_closed (o ∷ os) = first_changed (with_inner o.inner) os

-- a node ended: what is inside the innermost element is now inside the one around it
abbrev pub node_ended : State → State
node_ended s = record { opened = first_closed s.opened; properties = s.properties }

-- what is inside the innermost element, as the properties of the packet
abbrev pub properties_of : List Open → Row → Row
properties_of [] c = c
properties_of (o ∷ os) c = o.inner

-- the open elements without the innermost
abbrev pub rest_of : List Open → List Open
rest_of [] = []
rest_of (o ∷ os) = os

-- the innermost element ended, and what is inside it are the properties of the packet
abbrev pub properties_ended : State → State
properties_ended s = record { opened = rest_of s.opened; properties = properties_of s.opened s.properties }

-- entries, sorted if a test is true
abbrev pub SortsIf : Bool → List Entry → List Entry → Type 0
SortsIf true es fs = Sorts es fs
SortsIf false es fs = fs ≡ es

-- the entries of the innermost element are joined, those of a bag in order
abbrev pub JoinsFirst : Bool → List Open → List Open → Type 0
JoinsFirst is_bag [] after = after ≡ []
JoinsFirst is_bag (o ∷ os) after = (fs : List Entry) × SortsIf is_bag o.entries fs × (after ≡ with_joined fs o ∷ os)

-- the same in a state, whose properties stay as they are
abbrev pub JoinsMembers : Bool → State → State → Type 0
JoinsMembers is_bag s after = JoinsFirst is_bag s.opened after.opened × (after.properties ≡ s.properties)

-- the entries of the innermost element that are not joined yet
abbrev pub first_entries : List Open → List Entry
first_entries [] = []
first_entries (o ∷ os) = o.entries

-- no two of the entries have one label, and they are joined in order
abbrev pub JoinsProperties : State → State → Type 0
JoinsProperties s after = AreDistinct (first_entries s.opened) × JoinsMembers true s after

-- a text follows that of the innermost element; the answer is whether it is more than white space
abbrev pub PutsFirst : TextKind → List ℕ → List Open → Bool → List Open → Type 0
PutsFirst kind x [] more after = (more ≡ false) × (after ≡ [])
PutsFirst kind x (o ∷ os) more after =
    (t : List ℕ) × (text_of kind x ≡ Some t) × (more ≡ not (is_white t)) × (after ≡ with_text (o.text ++ t) o ∷ os)

-- the same in a state, whose properties stay as they are
abbrev pub PutsText : TextKind → List ℕ → State → Bool → State → Type 0
PutsText kind x s more after = PutsFirst kind x s.opened more after.opened × (after.properties ≡ s.properties)
