-- The prefixes of a normal packet are declared.
use Rattle.std.proofs.Common.{◌≡◌, ◌≤◌, ◌<◌, ◌*◌, ◌&&◌, ◌∙◌, refl, ℕ, suc, Bool, true, false, not, nat_le, nat_lt, if◌then◌else◌, is_some, Ok, Err, Result, List, [], ◌∷◌, codes, length, map, ap, arith}
use Rattle.std.proofs.lemmas.Bool.{lt-leb}
use Rattle.px_xmp_text.specs.Texts.{normal_text}
use Rattle.px_xmp_text.specs.Values.{Label, Property, Item, Simple, Literal, Uri, Compound, Structure, Bag, Seq, Alt, Content, End, Flat, Nested}
use Rattle.px_xmp_marks.specs.Reading.{Named, Attr}
use Rattle.px_xmp_markup.specs.Nesting.{limit as depth_limit}
use Rattle.px_xmp_document.specs.declared.faults.SpaceCause.{SpaceCause}
use Rattle.px_xmp_document.specs.declared.faults.SpaceCause.TheVariants.{RareSpace, Reserved, TooMany, Undeclared, ManyAttributes, SameName}
use Rattle.px_xmp_document.specs.Pieces as pieces
use Rattle.px_xmp_document.specs.Pieces.{Piece, ArePieces}
use Rattle.px_xmp_document.specs.Scopes as scopes
use Rattle.px_xmp_document.specs.Scopes.{Element, Declaration, limit, space_of, ended}
use Rattle.px_xmp_document.specs.Bindings.{is_usual_space, is_reserved, is_left, with_declaration, with_attributes, and_then}
use Rattle.px_xmp_document.specs.Tags.{is_attribute_bound, is_element_bound, are_bound, attribute_limit, are_unique, judged, opened}
use Rattle.px_xmp_document.specs.SpaceFaults.{Lead, HasSpaces}
use Rattle.px_xmp.specs.Readable.{IsSpace, IsShallow, inner_depth, AreReadable}
use Rattle.px_xmp.proofs.SpaceLaws.{not_left}
use Rattle.px_xmp.proofs.StartLaws.{attribute, named, label_named, label_attributes, CanBeNamed, label_named_by}
use Rattle.px_xmp.proofs.PartLaws.{Part, Begin, Whole, Finish, Words, octets_of, IsPart, AreParts, text_parts, finish_label, simple_parts, begin_parts, finish_parts, parts_of, end_parts, packet_parts, language_attribute, resource_attribute, parse_attribute}
use Rattle.px_xmp.proofs.NestLaws.{no_less, part_mark}

-- ---- pieces

abbrev pub piece_of : Part → Piece
piece_of (Begin n attributes m) = pieces.Opening n attributes
piece_of (Whole n attributes m) = pieces.Alone n attributes
piece_of (Finish n m) = pieces.Closing
piece_of (Words m) = pieces.Other

piece_is : (p : Part) (rest : List ℕ) → IsPart p rest → pieces.IsPiece (piece_of p) (octets_of p) rest
piece_is (Begin n attributes m) rest h = h.0
piece_is (Whole n attributes m) rest h = h.0
piece_is (Finish n m) rest h = (n, h)
piece_is (Words m) rest h = (
  part_mark (Words m) rest h,
  λ (n, attributes, empty, (y, z, name, has, w)). no_less m _ h.0 w,
  λ n (y, s, name, spaced, w). no_less m _ h.0 w,
)

pieces_are : (ps : List Part) (x : List ℕ) → AreParts ps x → ArePieces (map piece_of ps) x []
pieces_are [] x h = h
pieces_are (p ∷ ps) x (rest, h, e, more) = (octets_of p, rest, piece_is p rest h, e, pieces_are ps rest more)

-- ---- scopes

-- what is in scope inside d elements of a normal packet
pub record IsScope (d : ℕ) (scope : List scopes.Item) : Type 0 where
  pub xml : is_some (space_of (codes "xml") scope) ≡ true
  pub xmlns : is_some (space_of (codes "xmlns") scope) ≡ true
  pub rdf : is_some (space_of (codes "rdf") scope) ≡ true
  pub few : length scope ≤ 2 * d

-- what is in scope in an element with a label
abbrev pub label_scope : Label → List scopes.Item → List scopes.Item
label_scope (Property space local) scope = Declaration (codes "p") space ∷ Element ∷ scope
label_scope Item scope = Element ∷ scope

label_is_scope : (l : Label) (d : ℕ) (scope : List scopes.Item) → IsScope d scope → IsScope (suc d) (label_scope l scope)
label_is_scope (Property space local) d scope h =
    let few = h.few in record { xml = h.xml; xmlns = h.xmlns; rdf = h.rdf; few = omega (arith, few) }
label_is_scope Item d scope h = let few = h.few in record { xml = h.xml; xmlns = h.xmlns; rdf = h.rdf; few = omega (arith, few) }

element_is_scope : (d : ℕ) (scope : List scopes.Item) → IsScope d scope → IsScope (suc d) (Element ∷ scope)
element_is_scope d scope h = let few = h.few in record { xml = h.xml; xmlns = h.xmlns; rdf = h.rdf; few = omega (arith, few) }

label_ended : (l : Label) (scope : List scopes.Item) → ended (label_scope l scope) ≡ scope
label_ended (Property space local) scope = refl
label_ended Item scope = refl

-- ---- tags

declares : (u : List ℕ) (scope : List scopes.Item) → IsSpace u → nat_le limit (length scope) ≡ false
    → with_declaration (codes "p") u scope ≡ Ok (Declaration (codes "p") u ∷ scope)
declares u scope (usual, less, free, known) l =
    choose (is_usual_space u) (is_reserved (codes "p") u) (is_left u) (nat_le limit (length scope)) usual free (not_left u known) l
  where
    done : Result (List scopes.Item) SpaceCause
    done = Ok (Declaration (codes "p") u ∷ scope)

    choose : (a b c d : Bool) → a ≡ true → b ≡ false → c ≡ false → d ≡ false
        → (if not a then Err RareSpace else if b then Err Reserved else if c then Err RareSpace else if d then Err TooMany else done) ≡ done
    choose false b c d h k l m = absurd (cc)
    choose true true c d h k l m = absurd (cc)
    choose true false true d h k l m = absurd (cc)
    choose true false false true h k l m = absurd (cc)
    choose true false false false h k l m = refl

judges : (n : Named) (attributes : List Attr) (inner : List scopes.Item) → is_element_bound inner n ≡ true → are_bound inner attributes ≡ true
    → nat_lt attribute_limit (length attributes) ≡ false → are_unique inner attributes ≡ true → judged n attributes inner ≡ Ok inner
judges n attributes inner h k l m =
    choose (is_element_bound inner n) (are_bound inner attributes) (nat_lt attribute_limit (length attributes)) (are_unique inner attributes) h k l m
  where
    choose : (a b c d : Bool) → a ≡ true → b ≡ true → c ≡ false → d ≡ true
        → (if not (a && b) then Err Undeclared else if c then Err ManyAttributes else if d then Ok inner else Err SameName) ≡ Ok inner
    choose false b c d h k l m = absurd (cc)
    choose true false c d h k l m = absurd (cc)
    choose true true true d h k l m = absurd (cc)
    choose true true false false h k l m = absurd (cc)
    choose true true false true h k l m = refl

opens : (n : Named) (attributes : List Attr) (scope inner : List scopes.Item) → nat_le limit (length scope) ≡ false
    → with_attributes attributes (Element ∷ scope) ≡ Ok inner → judged n attributes inner ≡ Ok inner → opened n attributes scope ≡ Ok inner
opens n attributes scope inner h e k =
    choose (nat_le limit (length scope)) h
    ∙ ap (λ (r : Result (List scopes.Item) SpaceCause). and_then r (λ z. judged n attributes z)) e ∙ k
  where
    choose : (b : Bool) → b ≡ false
        → (if b then Err TooMany else and_then (with_attributes attributes (Element ∷ scope)) (λ z. judged n attributes z))
        ≡ and_then (with_attributes attributes (Element ∷ scope)) (λ z. judged n attributes z)
    choose true f = absurd (cc)
    choose false f = refl

few_items : (d n : ℕ) → d < depth_limit → n ≤ 2 * d → (nat_le limit n ≡ false) × (nat_le limit (suc n) ≡ false)
few_items d n h k = (lt-leb limit n (omega (arith, h, k)), lt-leb limit (suc n) (omega (arith, h, k)))

bound : (a : Attr) (more : List Attr) (scope : List scopes.Item) → is_attribute_bound scope a.name ≡ true → are_bound scope more ≡ true
    → are_bound scope (a ∷ more) ≡ true
bound a more scope h k = choose (is_attribute_bound scope a.name) (are_bound scope more) h k
  where
    choose : (a b : Bool) → a ≡ true → b ≡ true → (a && b) ≡ true
    choose true b h k = k
    choose false b h k = absurd (cc)

-- the attribute of a property's element that declares its namespace, and others that declare nothing
with_space : (space : List ℕ) (more : List Attr) (d : ℕ) (scope : List scopes.Item) → IsSpace space → d < depth_limit → IsScope d scope
    → with_attributes more (Declaration (codes "p") space ∷ Element ∷ scope) ≡ Ok (Declaration (codes "p") space ∷ Element ∷ scope)
    → with_attributes (attribute (codes "xmlns") (codes "p") space ∷ more) (Element ∷ scope) ≡ Ok (Declaration (codes "p") space ∷ Element ∷ scope)
with_space space more d scope h l is e =
    ap (λ (r : Result (List scopes.Item) SpaceCause). and_then r (λ z. with_attributes more z))
    (declares space (Element ∷ scope) h (few_items d (length scope) l is.few).1)
    ∙ e

-- what is in scope in an element with a label and more attributes
abbrev Opens : Label → List Attr → List scopes.Item → Type 0
Opens l more scope = opened (label_named l) (label_attributes l more) scope ≡ Ok (label_scope l scope)

opens_bare : (l : Label) → CanBeNamed l → (d : ℕ) (scope : List scopes.Item) → d < depth_limit → IsScope d scope → Opens l [] scope
opens_bare (Property space local) (can, name) d scope l is =
    let inner = label_scope (Property space local) scope in
    let declaring = attribute (codes "xmlns") (codes "p") space in
    opens (named (codes "p") local) (declaring ∷ []) scope inner (few_items d (length scope) l is.few).0
    (with_space space [] d scope can l is refl)
    (judges (named (codes "p") local) (declaring ∷ []) inner refl (bound declaring [] inner is.xmlns refl) refl refl)
opens_bare Item can d scope l is =
    let inner = label_scope Item scope in
    opens (label_named Item) [] scope inner (few_items d (length scope) l is.few).0 refl (judges (label_named Item) [] inner is.rdf refl refl refl)

-- one attribute more, with a prefix that is bound
opens_with : (l : Label) (q y v : List ℕ) → CanBeNamed l → (d : ℕ) (scope : List scopes.Item) → d < depth_limit → IsScope d scope
    → ((s : List scopes.Item) → with_attributes (attribute q y v ∷ []) s ≡ Ok s)
    → is_attribute_bound (label_scope l scope) (named q y) ≡ true
    → are_unique (label_scope l scope) (label_attributes l (attribute q y v ∷ [])) ≡ true
    → Opens l (attribute q y v ∷ []) scope
opens_with (Property space local) q y v (can, name) d scope l is same has unique =
    let inner = label_scope (Property space local) scope in
    let declaring = attribute (codes "xmlns") (codes "p") space in
    let a = attribute q y v in
    opens (named (codes "p") local) (declaring ∷ a ∷ []) scope inner (few_items d (length scope) l is.few).0
    (with_space space (a ∷ []) d scope can l is (same inner))
    (judges (named (codes "p") local) (declaring ∷ a ∷ []) inner refl
    (bound declaring (a ∷ []) inner is.xmlns (bound a [] inner has refl)) refl unique)
opens_with Item q y v can d scope l is same has unique =
    let inner = label_scope Item scope in
    let a = attribute q y v in
    opens (label_named Item) (a ∷ []) scope inner (few_items d (length scope) l is.few).0 (same inner)
    (judges (label_named Item) (a ∷ []) inner is.rdf (bound a [] inner has refl) refl unique)

opens_spoken : (l : Label) (g : List ℕ) → CanBeNamed l → (d : ℕ) (scope : List scopes.Item) → d < depth_limit → IsScope d scope
    → Opens l (language_attribute g ∷ []) scope
opens_spoken (Property space local) g can d scope l is =
    opens_with (Property space local) (codes "xml") (codes "lang") g can d scope l is (λ s. refl) is.xml refl
opens_spoken Item g can d scope l is = opens_with Item (codes "xml") (codes "lang") g can d scope l is (λ s. refl) is.xml refl

opens_resource : (l : Label) (u : List ℕ) → CanBeNamed l → (d : ℕ) (scope : List scopes.Item) → d < depth_limit → IsScope d scope
    → Opens l (resource_attribute u ∷ []) scope
opens_resource (Property space local) u can d scope l is =
    opens_with (Property space local) (codes "rdf") (codes "resource") (normal_text u) can d scope l is (λ s. refl) is.rdf refl
opens_resource Item u can d scope l is =
    opens_with Item (codes "rdf") (codes "resource") (normal_text u) can d scope l is (λ s. refl) is.rdf refl

opens_parsed : (l : Label) → CanBeNamed l → (d : ℕ) (scope : List scopes.Item) → d < depth_limit → IsScope d scope
    → Opens l (parse_attribute ∷ []) scope
opens_parsed (Property space local) can d scope l is =
    opens_with (Property space local) (codes "rdf") (codes "parseType") (codes "Resource") can d scope l is (λ s. refl) is.rdf refl
opens_parsed Item can d scope l is =
    opens_with Item (codes "rdf") (codes "parseType") (codes "Resource") can d scope l is (λ s. refl) is.rdf refl

-- an array
opens_array : (local : List ℕ) (d : ℕ) (scope : List scopes.Item) → d < depth_limit → IsScope d scope
    → opened (named (codes "rdf") local) [] scope ≡ Ok (Element ∷ scope)
opens_array local d scope l is =
    opens (named (codes "rdf") local) [] scope (Element ∷ scope) (few_items d (length scope) l is.few).0 refl
    (judges (named (codes "rdf") local) [] (Element ∷ scope) is.rdf refl refl refl)

-- ---- content

-- the marks of these parts lead on
abbrev Goes : List scopes.Item → List Part → List scopes.Item → Type 0
Goes scope ps last = Lead scope (map piece_of ps) last

text_goes : (t : List ℕ) (ps : List Part) (scope last : List scopes.Item) → Goes scope ps last → Goes scope (text_parts t ps) last
text_goes [] ps scope last h = h
text_goes (o ∷ t) ps scope last h = (scope, refl, h)

finish_goes : (l : Label) (ps : List Part) (scope last : List scopes.Item) → Goes scope ps last → Goes (label_scope l scope) (finish_label l ∷ ps) last
finish_goes l ps scope last h = (scope, ap (λ (z : List scopes.Item). Ok z) (label_ended l scope), h)

simple_goes : (l : Label) (p : Simple) → CanBeNamed l → (d : ℕ) (ps : List Part) (scope last : List scopes.Item) → d < depth_limit → IsScope d scope
    → Goes scope ps last → Goes scope (simple_parts l p ps) last
simple_goes l (Literal [] t) can d ps scope last h is goes =
    (label_scope l scope, opens_bare l can d scope h is, text_goes t _ (label_scope l scope) last (finish_goes l ps scope last goes))
simple_goes l (Literal (o ∷ g) t) can d ps scope last h is goes =
    (label_scope l scope, opens_spoken l (o ∷ g) can d scope h is, text_goes t _ (label_scope l scope) last (finish_goes l ps scope last goes))
simple_goes l (Uri u) can d ps scope last h is goes = (
  scope,
  ap (λ (r : Result (List scopes.Item) SpaceCause). and_then r (λ inner. Ok (ended inner))) (opens_resource l u can d scope h is)
      ∙ ap (λ (z : List scopes.Item). Ok z) (label_ended l scope),
  goes,
)

-- what is in scope in a structure or an array
abbrev inner_scope : Label → Compound → List scopes.Item → List scopes.Item
inner_scope l Structure scope = label_scope l scope
inner_scope l array scope = Element ∷ label_scope l scope

inner_is_scope : (l : Label) (s : Compound) (d : ℕ) (scope : List scopes.Item) → IsScope d scope → IsScope (inner_depth s d) (inner_scope l s scope)
inner_is_scope l Structure d scope h = label_is_scope l d scope h
inner_is_scope l Bag d scope h = element_is_scope (suc d) (label_scope l scope) (label_is_scope l d scope h)
inner_is_scope l Seq d scope h = element_is_scope (suc d) (label_scope l scope) (label_is_scope l d scope h)
inner_is_scope l Alt d scope h = element_is_scope (suc d) (label_scope l scope) (label_is_scope l d scope h)

begin_goes : (l : Label) (s : Compound) → CanBeNamed l → (d : ℕ) (ps : List Part) (scope last : List scopes.Item) → inner_depth s d ≤ depth_limit
    → IsScope d scope → Goes (inner_scope l s scope) ps last → Goes scope (begin_parts l s ps) last
begin_goes l Structure can d ps scope last h is goes = (label_scope l scope, opens_parsed l can d scope (omega (arith, h)) is, goes)
begin_goes l Bag can d ps scope last h is goes = (
  label_scope l scope,
  opens_bare l can d scope (omega (arith, h)) is,
  (Element ∷ label_scope l scope, opens_array (codes "Bag") (suc d) (label_scope l scope) (omega (arith, h)) (label_is_scope l d scope is), goes),
)
begin_goes l Seq can d ps scope last h is goes = (
  label_scope l scope,
  opens_bare l can d scope (omega (arith, h)) is,
  (Element ∷ label_scope l scope, opens_array (codes "Seq") (suc d) (label_scope l scope) (omega (arith, h)) (label_is_scope l d scope is), goes),
)
begin_goes l Alt can d ps scope last h is goes = (
  label_scope l scope,
  opens_bare l can d scope (omega (arith, h)) is,
  (Element ∷ label_scope l scope, opens_array (codes "Alt") (suc d) (label_scope l scope) (omega (arith, h)) (label_is_scope l d scope is), goes),
)

stop_goes : (l : Label) (s : Compound) (ps : List Part) (scope last : List scopes.Item) → Goes scope ps last
    → Goes (inner_scope l s scope) (finish_parts l s ps) last
stop_goes l Structure ps scope last goes = finish_goes l ps scope last goes
stop_goes l Bag ps scope last goes = (label_scope l scope, refl, finish_goes l ps scope last goes)
stop_goes l Seq ps scope last goes = (label_scope l scope, refl, finish_goes l ps scope last goes)
stop_goes l Alt ps scope last goes = (label_scope l scope, refl, finish_goes l ps scope last goes)

content_goes : (c : Content) (s : Compound) (d : ℕ) → AreReadable s c → IsShallow d c → (ps : List Part) (scope last : List scopes.Item)
    → IsScope d scope → Goes scope ps last → Goes scope (parts_of c ps) last
content_goes End s d h k ps scope last is goes = goes
content_goes (Flat l p rest) s d h k ps scope last is goes =
    simple_goes l p (label_named_by s l h.0) d (parts_of rest ps) scope last k.0 is (content_goes rest s d h.2 k.1 ps scope last is goes)
content_goes (Nested l t inner rest) s d h k ps scope last is goes =
    begin_goes l t (label_named_by s l h.0) d _ scope last k.0 is
    (content_goes inner t (inner_depth t d) h.2 k.1 (finish_parts l t (parts_of rest ps)) (inner_scope l t scope) last (inner_is_scope l t d scope is)
    (stop_goes l t (parts_of rest ps) scope last (content_goes rest s d h.3 k.2 ps scope last is goes)))

-- ---- the packet

abbrev meta_scope : List scopes.Item
meta_scope = Declaration (codes "x") (codes "adobe:ns:meta/") ∷ Element ∷ []

abbrev root_scope : List scopes.Item
root_scope = Declaration (codes "rdf") (codes "http://www.w3.org/1999/02/22-rdf-syntax-ns#") ∷ Element ∷ meta_scope

abbrev description_scope : List scopes.Item
description_scope = Element ∷ root_scope

description_is_scope : IsScope 3 description_scope
description_is_scope = record { xml = refl; xmlns = refl; rdf = refl; few = omega arith }

packet_goes : (c : Content) → AreReadable Structure c → IsShallow 3 c → Goes [] (packet_parts c) []
packet_goes c h k = (
  meta_scope,
  refl,
  (
    root_scope,
    refl,
    (
      description_scope,
      refl,
      content_goes c Structure 3 h k end_parts description_scope [] description_is_scope
          (root_scope, refl, (meta_scope, refl, ([], refl, refl))),
    ),
  ),
)

pub packet_spaces : (c : Content) (x : List ℕ) → AreReadable Structure c → IsShallow 3 c → AreParts (packet_parts c) x → HasSpaces x
packet_spaces c x h k are = (map piece_of (packet_parts c), [], pieces_are (packet_parts c) x are, packet_goes c h k)
