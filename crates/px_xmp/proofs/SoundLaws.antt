-- What the nodes of a document have: names of the grammar, namespaces that can be bound, and characters that XML allows.
use Rattle.std.proofs.Common.{◌≡◌, ◌≢◌, ◌<◌, ◌+◌, ◌-◌, ◌==◌, ◌&&◌, ◌⊎◌, inl, inr, ℕ, Bool, true, false, not, nat_le, if◌then◌else◌, Option, Some, None, List, [], ◌∷◌, ◌++◌, map, length, drop, Result, Ok, Err, refl, sym, ap, subst, ◌∙◌, arith, append_assoc, append-nil, codes, eqb-true, eq-eqb}
use Rattle.std.specs.Prelude.{⊤}
use Rattle.std.specs.List.{AllByRecursion}
use Rattle.px_xmp_text.specs.Values.{Without}
use Rattle.px_xmp_text.specs.Grammar.{OnlyReferencesAreRead}
use Rattle.px_xmp_text.specs.Characters.{AreCharacters}
use Rattle.px_xmp_text.specs.declared.pieces.TextKind.TheVariants.{CharacterData, CdataSection, AttributeValue}
use Rattle.px_xmp_marks.specs.Reading.{Named, Attr}
use Rattle.px_xmp_marks.specs.Grammar.{IsNcName, IsName, AreAttributes, IsStartTag, IsEndTag}
use Rattle.px_xmp_marks.specs.Sections.{IsSection}
use Rattle.px_xmp_marks.specs.Comments.{IsComment}
use Rattle.px_xmp_marks.specs.Instructions.{IsInstruction}
use Rattle.px_xmp_marks.specs.Marks.{EndsText}
use Rattle.px_xmp_marks.specs.Declarations.{every}
use Rattle.px_xmp_document.specs.declared.faults.SpaceCause.{SpaceCause}
use Rattle.px_xmp_document.specs.declared.faults.SpaceCause.TheVariants.{RareSpace, Reserved, TooMany}
use Rattle.px_xmp_document.specs.Scopes.{Item, Declaration, limit, is_same, xml_space, xmlns_space, built_in, space_of}
use Rattle.px_xmp_document.specs.Scopes as scopes
use Rattle.px_xmp_document.specs.Bindings.{declared_prefix, is_usual_space, is_reserved, is_left, with_declaration, or_same, with_attribute, with_attributes, and_then}
use Rattle.px_xmp_document.specs.Tags.{attribute_space, judged, opened, passed}
use Rattle.px_xmp_document.specs.Pieces.{Piece, Opening, Alone, Closing, IsPiece, ArePieces}
use Rattle.px_xmp_document.specs.Pieces as pieces
use Rattle.px_xmp_document.specs.SpaceFaults.{Lead}
use Rattle.px_xmp_document.specs.Document.{IsSplit, IsFile, order_mark_len}
use Rattle.px_xmp.specs.Marks.{Mark, Start, End, Text, Other, IsKind}
use Rattle.px_xmp.specs.Names.{Name, or_none}
use Rattle.px_xmp.specs.Tags.{with_prefix, declared, plain, Field, field_of, Tag, tag_of, inside, fields_in}
use Rattle.px_xmp.specs.Tags as tags
use Rattle.px_xmp.specs.Nodes.{Nodes, Nothing, Words, Element, AreNodes}
use Rattle.px_xmp.specs.Laws.{KindsAreRead}
use Rattle.px_xmp.proofs.NodeLaws.{mark_once, some_mark}
use Rattle.px_xmp.proofs.SpaceLaws.{IsKept}
use Rattle.px_xmp.proofs.TextLaws.{none_are, characters_split, characters_past, characters_after, text_is}

-- ---- names, tags and nodes

-- a namespace that a declaration can have; or that of the prefix xmlns, or none
abbrev pub IsPlainSpace : List ℕ → Type 0
IsPlainSpace u = (is_usual_space u ≡ true) × Without 60 u × IsKept u

abbrev pub IsSoundName : Name → Type 0
IsSoundName n = IsPlainSpace n.space × IsNcName n.local

abbrev pub IsSoundField : Field → Type 0
IsSoundField f = IsSoundName f.name × AreCharacters f.value

abbrev pub IsSoundTag : Tag → Type 0
IsSoundTag tag = IsSoundName tag.name × AllByRecursion IsSoundField tag.fields

abbrev pub AreSound : Nodes → Type 0
AreSound Nothing = ⊤
AreSound (Words t more) = AreCharacters t × AreSound more
AreSound (Element tag place inner more) = IsSoundTag tag × AreSound inner × AreSound more

-- ---- scopes

abbrev IsPlainItem : Item → Type 0
IsPlainItem scopes.Element = ⊤
IsPlainItem (Declaration p u) = IsPlainSpace u

abbrev IsPlainScope : List Item → Type 0
IsPlainScope scope = AllByRecursion IsPlainItem scope

abbrev IsPlainDeclared : Attr → Type 0
IsPlainDeclared a = (p : List ℕ) → declared_prefix a.name ≡ Some p → (is_usual_space a.value ≡ true) × (is_left a.value ≡ false)

abbrev IsWritten : Attr → Type 0
IsWritten a = IsNcName a.name.local × AreCharacters a.value × Without 60 a.value

without_if : (d : ℕ) (x : List ℕ) → every (λ o. not (o == d)) x ≡ true → Without d x
without_if d [] h = tt
without_if d (o ∷ x) h = by_octet (o == d) refl (λ k. without_if d x k) h
  where
    by_octet : (b : Bool) → (o == d) ≡ b → (every (λ o. not (o == d)) x ≡ true → Without d x)
        → (not b && every (λ o. not (o == d)) x) ≡ true → Without d (o ∷ x)
    by_octet true e more h = absurd (cc)
    by_octet false e more h = (λ f. let g = eq-eqb o d f in absurd (cc), more h)

built_in_plain : (p : List ℕ) → IsPlainSpace (or_none (built_in p))
built_in_plain p = by_prefix (is_same p (codes "xml")) (is_same p (codes "xmlns"))
  where
    by_prefix : (a b : Bool) → IsPlainSpace (or_none (if a then Some xml_space else if b then Some xmlns_space else None))
    by_prefix true b = (refl, without_if 60 xml_space refl, inl refl)
    by_prefix false true = (refl, without_if 60 xmlns_space refl, inr refl)
    by_prefix false false = (refl, tt, inl refl)

space_plain : (p : List ℕ) (scope : List Item) → IsPlainScope scope → IsPlainSpace (or_none (space_of p scope))
space_plain p [] h = built_in_plain p
space_plain p (scopes.Element ∷ outer) h = space_plain p outer h.1
space_plain p (Declaration q u ∷ outer) h = by_prefix (is_same q p) (space_of p outer) h.0 (space_plain p outer h.1)
  where
    by_prefix : (b : Bool) (s : Option (List ℕ)) → IsPlainSpace u → IsPlainSpace (or_none s) → IsPlainSpace (or_none (if b then Some u else s))
    by_prefix true s k j = k
    by_prefix false s k j = j

attribute_plain : (scope : List Item) (n : Named) → IsPlainScope scope → IsPlainSpace (or_none (attribute_space scope n))
attribute_plain scope n h = by_prefix (is_same n.prefix []) (space_of n.prefix scope) (space_plain n.prefix scope h)
  where
    by_prefix : (b : Bool) (s : Option (List ℕ)) → IsPlainSpace (or_none s) → IsPlainSpace (or_none (if b then None else s))
    by_prefix true s k = (refl, tt, inl refl)
    by_prefix false s k = k

prefix_plain : (q : Option (List ℕ)) (u : List ℕ) (scope : List Item) → IsPlainScope scope
    → ((p : List ℕ) → q ≡ Some p → (is_usual_space u ≡ true) × (is_left u ≡ false))
    → Without 60 u → IsPlainScope (with_prefix q u scope)
prefix_plain None u scope h k w = h
prefix_plain (Some p) u scope h k w = let (usual, known) = k p refl in ((usual, w, inl known), h)

declared_plain : (attributes : List Attr) (scope : List Item) → IsPlainScope scope → AllByRecursion IsWritten attributes
    → AllByRecursion IsPlainDeclared attributes → IsPlainScope (declared attributes scope)
declared_plain [] scope h w k = h
declared_plain (a ∷ more) scope h w k =
    declared_plain more (with_prefix (declared_prefix a.name) a.value scope)
    (prefix_plain (declared_prefix a.name) a.value scope h k.0 w.0.2) w.1 k.1

-- ---- tags

fields_sound : (scope : List Item) (attributes : List Attr) → IsPlainScope scope → AllByRecursion IsWritten attributes
    → AllByRecursion IsSoundField (fields_in scope attributes)
fields_sound scope [] h w = tt
fields_sound scope (a ∷ more) h w = by_name (tags.is_plain a.name) (fields_sound scope more h w.1)
  where
    by_name : (b : Bool) → AllByRecursion IsSoundField (map (field_of scope) (plain more))
        → AllByRecursion IsSoundField (map (field_of scope) (if b then a ∷ plain more else plain more))
    by_name true k = (((attribute_plain scope a.name h, w.0.0), w.0.1), k)
    by_name false k = k

tag_sound : (scope : List Item) (n : Named) (attributes : List Attr) → IsPlainScope scope → IsNcName n.local → AllByRecursion IsWritten attributes
    → AllByRecursion IsPlainDeclared attributes → IsSoundTag (tag_of scope n attributes)
tag_sound scope n attributes h l w k =
    let within : IsPlainScope (inside scope attributes) = declared_plain attributes (scopes.Element ∷ scope) (tt, h) w k in
    ((space_plain n.prefix (inside scope attributes) within, l), fields_sound (inside scope attributes) attributes within w)

-- ---- the characters of marks

local_is : (x : List ℕ) (n : Named) → IsName x n → IsNcName n.local
local_is x n (inl (is, e)) = subst (λ (z : Named). IsNcName z.local) (sym e) is
local_is x n (inr (p, l, first, second, whole, e)) = subst (λ (z : Named). IsNcName z.local) (sym e) second

without_from : (q : ℕ) (v : List ℕ) → AllByRecursion (λ o. (o ≢ q) × (o ≢ 60)) v → Without 60 v
without_from q [] h = tt
without_from q (o ∷ v) h = (h.0.1, without_from q v h.1)

quote_low : (q : ℕ) → (q ≡ 34) ⊎ (q ≡ 39) → q < 128
quote_low q (inl e) = omega (arith, e)
quote_low q (inr e) = omega (arith, e)

attributes_written : (front z tail : List ℕ) (attributes : List Attr) → AreCharacters (front ++ (z ++ tail)) → AreAttributes z attributes
    → AllByRecursion IsWritten attributes
attributes_written front z tail [] h are = tt
attributes_written front z tail (a ∷ more) h (s, y, rest, spaces, some, is, others, whole) =
    let q : ℕ = is.value.quote in
    let v : List ℕ = a.value in
    let low : q < 128 = quote_low q is.value.is_quote in
    let octets : z ≡ s ++ ((is.name_octets ++ (is.equals ++ (q ∷ (v ++ q ∷ [])))) ++ rest) =
    whole ∙ ap (λ (w : List ℕ). s ++ (w ++ rest)) (is.whole ∙ ap (λ (w : List ℕ). is.name_octets ++ (is.equals ++ w)) is.value.whole) in
    let all : front ++ (z ++ tail) ≡ (front ++ (s ++ (is.name_octets ++ is.equals))) ++ q ∷ (v ++ q ∷ (rest ++ tail)) =
    ap (λ (w : List ℕ). front ++ (w ++ tail)) octets ∙ simp append_assoc refl in
    let value : AreCharacters (v ++ q ∷ (rest ++ tail)) =
    characters_after (front ++ (s ++ (is.name_octets ++ is.equals))) (v ++ q ∷ (rest ++ tail)) q low (subst AreCharacters all h) in
    let parts = characters_split v (rest ++ tail) q low value in (
      (local_is is.name_octets a.name is.name, parts.0, without_from q v is.value.inside),
      attributes_written [] rest tail more (characters_past (rest ++ tail) q low parts.1) others,
    )

-- what follows a mark that ends with `>`
follows : (m x rest : List ℕ) → x ≡ m ++ 62 ∷ [] → AreCharacters (x ++ rest) → AreCharacters rest
follows m x rest e h =
    characters_after m rest 62 (omega arith) (subst AreCharacters (ap (λ (z : List ℕ). z ++ rest) e ∙ append_assoc m (62 ∷ []) rest) h)

tag_follows : (x rest : List ℕ) (n : Named) (attributes : List Attr) (empty : Bool) → IsStartTag x n attributes empty → AreCharacters (x ++ rest)
    → AreCharacters rest
tag_follows x rest n attributes true (y, z, name, are, whole) h = follows (60 ∷ (y ++ (z ++ 47 ∷ []))) x rest (whole ∙ simp append_assoc refl) h
tag_follows x rest n attributes false (y, z, name, are, whole) h = follows (60 ∷ (y ++ z)) x rest (whole ∙ simp append_assoc refl) h

tag_written : (x rest : List ℕ) (n : Named) (attributes : List Attr) (empty : Bool) → IsStartTag x n attributes empty → AreCharacters (x ++ rest)
    → IsNcName n.local × AllByRecursion IsWritten attributes
tag_written x rest n attributes empty (y, z, name, are, whole) h = (
  local_is y n name,
  attributes_written (60 ∷ y) z (closing_of empty ++ rest) attributes (subst AreCharacters (ap (λ (w : List ℕ). w ++ rest) whole ∙ simp append_assoc refl) h) are,
)
  where
    closing_of : Bool → List ℕ
    closing_of b = if b then codes "/>" else codes ">"

end_follows : (x rest : List ℕ) (n : Named) → IsEndTag x n → AreCharacters (x ++ rest) → AreCharacters rest
end_follows x rest n (y, s, name, spaces, whole) h = follows (60 ∷ 47 ∷ (y ++ s)) x rest (whole ∙ simp append_assoc refl) h

comment_follows : (x rest content : List ℕ) → IsComment x content → AreCharacters (x ++ rest) → AreCharacters rest
comment_follows x rest content (none, whole) h = follows (codes "<!--" ++ (content ++ codes "--")) x rest (whole ∙ simp append_assoc refl) h

instruction_follows : (x rest : List ℕ) → IsInstruction x → AreCharacters (x ++ rest) → AreCharacters rest
instruction_follows x rest is h =
    follows (codes "<?" ++ (is.target ++ (is.space ++ (is.content ++ codes "?")))) x rest (is.whole ∙ simp append_assoc refl) h

section_parts : (x rest content : List ℕ) → IsSection x content → AreCharacters (x ++ rest) → AreCharacters content × AreCharacters rest
section_parts x rest content (none, whole) h =
    let all : x ++ rest ≡ codes "<![CDATA" ++ 91 ∷ (content ++ 93 ∷ (93 ∷ 62 ∷ rest)) =
    ap (λ (w : List ℕ). w ++ rest) whole ∙ simp append_assoc refl in
    let inner = characters_after (codes "<![CDATA") (content ++ 93 ∷ (93 ∷ 62 ∷ rest)) 91 (omega arith) (subst AreCharacters all h) in
    let parts = characters_split content (93 ∷ 62 ∷ rest) 93 (omega arith) inner in
    (parts.0, characters_past rest 62 (omega arith) (characters_past (62 ∷ rest) 93 (omega arith) (characters_past (93 ∷ 62 ∷ rest) 93 (omega arith) parts.1)))

text_parts : (x rest : List ℕ) → EndsText rest → AreCharacters (x ++ rest) → AreCharacters x × AreCharacters rest
text_parts x rest (inl e) h =
    (subst AreCharacters (ap (λ (w : List ℕ). x ++ w) e ∙ append-nil x) h, subst AreCharacters (sym e) none_are)
text_parts x [] (inr e) h = absurd (cc)
text_parts x (o ∷ rest) (inr e) h = characters_split x rest o (omega (arith, eqb-true o 60 e)) h

abbrev HasCharacters : Mark → Type 0
HasCharacters (Start n attributes empty) = IsNcName n.local × AllByRecursion IsWritten attributes
HasCharacters End = ⊤
HasCharacters (Text kind octets) = AreCharacters octets
HasCharacters Other = ⊤

mark_characters : (k : Mark) (m rest : List ℕ) → IsKind k m rest → AreCharacters (m ++ rest) → AreCharacters rest × HasCharacters k
mark_characters (Start n attributes empty) m rest is h = (tag_follows m rest n attributes empty is h, tag_written m rest n attributes empty is h)
mark_characters End m rest (n, is) h = (end_follows m rest n is h, tt)
mark_characters (Text CharacterData octets) m rest (text, ends, e) h =
    let parts = text_parts m rest ends h in (parts.1, subst AreCharacters (sym e) parts.0)
mark_characters (Text CdataSection octets) m rest is h = let parts = section_parts m rest octets is h in (parts.1, parts.0)
mark_characters (Text AttributeValue octets) m rest is h = absurd is
mark_characters Other m rest (inl (content, is)) h = (comment_follows m rest content is h, tt)
mark_characters Other m rest (inr is) h = (instruction_follows m rest is h, tt)

-- ---- what marks declare

abbrev DeclaresPlain : Mark → Type 0
DeclaresPlain (Start n attributes empty) = AllByRecursion IsPlainDeclared attributes
DeclaresPlain End = ⊤
DeclaresPlain (Text kind octets) = ⊤
DeclaresPlain Other = ⊤

abbrev PieceDeclares : Piece → Type 0
PieceDeclares (Opening n attributes) = AllByRecursion IsPlainDeclared attributes
PieceDeclares (Alone n attributes) = AllByRecursion IsPlainDeclared attributes
PieceDeclares Closing = ⊤
PieceDeclares pieces.Other = ⊤

mark_of : (p : Piece) (m y : List ℕ) → IsPiece p m y → (k : Mark) × IsKind k m y × (PieceDeclares p → DeclaresPlain k)
mark_of (Opening n attributes) m y is = (Start n attributes false, is, λ h. h)
mark_of (Alone n attributes) m y is = (Start n attributes true, is, λ h. h)
mark_of Closing m y is = (End, is, λ h. h)
mark_of pieces.Other m y (inl tag, no_tag, no_end) = absurd (no_tag tag)
mark_of pieces.Other m y (inr (inl (n, end)), no_tag, no_end) = absurd (no_end n end)
mark_of pieces.Other m y (inr (inr (inl comment)), no_tag, no_end) = (Other, inl comment, λ h. h)
mark_of pieces.Other m y (inr (inr (inr (inl (content, is)))), no_tag, no_end) = (Text CdataSection content, is, λ h. h)
mark_of pieces.Other m y (inr (inr (inr (inr (inl is)))), no_tag, no_end) = (Other, inr is, λ h. h)
mark_of pieces.Other m y (inr (inr (inr (inr (inr (text, ends))))), no_tag, no_end) = (Text CharacterData m, (text, ends, refl), λ h. h)

then_both : (r : Result (List Item) SpaceCause) (f : List Item → Result (List Item) SpaceCause) (t : List Item) → and_then r f ≡ Ok t
    → (u : List Item) × (r ≡ Ok u) × (f u ≡ Ok t)
then_both (Err c) f t h = absurd (cc)
then_both (Ok u) f t h = (u, refl, h)

one_plain : (q : Option (List ℕ)) (v : List ℕ) (s t : List Item) → or_same (λ p. with_declaration p v s) s q ≡ Ok t → (p : List ℕ) → q ≡ Some p
    → (is_usual_space v ≡ true) × (is_left v ≡ false)
one_plain None v s t h p e = absurd (cc)
one_plain (Some r) v s t h p e =
    by_test (is_usual_space v) (is_reserved r v) (is_left v) (if nat_le limit (length s) then Err TooMany else Ok (Declaration r v ∷ s)) h
  where
    by_test : (a b c : Bool) (r : Result (List Item) SpaceCause)
        → (if not a then Err RareSpace else if b then Err Reserved else if c then Err RareSpace else r) ≡ Ok t → (a ≡ true) × (c ≡ false)
    by_test false b c r h = absurd (cc)
    by_test true true c r h = absurd (cc)
    by_test true false true r h = absurd (cc)
    by_test true false false r h = (refl, refl)

attributes_plain : (attributes : List Attr) (s t : List Item) → with_attributes attributes s ≡ Ok t → AllByRecursion IsPlainDeclared attributes
attributes_plain [] s t h = tt
attributes_plain (a ∷ more) s t h =
    let (u, first, rest) = then_both (with_attribute a s) (λ z. with_attributes more z) t h in
    (one_plain (declared_prefix a.name) a.value s u first, attributes_plain more u t rest)

opened_plain : (n : Named) (attributes : List Attr) (scope inner : List Item) → opened n attributes scope ≡ Ok inner
    → AllByRecursion IsPlainDeclared attributes
opened_plain n attributes scope inner h = by_limit (nat_le limit (length scope)) h
  where
    by_limit : (b : Bool)
        → (if b then Err TooMany else and_then (with_attributes attributes (scopes.Element ∷ scope)) (λ z. judged n attributes z)) ≡ Ok inner
        → AllByRecursion IsPlainDeclared attributes
    by_limit true g = absurd (cc)
    by_limit false g =
        let (u, e, rest) = then_both (with_attributes attributes (scopes.Element ∷ scope)) (λ z. judged n attributes z) inner g in
        attributes_plain attributes (scopes.Element ∷ scope) u e

piece_declares : (p : Piece) (scope next : List Item) → passed p scope ≡ Ok next → PieceDeclares p
piece_declares (Opening n attributes) scope next h = opened_plain n attributes scope next h
piece_declares (Alone n attributes) scope next h =
    let (u, e, rest) = then_both (opened n attributes scope) (λ z. Ok (scopes.ended z)) next h in opened_plain n attributes scope u e
piece_declares Closing scope next h = tt
piece_declares pieces.Other scope next h = tt

all_declare : (ps : List Piece) (scope last : List Item) → Lead scope ps last → AllByRecursion PieceDeclares ps
all_declare [] scope last h = tt
all_declare (p ∷ more) scope last (next, e, h) = (piece_declares p scope next e, all_declare more next last h)

-- ---- nodes

-- characters that are marks in a row, which declare namespaces that can be bound
abbrev IsLeft : List ℕ → Type 0
IsLeft x = AreCharacters x × (ps : List Piece) × ArePieces ps x [] × AllByRecursion PieceDeclares ps

mark_read : KindsAreRead → (k : Mark) (m rest : List ℕ) → IsKind k m rest → IsLeft (m ++ rest) → IsLeft rest × HasCharacters k × DeclaresPlain k
mark_read law k m rest is (h, [], none, plain) = absurd (some_mark law k m rest is none)
mark_read law k m rest is (h, p ∷ more, (l, y, piece, whole, others), plain) =
    let (j, kind, declares) = mark_of p l y piece in
    let (same, octets, follow) = mark_once law k j m l rest y is kind whole in
    let (after_it, characters) = mark_characters k m rest is h in (
      (after_it, more, subst (λ (z : List ℕ). ArePieces more z []) (sym follow) others, plain.1),
      characters,
      subst DeclaresPlain (sym same) (declares plain.0),
    )

nodes_sound : KindsAreRead → OnlyReferencesAreRead → (nodes : Nodes) (scope : List Item) (at : ℕ) (x y : List ℕ) → AreNodes nodes scope at x y
    → IsPlainScope scope → IsLeft x → AreSound nodes × IsLeft y
nodes_sound law texts Nothing scope at x y e plain h = (tt, subst IsLeft e h)
nodes_sound law texts (Words t more) scope at x y (m, rest, inl (kind, octets, is, text), w, others) plain h =
    let (left, characters, declares) = mark_read law (Text kind octets) m rest is (subst IsLeft w h) in
    let (sound, last) = nodes_sound law texts more scope (at + length m) rest y others plain left in
    ((text_is texts kind octets t characters text, sound), last)
nodes_sound law texts (Words t more) scope at x y (m, rest, inr (is, none), w, others) plain h =
    let (left, characters, declares) = mark_read law Other m rest is (subst IsLeft w h) in
    let (sound, last) = nodes_sound law texts more scope (at + length m) rest y others plain left in
    ((subst AreCharacters (sym none) none_are, sound), last)
nodes_sound law texts (Element tag place inner more) scope at x y (n, attributes, m, rest, same, here, w, inl (is, none, others)) plain h =
    let (left, characters, declares) = mark_read law (Start n attributes true) m rest is (subst IsLeft w h) in
    let (sound, last) = nodes_sound law texts more scope (at + length m) rest y others plain left in (
      (
        subst IsSoundTag (sym same) (tag_sound scope n attributes plain characters.0 characters.1 declares),
        subst AreSound (sym none) tt,
        sound,
      ),
      last,
    )
nodes_sound law texts (Element tag place inner more) scope at x y (n, attributes, m, rest, same, here, w, inr (e, tail, is, within, ends, others)) plain h =
    let (left, characters, declares) = mark_read law (Start n attributes false) m rest is (subst IsLeft w h) in
    let inner_plain : IsPlainScope (inside scope attributes) =
    declared_plain attributes (scopes.Element ∷ scope) (tt, plain) characters.1 declares in
    let (inner_sound, end) = nodes_sound law texts inner (inside scope attributes) (at + length m) rest (e ++ tail) within inner_plain left in
    let (beyond, none, nothing) = mark_read law End e tail ends end in
    let (sound, last) = nodes_sound law texts more scope (at + (length x - length tail)) tail y others plain beyond in (
      (
        subst IsSoundTag (sym same) (tag_sound scope n attributes plain characters.0 characters.1 declares),
        inner_sound,
        sound,
      ),
      last,
    )

-- ---- documents

tree_characters : (x d tree : List ℕ) (e : Option (List ℕ)) → AreCharacters x → IsSplit x d e tree → AreCharacters tree
tree_characters x d tree e h (whole, inl is) =
    follows (codes "<?xml" ++ (is.version_info ++ (is.encoding_decl ++ (is.standalone_decl ++ (is.space ++ codes "?"))))) d tree
    (is.whole ∙ simp append_assoc refl) (subst AreCharacters whole h)
tree_characters x d tree e h (whole, inr (none, nothing, absent)) =
    subst AreCharacters (whole ∙ ap (λ (z : List ℕ). z ++ tree) none) h

-- the nodes of the elements of a document
pub document_sound : KindsAreRead → OnlyReferencesAreRead → (x : List ℕ) (file : IsFile x) (at : ℕ) (nodes : Nodes) → AreNodes nodes [] at file.tree []
    → AreSound nodes
document_sound law texts x file at nodes row =
    let (nested, distinct, spaces) = file.elements in
    let (ps, last, marked, leads) = spaces in
    let left : IsLeft file.tree =
    (tree_characters (drop (order_mark_len x) x) file.declaration file.tree file.encoding file.characters file.parts, ps, marked, all_declare ps [] last leads) in
    (nodes_sound law texts nodes [] at file.tree [] row tt left).0
