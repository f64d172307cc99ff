-- The tags and the texts of a normal packet are marks.
use Rattle.std.proofs.Common.{◌≡◌, ◌≢◌, ◌⊎◌, ◌==◌, ◌&&◌, ◌||◌, ◌++◌, ◌∙◌, inl, inr, refl, ℕ, Bool, true, false, not, nat_le, Some, None, List, [], ◌∷◌, codes, length, sym, ap, subst, arith, append_assoc, eq-eqb, eqb-true}
use Rattle.std.proofs.lemmas.Bool.{cases_Bool, and_from, not-true}
use Rattle.std.specs.Bool.{⊤}
use Rattle.std.specs.List.{AllByRecursion, list_all}
use Rattle.px_xmp_text.specs.Texts.{text_in, text_of, normal_text, normal_octet, first_fault}
use Rattle.px_xmp_text.specs.Laws.{NormalReadsBack, NormalBound, FaultOrText}
use Rattle.px_xmp_text.specs.declared.pieces.TextKind.TheVariants.{CharacterData, AttributeValue}
use Rattle.px_xmp_text.specs.Values.{Label, Property, Item, Compound, Structure, Bag, Seq, Alt, opening_tag, end_tag, compound_start, IsLabel, Without}
use Rattle.px_xmp_marks.specs.Declarations.{every}
use Rattle.px_xmp_marks.specs.Reading.{Named, Attr, is_name_char}
use Rattle.px_xmp_marks.specs.Grammar.{IsNcName, IsName, IsAttribute, AreAttributes, closing, IsStartTag, IsEndTag}
use Rattle.px_xmp_marks.specs.Marks.{IsText}
use Rattle.px_xmp_document.specs.Bindings.{is_plain, space_limit, is_usual_space}
use Rattle.px_xmp_forms.specs.Languages.{is_part_octet, AreParts, IsLanguage}
use Rattle.px_xmp_forms.specs.Uris.{is_uri_octet, IsAbsolute}
use Rattle.px_xmp.specs.Names.{rdf_space, meta_space}
use Rattle.px_xmp.specs.Readable.{IsSpace, IsReadableLabel}
use Rattle.px_xmp.proofs.OrderLaws.{opening_more}
use Rattle.px_xmp.proofs.WhiteLaws.{first_of, rest_of}
use Rattle.px_xmp.proofs.SimpleLaws.{plain_piece, with_piece, unchanged_octet, uri_octets, uri_reads_back}

-- what passes a test
tested : (f : ℕ → Bool) (x : List ℕ) → every f x ≡ true → AllByRecursion (λ o. f o ≡ true) x
tested f [] h = tt
tested f (o ∷ x) h = (first_of (f o) (every f x) h, tested f x (rest_of (f o) (every f x) h))

-- ---- names

abbrev pub named : List ℕ → List ℕ → Named
named prefix local = record { prefix = prefix; local = local; size = length (prefix ++ 58 ∷ local) }

-- an attribute in quotation marks
abbrev pub attribute_octets : List ℕ → List ℕ → List ℕ → List ℕ
attribute_octets prefix local value = (prefix ++ 58 ∷ local) ++ 61 ∷ 34 ∷ (value ++ 34 ∷ [])

abbrev pub attribute : List ℕ → List ℕ → List ℕ → Attr
attribute prefix local value = record { name = named prefix local; value = value; size = length (attribute_octets prefix local value) }

-- the name of an element with a label, and its attributes before others
abbrev pub label_named : Label → Named
label_named (Property space local) = named (codes "p") local
label_named Item = named (codes "rdf") (codes "li")

abbrev pub label_attributes : Label → List Attr → List Attr
label_attributes (Property space local) more = attribute (codes "xmlns") (codes "p") space ∷ more
label_attributes Item more = more

name_is : (prefix local : List ℕ) → IsNcName prefix → IsNcName local → IsName (prefix ++ 58 ∷ local) (named prefix local)
name_is prefix local h k = inr (prefix, local, h, k, refl, refl)

p_name : IsNcName (codes "p")
p_name = record { first = 112; others = []; whole = refl; begins = refl; contains = tt }

rdf_name : IsNcName (codes "rdf")
rdf_name = record { first = 114; others = codes "df"; whole = refl; begins = refl; contains = tested is_name_char (codes "df") refl }

li_name : IsNcName (codes "li")
li_name = record { first = 108; others = codes "i"; whole = refl; begins = refl; contains = tested is_name_char (codes "i") refl }

xmlns_name : IsNcName (codes "xmlns")
xmlns_name = record { first = 120; others = codes "mlns"; whole = refl; begins = refl; contains = tested is_name_char (codes "mlns") refl }

xml_name : IsNcName (codes "xml")
xml_name = record { first = 120; others = codes "ml"; whole = refl; begins = refl; contains = tested is_name_char (codes "ml") refl }

lang_name : IsNcName (codes "lang")
lang_name = record { first = 108; others = codes "ang"; whole = refl; begins = refl; contains = tested is_name_char (codes "ang") refl }

resource_name : IsNcName (codes "resource")
resource_name =
    record { first = 114; others = codes "esource"; whole = refl; begins = refl; contains = tested is_name_char (codes "esource") refl }

parse_name : IsNcName (codes "parseType")
parse_name =
    record { first = 112; others = codes "arseType"; whole = refl; begins = refl; contains = tested is_name_char (codes "arseType") refl }

-- ---- attributes

-- no quotation mark and no `<`
abbrev pub IsQuotable : List ℕ → Type 0
IsQuotable v = AllByRecursion (λ o. ((o == 34) ≡ false) × ((o == 60) ≡ false)) v

differs : (o p : ℕ) → (o == p) ≡ false → o ≢ p
differs o p h e = let same : (o == p) ≡ true = eq-eqb o p e in absurd (cc)

quotable : (v : List ℕ) → IsQuotable v → AllByRecursion (λ o. (o ≢ 34) × (o ≢ 60)) v
quotable [] h = tt
quotable (o ∷ v) h = ((differs o 34 h.0.0, differs o 60 h.0.1), quotable v h.1)

abbrev is_quotable : ℕ → Bool
is_quotable o = not (o == 34) && not (o == 60)

tested_quotable : (v : List ℕ) → every is_quotable v ≡ true → IsQuotable v
tested_quotable [] h = tt
tested_quotable (o ∷ v) h =
    let first = first_of (is_quotable o) (every is_quotable v) h in (
      (not-true (o == 34) (first_of (not (o == 34)) (not (o == 60)) first), not-true (o == 60) (rest_of (not (o == 34)) (not (o == 60)) first)),
      tested_quotable v (rest_of (is_quotable o) (every is_quotable v) h),
    )

attribute_is : (prefix local v : List ℕ) → IsNcName prefix → IsNcName local → IsQuotable v → first_fault AttributeValue v ≡ None
    → IsAttribute (attribute_octets prefix local v) (attribute prefix local v)
attribute_is prefix local v h k inside references =
    record {
      name_octets = prefix ++ 58 ∷ local;
      equals = 61 ∷ [];
      quoted = 34 ∷ (v ++ 34 ∷ []);
      name = name_is prefix local h k;
      eq = ([], [], tt, tt, refl);
      value = record { quote = 34; is_quote = inl refl; inside = quotable v inside; references = references; whole = refl };
      whole = refl;
      size = refl;
    }

more_attributes : (y rest : List ℕ) (a : Attr) (more : List Attr) → IsAttribute y a → AreAttributes rest more
    → AreAttributes (32 ∷ (y ++ rest)) (a ∷ more)
more_attributes y rest a more h k = (32 ∷ [], y, rest, (refl, tt), omega arith, h, k, refl)

-- ---- values

-- the value of an attribute that is as plain as a namespace stands for itself
plain_octet : (o : ℕ) → is_plain o ≡ true → ((o == 38) ≡ false) × ((o == 13) ≡ false) × (((o == 9) || (o == 10)) ≡ false)
plain_octet o h = (grind arith, grind arith, grind arith)

plain_value : (v : List ℕ) → every is_plain v ≡ true → text_of AttributeValue v ≡ Some v
unfolding text_in
plain_value [] h = refl
plain_value (o ∷ v) h =
    let (a, b, c) = plain_octet o (first_of (is_plain o) (every is_plain v) h) in
    with_piece (length v) o 1 v (o ∷ []) v (plain_piece o v a b c) (plain_value v (rest_of (is_plain o) (every is_plain v) h))

no_fault : FaultOrText → (v t : List ℕ) → text_of AttributeValue v ≡ Some t → first_fault AttributeValue v ≡ None
no_fault faults v t e = (faults AttributeValue v).1 (t, e)

unequal : (o p : ℕ) → o ≢ p → (o == p) ≡ false
unequal o p h = elim (cases_Bool (o == p)) [
  | inl a ↦ absurd (h (eqb-true o p a))
  | inr b ↦ b
]

space_quotable : (v : List ℕ) → Without 34 v → Without 60 v → IsQuotable v
space_quotable [] h k = tt
space_quotable (o ∷ v) h k = ((unequal o 34 h.0, unequal o 60 k.0), space_quotable v h.1 k.1)

pub usual_plain : (u : List ℕ) → is_usual_space u ≡ true → every is_plain u ≡ true
usual_plain u h = rest_of (nat_le (length u) space_limit) (every is_plain u) h

-- a value that is as plain as a namespace, and can be quoted
abbrev pub IsPlainValue : List ℕ → Type 0
IsPlainValue v = (every is_plain v ≡ true) × IsQuotable v

values_joined : (x y : List ℕ) → IsPlainValue x → IsPlainValue y → IsPlainValue (x ++ y)
values_joined [] y h k = k
values_joined (o ∷ x) y (plain, quotable_is) k =
    let (plains, others) = values_joined x y (rest_of (is_plain o) (every is_plain x) plain, quotable_is.1) k in
    (and_from (is_plain o) (every is_plain (x ++ y)) (first_of (is_plain o) (every is_plain x) plain) plains, (quotable_is.0, others))

part_octet : (first : Bool) (o : ℕ) → is_part_octet first o ≡ true → (is_plain o ≡ true) × ((o == 34) ≡ false) × ((o == 60) ≡ false)
part_octet true o h = (grind arith, grind arith, grind arith)
part_octet false o h = (grind arith, grind arith, grind arith)

part_value : (first : Bool) (x : List ℕ) → list_all (is_part_octet first) x ≡ true → IsPlainValue x
part_value first [] h = (refl, tt)
part_value first (o ∷ x) h =
    let (plain, quote, less) = part_octet first o (first_of (is_part_octet first o) (list_all (is_part_octet first) x) h) in
    let (plains, others) = part_value first x (rest_of (is_part_octet first o) (list_all (is_part_octet first) x) h) in
    (and_from (is_plain o) (every is_plain x) plain plains, ((quote, less), others))

parts_value : (first : Bool) (ps : List (List ℕ)) (x : List ℕ) → AreParts first ps x → IsPlainValue x
parts_value first [] x h = absurd h
parts_value first (p ∷ []) x (part, e) = subst IsPlainValue (sym e) (part_value first p part.0)
parts_value first (p ∷ q ∷ ps) x (part, rest, e, more) =
    let (plain, others) = parts_value false (q ∷ ps) rest more in
    subst IsPlainValue (sym e) (values_joined p (45 ∷ rest) (part_value first p part.0) (plain, ((refl, refl), others)))

pub language_value : (v : List ℕ) → (v ≡ []) ⊎ IsLanguage v → IsPlainValue v
language_value v (inl e) = subst IsPlainValue (sym e) (refl, tt)
language_value v (inr (ps, h)) = parts_value true ps v h

-- ---- normal forms of texts

each_append : (P : ℕ → Type 0) (x y : List ℕ) → AllByRecursion P x → AllByRecursion P y → AllByRecursion P (x ++ y)
each_append P [] y h k = k
each_append P (o ∷ x) y h k = (h.0, each_append P x y h.1 k)

each_after : (P : ℕ → Type 0) (x y : List ℕ) → AllByRecursion P (x ++ y) → AllByRecursion P y
each_after P [] y h = h
each_after P (o ∷ x) y h = each_after P x y h.1

-- the octets of four references
abbrev OfReferences : (ℕ → Type 0) → Type 0
OfReferences P =
    AllByRecursion P (codes "&amp;") × AllByRecursion P (codes "&lt;") × AllByRecursion P (codes "&gt;") × AllByRecursion P (codes "&#13;")

normal_each : (P : ℕ → Type 0) (o : ℕ) → OfReferences P → ((o == 60) ≡ false → (o == 62) ≡ false → P o) → AllByRecursion P (normal_octet o)
normal_each P o (and, less, more, return) last =
    let Q : ℕ → Type 0 = λ j. AllByRecursion P (normal_octet j) in
    elim (cases_Bool (o == 38)) [
      | inl a ↦ subst Q (sym (eqb-true o 38 a)) and
      | inr a ↦ elim (cases_Bool (o == 60)) [
        | inl b ↦ subst Q (sym (eqb-true o 60 b)) less
        | inr b ↦ elim (cases_Bool (o == 62)) [
          | inl c ↦ subst Q (sym (eqb-true o 62 c)) more
          | inr c ↦ elim (cases_Bool (o == 13)) [
            | inl d ↦ subst Q (sym (eqb-true o 13 d)) return
            | inr d ↦
                subst (λ (z : List ℕ). AllByRecursion P z) (sym (unchanged_octet (o == 38) (o == 60) (o == 62) (o == 13) _ _ _ _ _ a b c d)) (last b c, tt)
          ]
        ]
      ]
    ]

abbrev IsNormalOctet : ℕ → Type 0
IsNormalOctet o = ((o == 60) ≡ false) × ((o == 62) ≡ false)

tested_normal : (v : List ℕ) → every (λ o. not (o == 60) && not (o == 62)) v ≡ true → AllByRecursion IsNormalOctet v
tested_normal [] h = tt
tested_normal (o ∷ v) h =
    let f : ℕ → Bool = λ p. not (p == 60) && not (p == 62) in
    let first = first_of (f o) (every f v) h in (
      (not-true (o == 60) (first_of (not (o == 60)) (not (o == 62)) first), not-true (o == 62) (rest_of (not (o == 60)) (not (o == 62)) first)),
      tested_normal v (rest_of (f o) (every f v) h),
    )

normal_octets : (t : List ℕ) → AllByRecursion IsNormalOctet (normal_text t)
normal_octets [] = tt
normal_octets (o ∷ t) =
    each_append IsNormalOctet (normal_octet o) (normal_text t)
    (normal_each IsNormalOctet o (
      tested_normal (codes "&amp;") refl,
      tested_normal (codes "&lt;") refl,
      tested_normal (codes "&gt;") refl,
      tested_normal (codes "&#13;") refl,
    )
    (λ b c. (b, c)))
    (normal_octets t)

quotable_octet : (o : ℕ) → is_uri_octet o ≡ true → ((o == 34) ≡ false) × ((o == 60) ≡ false)
quotable_octet o h = (grind arith, grind arith)

uri_quotable : (v : List ℕ) → every is_uri_octet v ≡ true → IsQuotable v
uri_quotable [] h = tt
uri_quotable (o ∷ v) h =
    (quotable_octet o (first_of (is_uri_octet o) (every is_uri_octet v) h), uri_quotable v (rest_of (is_uri_octet o) (every is_uri_octet v) h))

no_less : (x : List ℕ) → AllByRecursion IsNormalOctet x → AllByRecursion (λ o. not (o == 60) ≡ true) x
no_less [] h = tt
no_less (o ∷ x) h = (ap not h.0.0, no_less x h.1)

-- a text that is not empty is character data
pub text_mark : NormalReadsBack → NormalBound → FaultOrText → (o : ℕ) (t : List ℕ) → IsText (normal_text (o ∷ t))
text_mark reads bounds faults o t =
    let bound = bounds (o ∷ t) in
    record {
      some = omega arith;
      inside = no_less (normal_text (o ∷ t)) (normal_octets (o ∷ t));
      no_section_end = λ a b e.
          let after : AllByRecursion IsNormalOctet (codes "]]>" ++ b) =
          each_after IsNormalOctet a (codes "]]>" ++ b) (subst (λ (z : List ℕ). AllByRecursion IsNormalOctet z) e (normal_octets (o ∷ t))) in
          let wrong : true ≡ false = after.1.1.0.1 in absurd (cc);
      references = (faults CharacterData (normal_text (o ∷ t))).1 (o ∷ t, reads (o ∷ t));
    }

-- ---- tags

-- what a readable label has, wherever it is
abbrev pub CanBeNamed : Label → Type 0
CanBeNamed (Property space local) = IsSpace space × IsNcName local
CanBeNamed Item = ⊤

pub label_named_by : (s : Compound) (l : Label) → IsReadableLabel s l → CanBeNamed l
label_named_by Structure (Property space local) h = (h.0, h.1)
label_named_by Structure Item h = tt
label_named_by Bag (Property space local) h = absurd h
label_named_by Bag Item h = tt
label_named_by Seq (Property space local) h = absurd h
label_named_by Seq Item h = tt
label_named_by Alt (Property space local) h = absurd h
label_named_by Alt Item h = tt

label_start : FaultOrText → (l : Label) → CanBeNamed l → IsLabel l → (z : List ℕ) (more : List Attr) (empty : Bool)
    → AreAttributes z more → IsStartTag (opening_tag l (z ++ closing empty)) (label_named l) (label_attributes l more) empty
label_start faults (Property space local) ((plain, less, free, known), name) (quote, white) z more empty h = (
  112 ∷ 58 ∷ local,
  32 ∷ (attribute_octets (codes "xmlns") (codes "p") space ++ z),
  name_is (codes "p") local p_name name,
  more_attributes (attribute_octets (codes "xmlns") (codes "p") space) z (attribute (codes "xmlns") (codes "p") space) more
      (attribute_is (codes "xmlns") (codes "p") space xmlns_name p_name (space_quotable space quote less)
      (no_fault faults space space (plain_value space (usual_plain space plain)))) h,
  simp append_assoc refl,
)
label_start faults Item label can z more empty h = (codes "rdf:li", z, name_is (codes "rdf") (codes "li") rdf_name li_name, h, refl)

pub start_bare : FaultOrText → (l : Label) → CanBeNamed l → IsLabel l
    → IsStartTag (opening_tag l (62 ∷ [])) (label_named l) (label_attributes l []) false
start_bare faults l label can = label_start faults l label can [] [] false tt

-- a language in a start tag, and the end of the tag
abbrev pub spoken : List ℕ → List ℕ
spoken language = 32 ∷ 120 ∷ (codes "ml:lang=\"" ++ (language ++ 34 ∷ 62 ∷ []))

-- a URI in the tag of an empty element, and the end of the tag
abbrev pub resource : List ℕ → List ℕ
resource uri = 32 ∷ 114 ∷ 100 ∷ 102 ∷ 58 ∷ 114 ∷ (codes "esource=\"" ++ (normal_text uri ++ 34 ∷ 47 ∷ 62 ∷ []))

one_attribute : (prefix local v : List ℕ) → IsNcName prefix → IsNcName local → IsQuotable v → first_fault AttributeValue v ≡ None
    → AreAttributes (32 ∷ (attribute_octets prefix local v ++ [])) (attribute prefix local v ∷ [])
one_attribute prefix local v h k inside references =
    more_attributes (attribute_octets prefix local v) [] (attribute prefix local v) [] (attribute_is prefix local v h k inside references) tt

spoken_same : (v : List ℕ) → (32 ∷ (attribute_octets (codes "xml") (codes "lang") v ++ [])) ++ closing false ≡ spoken v
spoken_same v = simp append_assoc refl

resource_same : (uri : List ℕ)
    → (32 ∷ (attribute_octets (codes "rdf") (codes "resource") (normal_text uri) ++ [])) ++ closing true ≡ resource uri
resource_same uri = simp append_assoc refl

pub start_spoken : FaultOrText → (l : Label) (language : List ℕ) → CanBeNamed l → IsLabel l → (language ≡ []) ⊎ IsLanguage language
    → IsStartTag (opening_tag l (spoken language)) (label_named l) (label_attributes l (attribute (codes "xml") (codes "lang") language ∷ [])) false
start_spoken faults l language label can h =
    let (plain, inside) = language_value language h in
    subst
    (λ (z : List ℕ).
    IsStartTag (opening_tag l z) (label_named l) (label_attributes l (attribute (codes "xml") (codes "lang") language ∷ [])) false)
    (spoken_same language)
    (label_start faults l label can (32 ∷ (attribute_octets (codes "xml") (codes "lang") language ++ []))
    (attribute (codes "xml") (codes "lang") language ∷ []) false
    (one_attribute (codes "xml") (codes "lang") language xml_name lang_name inside
    (no_fault faults language language (plain_value language plain))))

pub start_resource : FaultOrText → NormalBound → (l : Label) (uri : List ℕ) → CanBeNamed l → IsLabel l → IsAbsolute (normal_text uri)
    → IsStartTag (opening_tag l (resource uri)) (label_named l)
    (label_attributes l (attribute (codes "rdf") (codes "resource") (normal_text uri) ∷ [])) true
start_resource faults bounds l uri label can h =
    let v : List ℕ = normal_text uri in
    subst
    (λ (z : List ℕ).
    IsStartTag (opening_tag l z) (label_named l) (label_attributes l (attribute (codes "rdf") (codes "resource") v ∷ [])) true)
    (resource_same uri)
    (label_start faults l label can (32 ∷ (attribute_octets (codes "rdf") (codes "resource") v ++ []))
    (attribute (codes "rdf") (codes "resource") v ∷ []) true
    (one_attribute (codes "rdf") (codes "resource") v rdf_name resource_name (uri_quotable v (uri_octets v h.0))
    (no_fault faults v uri (uri_reads_back bounds uri h))))

pub start_parsed : FaultOrText → (l : Label) → CanBeNamed l → IsLabel l
    → IsStartTag (opening_tag l (compound_start Structure [])) (label_named l)
    (label_attributes l (attribute (codes "rdf") (codes "parseType") (codes "Resource") ∷ [])) false
start_parsed faults l label can =
    label_start faults l label can (32 ∷ (attribute_octets (codes "rdf") (codes "parseType") (codes "Resource") ++ []))
    (attribute (codes "rdf") (codes "parseType") (codes "Resource") ∷ []) false
    (one_attribute (codes "rdf") (codes "parseType") (codes "Resource") rdf_name parse_name
    (tested_quotable (codes "Resource") refl)
    (no_fault faults (codes "Resource") (codes "Resource") (plain_value (codes "Resource") refl)))

pub end_label : (l : Label) → CanBeNamed l → IsEndTag (end_tag l []) (label_named l)
end_label (Property space local) label = (112 ∷ 58 ∷ local, [], name_is (codes "p") local p_name label.1, tt, refl)
end_label Item label = (codes "rdf:li", [], name_is (codes "rdf") (codes "li") rdf_name li_name, tt, refl)

-- ---- tags of one spelling

bag_name : IsNcName (codes "Bag")
bag_name = record { first = 66; others = codes "ag"; whole = refl; begins = refl; contains = tested is_name_char (codes "ag") refl }

seq_name : IsNcName (codes "Seq")
seq_name = record { first = 83; others = codes "eq"; whole = refl; begins = refl; contains = tested is_name_char (codes "eq") refl }

alt_name : IsNcName (codes "Alt")
alt_name = record { first = 65; others = codes "lt"; whole = refl; begins = refl; contains = tested is_name_char (codes "lt") refl }

pub start_bag : IsStartTag (codes "<rdf:Bag>") (named (codes "rdf") (codes "Bag")) [] false
start_bag = (codes "rdf:Bag", [], name_is (codes "rdf") (codes "Bag") rdf_name bag_name, tt, refl)

pub start_seq : IsStartTag (codes "<rdf:Seq>") (named (codes "rdf") (codes "Seq")) [] false
start_seq = (codes "rdf:Seq", [], name_is (codes "rdf") (codes "Seq") rdf_name seq_name, tt, refl)

pub start_alt : IsStartTag (codes "<rdf:Alt>") (named (codes "rdf") (codes "Alt")) [] false
start_alt = (codes "rdf:Alt", [], name_is (codes "rdf") (codes "Alt") rdf_name alt_name, tt, refl)

pub end_bag : IsEndTag (codes "</rdf:Bag>") (named (codes "rdf") (codes "Bag"))
end_bag = (codes "rdf:Bag", [], name_is (codes "rdf") (codes "Bag") rdf_name bag_name, tt, refl)

pub end_seq : IsEndTag (codes "</rdf:Seq>") (named (codes "rdf") (codes "Seq"))
end_seq = (codes "rdf:Seq", [], name_is (codes "rdf") (codes "Seq") rdf_name seq_name, tt, refl)

pub end_alt : IsEndTag (codes "</rdf:Alt>") (named (codes "rdf") (codes "Alt"))
end_alt = (codes "rdf:Alt", [], name_is (codes "rdf") (codes "Alt") rdf_name alt_name, tt, refl)

x_name : IsNcName (codes "x")
x_name = record { first = 120; others = []; whole = refl; begins = refl; contains = tt }

meta_name : IsNcName (codes "xmpmeta")
meta_name = record { first = 120; others = codes "mpmeta"; whole = refl; begins = refl; contains = tested is_name_char (codes "mpmeta") refl }

root_name : IsNcName (codes "RDF")
root_name = record { first = 82; others = codes "DF"; whole = refl; begins = refl; contains = tested is_name_char (codes "DF") refl }

description_name : IsNcName (codes "Description")
description_name =
    record { first = 68; others = codes "escription"; whole = refl; begins = refl; contains = tested is_name_char (codes "escription") refl }

about_name : IsNcName (codes "about")
about_name = record { first = 97; others = codes "bout"; whole = refl; begins = refl; contains = tested is_name_char (codes "bout") refl }

plain_attribute : FaultOrText → (prefix local v : List ℕ) → IsNcName prefix → IsNcName local → every is_quotable v ≡ true → every is_plain v ≡ true
    → AreAttributes (32 ∷ (attribute_octets prefix local v ++ [])) (attribute prefix local v ∷ [])
plain_attribute faults prefix local v h k quote plain =
    one_attribute prefix local v h k (tested_quotable v quote) (no_fault faults v v (plain_value v plain))

-- x:xmpmeta
abbrev pub meta_start : List ℕ
meta_start = codes "<x:xmpmeta xmlns:x=\"adobe:ns:meta/\">"

abbrev pub meta_attributes : List Attr
meta_attributes = attribute (codes "xmlns") (codes "x") meta_space ∷ []

pub start_meta : FaultOrText → IsStartTag meta_start (named (codes "x") (codes "xmpmeta")) meta_attributes false
start_meta faults = (
  codes "x:xmpmeta",
  codes " xmlns:x=\"adobe:ns:meta/\"",
  name_is (codes "x") (codes "xmpmeta") x_name meta_name,
  plain_attribute faults (codes "xmlns") (codes "x") meta_space xmlns_name x_name refl refl,
  refl,
)

-- rdf:RDF
abbrev pub root_start : List ℕ
root_start = codes "<rdf:RDF xmlns:rdf=\"http://www.w3.org/1999/02/22-rdf-syntax-ns#\">"

abbrev pub root_attributes : List Attr
root_attributes = attribute (codes "xmlns") (codes "rdf") rdf_space ∷ []

pub start_root : FaultOrText → IsStartTag root_start (named (codes "rdf") (codes "RDF")) root_attributes false
start_root faults = (
  codes "rdf:RDF",
  codes " xmlns:rdf=\"http://www.w3.org/1999/02/22-rdf-syntax-ns#\"",
  name_is (codes "rdf") (codes "RDF") rdf_name root_name,
  plain_attribute faults (codes "xmlns") (codes "rdf") rdf_space xmlns_name rdf_name refl refl,
  refl,
)

-- rdf:Description
abbrev pub description_start : List ℕ
description_start = codes "<rdf:Description rdf:about=\"\">"

abbrev pub description_attributes : List Attr
description_attributes = attribute (codes "rdf") (codes "about") [] ∷ []

pub start_description : FaultOrText
    → IsStartTag description_start (named (codes "rdf") (codes "Description")) description_attributes false
start_description faults = (
  codes "rdf:Description",
  codes " rdf:about=\"\"",
  name_is (codes "rdf") (codes "Description") rdf_name description_name,
  plain_attribute faults (codes "rdf") (codes "about") [] rdf_name about_name refl refl,
  refl,
)

pub end_meta : IsEndTag (codes "</x:xmpmeta>") (named (codes "x") (codes "xmpmeta"))
end_meta = (codes "x:xmpmeta", [], name_is (codes "x") (codes "xmpmeta") x_name meta_name, tt, refl)

pub end_root : IsEndTag (codes "</rdf:RDF>") (named (codes "rdf") (codes "RDF"))
end_root = (codes "rdf:RDF", [], name_is (codes "rdf") (codes "RDF") rdf_name root_name, tt, refl)

pub end_description : IsEndTag (codes "</rdf:Description>") (named (codes "rdf") (codes "Description"))
end_description = (codes "rdf:Description", [], name_is (codes "rdf") (codes "Description") rdf_name description_name, tt, refl)

-- ---- octets before others

pub opening_shift : (l : Label) (x k : List ℕ) → opening_tag l (x ++ k) ≡ opening_tag l x ++ k
opening_shift l x k = opening_more l (x ++ k) ∙ sym (append_assoc (opening_tag l []) x k) ∙ sym (ap (λ (z : List ℕ). z ++ k) (opening_more l x))

pub spoken_more : (language k : List ℕ) → 32 ∷ 120 ∷ (codes "ml:lang=\"" ++ (language ++ 34 ∷ 62 ∷ k)) ≡ spoken language ++ k
spoken_more language k = simp append_assoc refl

pub resource_more : (uri k : List ℕ)
    → 32 ∷ 114 ∷ 100 ∷ 102 ∷ 58 ∷ 114 ∷ (codes "esource=\"" ++ (normal_text uri ++ 34 ∷ 47 ∷ 62 ∷ k)) ≡ resource uri ++ k
resource_more uri k = simp append_assoc refl
