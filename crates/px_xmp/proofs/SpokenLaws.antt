-- What nodes mean has no longer languages than their tags declare.
use Rattle.std.proofs.Common.{◌≤◌, ◌++◌, inl, inr, ℕ, Option, Some, None, List, [], ◌∷◌, length, sym, subst, arith}
use Rattle.std.proofs.lemmas.List.{length-map}
use Rattle.std.specs.List.{AllByRecursion}
use Rattle.std.specs.Char.{to_ascii_lowercase}
use Rattle.px_xmp_text.specs.Values.{Label, Compound, Structure, Bag, Seq, Alt, Content}
use Rattle.px_xmp_forms.specs.Languages.{language_limit}
use Rattle.px_xmp_forms.specs.Forms.{HasShortLanguage, HaveShortLanguages}
use Rattle.px_xmp_forms.specs.Entries.{Value, Plain, Inside, Entry, before, row}
use Rattle.px_xmp.specs.Tags.{Field, Tag, inherited}
use Rattle.px_xmp.specs.Nodes.{Nodes, Nothing, Words, Element}
use Rattle.px_xmp.specs.Meaning.{literal, IsRow, AreAttributes, HasAttributes, IsValue, AreEntries, IsNode, without_about, AreSubjects, IsRdf, IsAlone, Means}
use Rattle.px_xmp.specs.Limits.{IsShortLanguage, DeclareShortLanguages}
use Rattle.px_xmp.proofs.ReadableLaws.{all_joined, all_append}

-- ---- rows

abbrev IsShortValue : Value → Type 0
IsShortValue (Plain p) = HasShortLanguage p
IsShortValue (Inside s c) = HaveShortLanguages c

abbrev IsShortEntry : Entry → Type 0
IsShortEntry e = IsShortValue e.value

abbrev AreShortEntries : List Entry → Type 0
AreShortEntries es = AllByRecursion IsShortEntry es

row_short : (es : List Entry) → AreShortEntries es → HaveShortLanguages (row es)
row_short [] h = tt
row_short (e ∷ es) h = first e.label e.value h.0 (row_short es h.1)
  where
    first : (l : Label) (v : Value) → IsShortValue v → HaveShortLanguages (row es) → HaveShortLanguages (before l v (row es))
    first l (Plain p) h k = (h, k)
    first l (Inside s c) h k = (h, k)

row_is : (s : Compound) (es : List Entry) (c : Content) → IsRow s es c → AreShortEntries es → HaveShortLanguages c
row_is s es c (fs, h, e) k = subst HaveShortLanguages (sym e) (row_short fs (all_joined IsShortEntry s es fs h k))

-- ---- languages

abbrev IsShort : List ℕ → Type 0
IsShort l = length l ≤ language_limit

language_is : (l : List ℕ) (o : Option (List ℕ)) → IsShortLanguage o → IsShort l → IsShort (inherited l o)
language_is l None h short = short
language_is l (Some m) h short = h

literal_short : (l t : List ℕ) → IsShort l → IsShortValue (literal l t)
literal_short l t h = omega (arith, h, length-map l to_ascii_lowercase)

attributes_are : (l : List ℕ) (place : ℕ) (fields : List Field) (es : List Entry) → IsShort l → AreAttributes l place fields es → AreShortEntries es
attributes_are l place [] es short e = subst AreShortEntries (sym e) tt
attributes_are l place (f ∷ fields) es short (label, t, more, named, text, e, rest) =
    subst AreShortEntries (sym e) (literal_short l t short, attributes_are l place fields more short rest)

has_are : (s : Compound) (l : List ℕ) (place : ℕ) (fields : List Field) (es : List Entry) → IsShort l → HasAttributes s l place fields es → AreShortEntries es
has_are Structure l place fields es short h = attributes_are l place fields es short h
has_are Bag l place fields es short h = subst AreShortEntries (sym h.1) tt
has_are Seq l place fields es short h = subst AreShortEntries (sym h.1) tt
has_are Alt l place fields es short h = subst AreShortEntries (sym h.1) tt

-- ---- values

value_is : (l : List ℕ) (place : ℕ) (fields : List Field) (inner : Nodes) (IsInside : Compound → Content → Type 0) (AreInside : List Entry → Type 0) → IsShort l
    → ((s : Compound) (c : Content) → IsInside s c → HaveShortLanguages c) → ((es : List Entry) → AreInside es → AreShortEntries es)
    → (v : Value) → IsValue l place fields inner IsInside AreInside v → IsShortValue v
value_is l place fields inner IsInside AreInside short node entries v (inl (none, t, is, e)) = subst IsShortValue (sym e) (literal_short l t short)
value_is l place fields inner IsInside AreInside short node entries v (inr (inl (none, s, c, is, e))) = subst IsShortValue (sym e) (node s c is)
value_is l place fields inner IsInside AreInside short node entries v (inr (inr (inl (f, one, named, is, es, c, are, r, e)))) =
    subst IsShortValue (sym e) (row_is Structure es c r (entries es are))
value_is l place fields inner IsInside AreInside short node entries v (inr (inr (inr (inl (f, one, named, absolute, white, t, text, e))))) =
    subst IsShortValue (sym e) tt
value_is l place fields inner IsInside AreInside short node entries v (inr (inr (inr (inr (some, white, es, c, are, r, e))))) =
    subst IsShortValue (sym e) (row_is Structure es c r (attributes_are l place fields es short are))

-- ---- nodes

mutual
  entries_are : (s : Compound) (l : List ℕ) (nodes : Nodes) (es : List Entry) → IsShort l → DeclareShortLanguages nodes → AreEntries s l nodes es
      → AreShortEntries es
  entries_are s l Nothing es short declares e = subst AreShortEntries (sym e) tt
  entries_are s l (Words t more) es short declares h = entries_are s l more es short declares h.1
  entries_are s l (Element tag place inner more) es short declares (declared, label, v, others, named, e, rest, is) =
      let language : List ℕ = inherited l tag.language in
      let heard : IsShort language = language_is l tag.language declares.0 short in
      let value : IsShortValue v = value_is language place tag.fields inner (IsNode language inner) (AreEntries Structure language inner) heard
      (λ s c p. node_is language inner s c heard declares.1 p) (λ fs p. entries_are Structure language inner fs heard declares.1 p) v is in
      subst AreShortEntries (sym e) (value, entries_are s l more others short declares.2 rest)

  node_is : (l : List ℕ) (nodes : Nodes) (s : Compound) (c : Content) → IsShort l → DeclareShortLanguages nodes → IsNode l nodes s c → HaveShortLanguages c
  node_is l Nothing s c short declares h = absurd h
  node_is l (Words t more) s c short declares h = node_is l more s c short declares h.1
  node_is l (Element tag place inner more) s c short declares (declared, named, white, fs, es, p, q, r) =
      let language : List ℕ = inherited l tag.language in
      let heard : IsShort language = language_is l tag.language declares.0 short in
      row_is s (fs ++ es) c r (all_append IsShortEntry fs es (has_are s language place tag.fields fs heard p)
      (entries_are s language inner es heard declares.1 q))

-- ---- documents

subjects_are : (u : Option (List ℕ)) (l : List ℕ) (nodes : Nodes) (all : List Entry) → IsShort l → DeclareShortLanguages nodes → AreSubjects u l nodes all
    → AreShortEntries all
subjects_are u l Nothing all short declares e = subst AreShortEntries (sym e) tt
subjects_are u l (Words t more) all short declares h = subjects_are u l more all short declares h.1
subjects_are u l (Element tag place inner more) all short declares (declared, is, about, fs, es, others, p, q, r, e) =
    let language : List ℕ = inherited l tag.language in
    let heard : IsShort language = language_is l tag.language declares.0 short in
    subst AreShortEntries (sym e) (all_append IsShortEntry fs (es ++ others)
    (attributes_are language place (without_about tag.fields) fs heard p)
    (all_append IsShortEntry es others (entries_are Structure language inner es heard declares.1 q)
    (subjects_are u l more others short declares.2 r)))

rdf_is : (tag : Tag) (inner : Nodes) (c : Content) → IsShortLanguage tag.language → DeclareShortLanguages inner → IsRdf c tag inner → HaveShortLanguages c
rdf_is tag inner c spoken declares (declared, is, bare, u, es, p, r) =
    row_is Structure es c r (subjects_are u (inherited [] tag.language) inner es (language_is [] tag.language spoken (omega arith)) declares p)

has_rdf_is : (nodes : Nodes) (c : Content) → DeclareShortLanguages nodes → IsAlone (IsRdf c) nodes → HaveShortLanguages c
has_rdf_is Nothing c declares h = absurd h
has_rdf_is (Words t more) c declares h = has_rdf_is more c declares h.1
has_rdf_is (Element tag place inner more) c declares h = rdf_is tag inner c declares.0 declares.1 h.0

pub means_short : (nodes : Nodes) (c : Content) → DeclareShortLanguages nodes → Means nodes c → HaveShortLanguages c
means_short Nothing c declares h = absurd h
means_short (Words t more) c declares h = means_short more c declares h.1
means_short (Element tag place inner more) c declares (inl h, white) = rdf_is tag inner c declares.0 declares.1 h
means_short (Element tag place inner more) c declares (inr h, white) = has_rdf_is inner c declares.1 h.1
