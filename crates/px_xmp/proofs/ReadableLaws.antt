-- What nodes mean can be read again.
use Rattle.std.proofs.Common.{◌≡◌, ◌⊎◌, ◌++◌, inl, inr, refl, ℕ, Bool, true, false, if◌then◌else◌, Option, Some, None, List, [], ◌∷◌, codes, sym, ap, subst}
use Rattle.std.specs.List.{AllByRecursion}
use Rattle.std.specs.Str.{str_to_ascii_lowercase}
use Rattle.std.specs.List.Sorted.{IsPermutation}
use Rattle.std.proofs.lemmas.List.Sorted.{IsPermutation-sym, IsPermutation-refl, All-permutation}
use Rattle.std.proofs.lemmas.List.Elements.{All-from_recursion, recursion_from_All}
use Rattle.px_xmp_text.specs.Texts.{text_of}
use Rattle.px_xmp_text.specs.Grammar.{OnlyReferencesAreRead}
use Rattle.px_xmp_text.specs.Characters.{AreCharacters}
use Rattle.px_xmp_text.specs.declared.pieces.TextKind.TheVariants.{AttributeValue}
use Rattle.px_xmp_text.specs.Values.{Label, Item, Uri, Compound, Structure, Bag, Seq, Alt, Content}
use Rattle.px_xmp_forms.specs.Languages.{IsLanguage}
use Rattle.px_xmp_forms.specs.Uris.{IsAbsolute}
use Rattle.px_xmp_forms.specs.Entries.{Value, Plain, Inside, Entry, before, row}
use Rattle.px_xmp.specs.Names.{Name, is_rdf, is_about}
use Rattle.px_xmp.specs.Tags.{Field, Tag, inherited, DeclaresLanguage}
use Rattle.px_xmp.specs.Nodes.{Nodes, Nothing, Words, Element}
use Rattle.px_xmp.specs.Meaning.{IsText, literal, label_in, Joins, IsRow, AreAttributes, HasAttributes}
use Rattle.px_xmp.specs.Meaning.{IsValue, AreEntries, IsNode, without_about, AreSubjects, IsRdf, IsAlone, Means}
use Rattle.px_xmp.specs.Readable.{IsReadableLabel, IsReadableSimple, IsOrdered, AreReadable}
use Rattle.px_xmp.proofs.TextLaws.{none_are, characters_joined, text_is}
use Rattle.px_xmp.proofs.SoundLaws.{IsSoundName, IsSoundField, AreSound}
use Rattle.px_xmp.proofs.RepeatLaws.{distinct_moved}
use Rattle.px_xmp.proofs.LabelLaws.{property_label}
use Rattle.px_xmp.proofs.AgainLaws.{language_lower, lower_twice, uri_again}

-- ---- rows

abbrev IsReadableValue : Value → Type 0
IsReadableValue (Plain p) = IsReadableSimple p
IsReadableValue (Inside s c) = IsOrdered s c × AreReadable s c

abbrev IsReadableEntry : Compound → Entry → Type 0
IsReadableEntry s e = IsReadableLabel s e.label × IsReadableValue e.value

abbrev AreReadableEntries : Compound → List Entry → Type 0
AreReadableEntries s es = AllByRecursion (IsReadableEntry s) es

before_readable : (s : Compound) (l : Label) (v : Value) (c : Content) → IsReadableLabel s l → IsReadableValue v → AreReadable s c
    → AreReadable s (before l v c)
before_readable s l (Plain p) c a b d = (a, b, d)
before_readable s l (Inside t inner) c a b d = (a, b.0, b.1, d)

row_readable : (s : Compound) (es : List Entry) → AreReadableEntries s es → AreReadable s (row es)
row_readable s [] h = tt
row_readable s (e ∷ es) h = before_readable s e.label e.value (row es) h.0.0 h.0.1 (row_readable s es h.1)

joins_itself : (s : Compound) (es fs : List Entry) → Joins s es fs → Joins s fs fs
joins_itself Structure es fs (one, h) =
    (distinct_moved fs es (IsPermutation-sym es fs h.same) one, record { same = IsPermutation-refl fs; order = h.order })
joins_itself Bag es fs h = record { same = IsPermutation-refl fs; order = h.order }
joins_itself Seq es fs h = refl
joins_itself Alt es fs h = refl

all_moved : (P : Entry → Type 0) (es fs : List Entry) → IsPermutation es fs → AllByRecursion P es → AllByRecursion P fs
all_moved P es fs h k = recursion_from_All P fs (All-permutation P es fs h (All-from_recursion P es k))

pub all_joined : (P : Entry → Type 0) (s : Compound) (es fs : List Entry) → Joins s es fs → AllByRecursion P es → AllByRecursion P fs
all_joined P Structure es fs h k = all_moved P es fs h.1.same k
all_joined P Bag es fs h k = all_moved P es fs h.same k
all_joined P Seq es fs h k = subst (AllByRecursion P) (sym h) k
all_joined P Alt es fs h k = subst (AllByRecursion P) (sym h) k

row_is : (s : Compound) (es : List Entry) (c : Content) → IsRow s es c → AreReadableEntries s es → IsOrdered s c × AreReadable s c
row_is s es c (fs, h, e) k = (
  (fs, e, joins_itself s es fs h),
  subst (AreReadable s) (sym e) (row_readable s fs (all_joined (IsReadableEntry s) s es fs h k)),
)

pub all_append : (P : Entry → Type 0) (es fs : List Entry) → AllByRecursion P es → AllByRecursion P fs → AllByRecursion P (es ++ fs)
all_append P [] fs h k = k
all_append P (e ∷ es) fs h k = (h.0, all_append P es fs h.1 k)

-- ---- labels and texts

item_is : (b : Bool) (l : Label) → (if b then Some Item else None) ≡ Some l → Item ≡ l
item_is true l h = cc
item_is false l h = absurd (cc)

text_sound : (nodes : Nodes) (t : List ℕ) → AreSound nodes → IsText nodes t → AreCharacters t
text_sound Nothing t h e = subst AreCharacters (sym e) none_are
text_sound (Words w more) t h (u, e, is) = subst AreCharacters (sym e) (characters_joined w u h.0 (text_sound more u h.1 is))
text_sound (Element tag place inner more) t h e = absurd e

-- a language that a normal form can have, when it is in small letters; or none
abbrev IsSpoken : List ℕ → Type 0
IsSpoken l = (str_to_ascii_lowercase l ≡ []) ⊎ IsLanguage (str_to_ascii_lowercase l)

language_is : (l : List ℕ) (o : Option (List ℕ)) → DeclaresLanguage o → IsSpoken l → IsSpoken (inherited l o)
language_is l None h spoken = spoken
language_is l (Some m) (inl none) spoken = inl (ap str_to_ascii_lowercase none)
language_is l (Some m) (inr is) spoken = inr (language_lower m is)

literal_readable : (l t : List ℕ) → IsSpoken l → AreCharacters t → IsReadableValue (literal l t)
literal_readable l t h k = (h, lower_twice l, k)

uri_readable : (v t : List ℕ) → IsAbsolute v → text_of AttributeValue v ≡ Some t → IsReadableValue (Plain (Uri t))
uri_readable v t is text = subst IsAbsolute (sym (uri_again v t is text)) is

label_is : (s : Compound) (n : Name) (l : Label) → label_in s n ≡ Some l → IsSoundName n → IsReadableLabel s l
label_is Structure n l h a = property_label n l h a
label_is Bag n l h a = subst (IsReadableLabel Bag) (item_is (is_rdf (codes "li") n) l h) tt
label_is Seq n l h a = subst (IsReadableLabel Seq) (item_is (is_rdf (codes "li") n) l h) tt
label_is Alt n l h a = subst (IsReadableLabel Alt) (item_is (is_rdf (codes "li") n) l h) tt

-- ---- attributes

attributes_are : OnlyReferencesAreRead → (l : List ℕ) (place : ℕ) (fields : List Field) (es : List Entry) → IsSpoken l → AllByRecursion IsSoundField fields
    → AreAttributes l place fields es → AreReadableEntries Structure es
attributes_are law l place [] es spoken sound e = subst (AreReadableEntries Structure) (sym e) tt
attributes_are law l place (f ∷ fields) es spoken sound (label, t, more, named, text, e, rest) =
    subst (AreReadableEntries Structure) (sym e) (
      (
        property_label f.name label named sound.0.0,
        literal_readable l t spoken (text_is law AttributeValue f.value t sound.0.1 text),
      ),
      attributes_are law l place fields more spoken sound.1 rest,
    )

has_are : OnlyReferencesAreRead → (s : Compound) (l : List ℕ) (place : ℕ) (fields : List Field) (es : List Entry) → IsSpoken l → AllByRecursion IsSoundField fields
    → HasAttributes s l place fields es → AreReadableEntries s es
has_are law Structure l place fields es spoken sound h = attributes_are law l place fields es spoken sound h
has_are law Bag l place fields es spoken sound h = subst (AreReadableEntries Bag) (sym h.1) tt
has_are law Seq l place fields es spoken sound h = subst (AreReadableEntries Seq) (sym h.1) tt
has_are law Alt l place fields es spoken sound h = subst (AreReadableEntries Alt) (sym h.1) tt

-- ---- values

abbrev NodeReadable : (Compound → Content → Type 0) → Type 0
NodeReadable IsInside = (s : Compound) (c : Content) → IsInside s c → IsOrdered s c × AreReadable s c

abbrev EntriesReadable : (List Entry → Type 0) → Type 0
EntriesReadable AreInside = (es : List Entry) → AreInside es → AreReadableEntries Structure es

value_is : OnlyReferencesAreRead → (l : List ℕ) (place : ℕ) (fields : List Field) (inner : Nodes) (IsInside : Compound → Content → Type 0)
    (AreInside : List Entry → Type 0) → IsSpoken l → AllByRecursion IsSoundField fields → AreSound inner → NodeReadable IsInside
    → EntriesReadable AreInside → (v : Value) → IsValue l place fields inner IsInside AreInside v → IsReadableValue v
value_is law l place fields inner IsInside AreInside spoken sound within node entries v (inl (none, t, is, e)) =
    subst IsReadableValue (sym e) (literal_readable l t spoken (text_sound inner t within is))
value_is law l place fields inner IsInside AreInside spoken sound within node entries v (inr (inl (none, s, c, is, e))) =
    subst IsReadableValue (sym e) (node s c is)
value_is law l place fields inner IsInside AreInside spoken sound within node entries v (inr (inr (inl (f, one, named, is, es, c, are, r, e)))) =
    subst IsReadableValue (sym e) (row_is Structure es c r (entries es are))
value_is law l place fields inner IsInside AreInside spoken sound within node entries v (inr (inr (inr (inl (f, one, named, absolute, white, t, text, e))))) =
    subst IsReadableValue (sym e) (uri_readable f.value t absolute text)
value_is law l place fields inner IsInside AreInside spoken sound within node entries v (inr (inr (inr (inr (some, white, es, c, are, r, e))))) =
    subst IsReadableValue (sym e) (row_is Structure es c r (attributes_are law l place fields es spoken sound are))

-- ---- nodes

mutual
  entries_are : OnlyReferencesAreRead → (s : Compound) (l : List ℕ) (nodes : Nodes) (es : List Entry) → IsSpoken l → AreSound nodes → AreEntries s l nodes es
      → AreReadableEntries s es
  entries_are law s l Nothing es spoken sound e = subst (AreReadableEntries s) (sym e) tt
  entries_are law s l (Words t more) es spoken sound h = entries_are law s l more es spoken sound.1 h.1
  entries_are law s l (Element tag place inner more) es spoken sound (declared, label, v, others, named, e, rest, is) =
      let language : List ℕ = inherited l tag.language in
      let heard : IsSpoken language = language_is l tag.language declared spoken in
      let value : IsReadableValue v = value_is law language place tag.fields inner (IsNode language inner) (AreEntries Structure language inner) heard
      sound.0.1 sound.1 (λ s c p. node_is law language inner s c heard sound.1 p)
      (λ fs p. entries_are law Structure language inner fs heard sound.1 p) v is in
      subst (AreReadableEntries s) (sym e)
      ((label_is s tag.name label named sound.0.0, value), entries_are law s l more others spoken sound.2 rest)

  node_is : OnlyReferencesAreRead → (l : List ℕ) (nodes : Nodes) (s : Compound) (c : Content) → IsSpoken l → AreSound nodes → IsNode l nodes s c
      → IsOrdered s c × AreReadable s c
  node_is law l Nothing s c spoken sound h = absurd h
  node_is law l (Words t more) s c spoken sound h = node_is law l more s c spoken sound.1 h.1
  node_is law l (Element tag place inner more) s c spoken sound (declared, named, white, fs, es, p, q, r) =
      let language : List ℕ = inherited l tag.language in
      let heard : IsSpoken language = language_is l tag.language declared spoken in
      row_is s (fs ++ es) c r (all_append (IsReadableEntry s) fs es
      (has_are law s language place tag.fields fs heard sound.0.1 p) (entries_are law s language inner es heard sound.1 q))

-- ---- documents

without_sound : (fields : List Field) → AllByRecursion IsSoundField fields → AllByRecursion IsSoundField (without_about fields)
without_sound [] h = tt
without_sound (f ∷ fields) h = by_name (is_about f.name) (without_sound fields h.1)
  where
    by_name : (b : Bool) → AllByRecursion IsSoundField (without_about fields)
        → AllByRecursion IsSoundField (if b then without_about fields else f ∷ without_about fields)
    by_name true k = k
    by_name false k = (h.0, k)

subjects_are : OnlyReferencesAreRead → (u : Option (List ℕ)) (l : List ℕ) (nodes : Nodes) (all : List Entry) → IsSpoken l → AreSound nodes → AreSubjects u l nodes all
    → AreReadableEntries Structure all
subjects_are law u l Nothing all spoken sound e = subst (AreReadableEntries Structure) (sym e) tt
subjects_are law u l (Words t more) all spoken sound h = subjects_are law u l more all spoken sound.1 h.1
subjects_are law u l (Element tag place inner more) all spoken sound (declared, is, about, fs, es, others, p, q, r, e) =
    let language : List ℕ = inherited l tag.language in
    let heard : IsSpoken language = language_is l tag.language declared spoken in
    subst (AreReadableEntries Structure) (sym e) (all_append (IsReadableEntry Structure) fs (es ++ others)
    (attributes_are law language place (without_about tag.fields) fs heard (without_sound tag.fields sound.0.1) p)
    (all_append (IsReadableEntry Structure) es others (entries_are law Structure language inner es heard sound.1 q)
    (subjects_are law u l more others spoken sound.2 r)))

rdf_is : OnlyReferencesAreRead → (tag : Tag) (inner : Nodes) (c : Content) → AreSound inner → IsRdf c tag inner → IsOrdered Structure c × AreReadable Structure c
rdf_is law tag inner c sound (declared, is, bare, u, es, p, r) =
    row_is Structure es c r (subjects_are law u (inherited [] tag.language) inner es (language_is [] tag.language declared (inl refl)) sound p)

has_rdf_is : OnlyReferencesAreRead → (nodes : Nodes) (c : Content) → AreSound nodes → IsAlone (IsRdf c) nodes → IsOrdered Structure c × AreReadable Structure c
has_rdf_is law Nothing c sound h = absurd h
has_rdf_is law (Words t more) c sound h = has_rdf_is law more c sound.1 h.1
has_rdf_is law (Element tag place inner more) c sound h = rdf_is law tag inner c sound.1 h.0

pub means_is : OnlyReferencesAreRead → (nodes : Nodes) (c : Content) → AreSound nodes → Means nodes c → IsOrdered Structure c × AreReadable Structure c
means_is law Nothing c sound h = absurd h
means_is law (Words t more) c sound h = means_is law more c sound.1 h.1
means_is law (Element tag place inner more) c sound (inl h, white) = rdf_is law tag inner c sound.1 h
means_is law (Element tag place inner more) c sound (inr h, white) = has_rdf_is law inner c sound.1 h.1
