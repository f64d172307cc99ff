-- The marks of a normal packet, one after another, and what is known of each.
use Rattle.std.proofs.Common.{◌≡◌, ◌≢◌, ◌++◌, ◌∙◌, inl, inr, refl, ℕ, true, false, List, [], ◌∷◌, codes, length, ap, arith}
use Rattle.px_xmp_text.specs.Texts.{normal_text}
use Rattle.px_xmp_text.specs.Laws.{NormalReadsBack, NormalBound, FaultOrText}
use Rattle.px_xmp_text.specs.Values.{Label, Property, Item, Simple, Literal, Uri, Compound, Structure, Bag, Seq, Alt, Content, End, Flat, Nested}
use Rattle.px_xmp_text.specs.Values.{opening_tag, end_tag, simple, compound_start, compound_end, written, packet_end, normal_packet, IsLabel, IsContent}
use Rattle.px_xmp_marks.specs.Reading.{Named, Attr}
use Rattle.px_xmp_marks.specs.Grammar.{IsStartTag, IsEndTag}
use Rattle.px_xmp_marks.specs.Marks.{IsText, EndsText}
use Rattle.px_xmp_markup.specs.Distinct.{AreDistinct}
use Rattle.px_xmp.specs.Names.{rdf_space, meta_space}
use Rattle.px_xmp.specs.Readable.{IsReadableSimple, AreReadable}
use Rattle.px_xmp.proofs.OrderLaws.{end_more}
use Rattle.px_xmp.proofs.StartLaws.{named, attribute, label_named, label_attributes, CanBeNamed, label_named_by, text_mark, spoken, resource, start_bare, start_spoken, start_resource, start_parsed, end_label}
use Rattle.px_xmp.proofs.StartLaws.{start_bag, start_seq, start_alt, end_bag, end_seq, end_alt, meta_start, meta_attributes, start_meta, root_start, root_attributes, start_root, description_start, description_attributes, start_description, end_meta, end_root, end_description, opening_shift, spoken_more, resource_more}

-- a mark of a normal packet with its octets: a start tag, the tag of an empty element, an end tag, or a text
pub data Part : Type 0 where
  Begin : (name : Named) → (attributes : List Attr) → (octets : List ℕ) → Part
  Whole : (name : Named) → (attributes : List Attr) → (octets : List ℕ) → Part
  Finish : (name : Named) → (octets : List ℕ) → Part
  Words : (octets : List ℕ) → Part

abbrev pub octets_of : Part → List ℕ
octets_of (Begin n attributes m) = m
octets_of (Whole n attributes m) = m
octets_of (Finish n m) = m
octets_of (Words m) = m

-- before the octets y it is one
abbrev pub IsPart : Part → List ℕ → Type 0
IsPart (Begin n attributes m) y = IsStartTag m n attributes false × AreDistinct attributes
IsPart (Whole n attributes m) y = IsStartTag m n attributes true × AreDistinct attributes
IsPart (Finish n m) y = IsEndTag m n
IsPart (Words m) y = IsText m × EndsText y

abbrev pub AreParts : List Part → List ℕ → Type 0
AreParts [] x = x ≡ []
AreParts (p ∷ ps) x = (rest : List ℕ) × IsPart p rest × (x ≡ octets_of p ++ rest) × AreParts ps rest

-- ---- the parts of content, before others

abbrev pub text_parts : List ℕ → List Part → List Part
text_parts [] ps = ps
text_parts (o ∷ t) ps = Words (normal_text (o ∷ t)) ∷ ps

abbrev pub begin_bare : Label → Part
begin_bare l = Begin (label_named l) (label_attributes l []) (opening_tag l (62 ∷ []))

abbrev pub language_attribute : List ℕ → Attr
language_attribute g = attribute (codes "xml") (codes "lang") g

abbrev pub resource_attribute : List ℕ → Attr
resource_attribute u = attribute (codes "rdf") (codes "resource") (normal_text u)

abbrev pub parse_attribute : Attr
parse_attribute = attribute (codes "rdf") (codes "parseType") (codes "Resource")

abbrev pub finish_label : Label → Part
finish_label l = Finish (label_named l) (end_tag l [])

abbrev pub simple_parts : Label → Simple → List Part → List Part
simple_parts l (Literal [] t) ps = begin_bare l ∷ text_parts t (finish_label l ∷ ps)
simple_parts l (Literal (o ∷ g) t) ps =
    Begin (label_named l) (label_attributes l (language_attribute (o ∷ g) ∷ [])) (opening_tag l (spoken (o ∷ g)))
    ∷ text_parts t (finish_label l ∷ ps)
simple_parts l (Uri u) ps = Whole (label_named l) (label_attributes l (resource_attribute u ∷ [])) (opening_tag l (resource u)) ∷ ps

abbrev pub bag_named : Named
bag_named = named (codes "rdf") (codes "Bag")

abbrev pub seq_named : Named
seq_named = named (codes "rdf") (codes "Seq")

abbrev pub alt_named : Named
alt_named = named (codes "rdf") (codes "Alt")

abbrev pub begin_parts : Label → Compound → List Part → List Part
begin_parts l Structure ps =
    Begin (label_named l) (label_attributes l (parse_attribute ∷ [])) (opening_tag l (compound_start Structure [])) ∷ ps
begin_parts l Bag ps = begin_bare l ∷ Begin bag_named [] (codes "<rdf:Bag>") ∷ ps
begin_parts l Seq ps = begin_bare l ∷ Begin seq_named [] (codes "<rdf:Seq>") ∷ ps
begin_parts l Alt ps = begin_bare l ∷ Begin alt_named [] (codes "<rdf:Alt>") ∷ ps

abbrev pub finish_parts : Label → Compound → List Part → List Part
finish_parts l Structure ps = finish_label l ∷ ps
finish_parts l Bag ps = Finish bag_named (codes "</rdf:Bag>") ∷ finish_label l ∷ ps
finish_parts l Seq ps = Finish seq_named (codes "</rdf:Seq>") ∷ finish_label l ∷ ps
finish_parts l Alt ps = Finish alt_named (codes "</rdf:Alt>") ∷ finish_label l ∷ ps

abbrev pub parts_of : Content → List Part → List Part
parts_of End ps = ps
parts_of (Flat l p rest) ps = simple_parts l p (parts_of rest ps)
parts_of (Nested l s inner rest) ps = begin_parts l s (parts_of inner (finish_parts l s (parts_of rest ps)))

-- ---- the parts of a packet

abbrev pub meta_named : Named
meta_named = named (codes "x") (codes "xmpmeta")

abbrev pub root_named : Named
root_named = named (codes "rdf") (codes "RDF")

abbrev pub description_named : Named
description_named = named (codes "rdf") (codes "Description")

abbrev pub end_parts : List Part
end_parts = Finish description_named (codes "</rdf:Description>") ∷ Finish root_named (codes "</rdf:RDF>") ∷ Finish meta_named (codes "</x:xmpmeta>") ∷ []

abbrev pub packet_parts : Content → List Part
packet_parts c =
    Begin meta_named meta_attributes meta_start ∷ Begin root_named root_attributes root_start
    ∷ Begin description_named description_attributes description_start ∷ parts_of c end_parts

-- ---- they are marks

one_distinct : (a : Attr) → AreDistinct (a ∷ [])
one_distinct a = (λ h. h, tt)

two_distinct : (a b : Attr) → b.name ≢ a.name → AreDistinct (a ∷ b ∷ [])
two_distinct a b h = (
  λ w. elim w [
    | inl e ↦ h e
    | inr f ↦ f
  ],
  one_distinct b,
)

other_prefix : (p q x y : List ℕ) → length q ≢ length p → named q y ≢ named p x
other_prefix p q x y h e = h (ap (λ (n : Named). length n.prefix) e)

label_distinct : (l : Label) → AreDistinct (label_attributes l [])
label_distinct (Property space local) = one_distinct (attribute (codes "xmlns") (codes "p") space)
label_distinct Item = tt

label_and : (l : Label) (q y v : List ℕ) → length q ≡ 3 → AreDistinct (label_attributes l (attribute q y v ∷ []))
label_and (Property space local) q y v h =
    two_distinct (attribute (codes "xmlns") (codes "p") space) (attribute q y v)
    (other_prefix (codes "xmlns") q (codes "p") y (λ e. omega (arith, h, e)))
label_and Item q y v h = one_distinct (attribute q y v)

pub end_ends : (l : Label) (k : List ℕ) → EndsText (end_tag l k)
end_ends (Property space local) k = inr refl
end_ends Item k = inr refl

module _ (reads : NormalReadsBack) (bounds : NormalBound) (faults : FaultOrText) where
  text_are : (t : List ℕ) (ps : List Part) (k : List ℕ) → EndsText k → AreParts ps k → AreParts (text_parts t ps) (normal_text t ++ k)
  text_are [] ps k h are = are
  text_are (o ∷ t) ps k h are = (k, (text_mark reads bounds faults o t, h), refl, are)

  finish_are : (l : Label) → CanBeNamed l → (ps : List Part) (k : List ℕ) → AreParts ps k → AreParts (finish_label l ∷ ps) (end_tag l k)
  finish_are l can ps k are = (k, end_label l can, end_more l k, are)

  bare_are : (l : Label) → CanBeNamed l → IsLabel l → (ps : List Part) (k : List ℕ) → AreParts ps k
      → AreParts (begin_bare l ∷ ps) (opening_tag l (62 ∷ k))
  bare_are l can is ps k are = (k, (start_bare faults l can is, label_distinct l), opening_shift l (62 ∷ []) k, are)

  simple_are : (l : Label) (p : Simple) → CanBeNamed l → IsLabel l → IsReadableSimple p → (ps : List Part) (k : List ℕ) → AreParts ps k
      → AreParts (simple_parts l p ps) (opening_tag l (simple l p k))
  simple_are l (Literal [] t) can is h ps k are =
      bare_are l can is _ _ (text_are t _ (end_tag l k) (end_ends l k) (finish_are l can ps k are))
  simple_are l (Literal (o ∷ g) t) can is h ps k are = (
    normal_text t ++ end_tag l k,
    (start_spoken faults l (o ∷ g) can is h.0, label_and l (codes "xml") (codes "lang") (o ∷ g) refl),
    ap (λ (z : List ℕ). opening_tag l z) (spoken_more (o ∷ g) (normal_text t ++ end_tag l k)) ∙ opening_shift l (spoken (o ∷ g)) _,
    text_are t _ (end_tag l k) (end_ends l k) (finish_are l can ps k are),
  )
  simple_are l (Uri u) can is h ps k are = (
    k,
    (start_resource faults bounds l u can is h, label_and l (codes "rdf") (codes "resource") (normal_text u) refl),
    ap (λ (z : List ℕ). opening_tag l z) (resource_more u k) ∙ opening_shift l (resource u) k,
    are,
  )

  begin_are : (l : Label) (s : Compound) → CanBeNamed l → IsLabel l → (ps : List Part) (k : List ℕ) → AreParts ps k
      → AreParts (begin_parts l s ps) (opening_tag l (compound_start s k))
  begin_are l Structure can is ps k are = (
    k,
    (start_parsed faults l can is, label_and l (codes "rdf") (codes "parseType") (codes "Resource") refl),
    opening_shift l (compound_start Structure []) k,
    are,
  )
  begin_are l Bag can is ps k are =
      bare_are l can is (Begin bag_named [] (codes "<rdf:Bag>") ∷ ps) (codes "<rdf:Bag>" ++ k) (k, (start_bag, tt), refl, are)
  begin_are l Seq can is ps k are =
      bare_are l can is (Begin seq_named [] (codes "<rdf:Seq>") ∷ ps) (codes "<rdf:Seq>" ++ k) (k, (start_seq, tt), refl, are)
  begin_are l Alt can is ps k are =
      bare_are l can is (Begin alt_named [] (codes "<rdf:Alt>") ∷ ps) (codes "<rdf:Alt>" ++ k) (k, (start_alt, tt), refl, are)

  compound_are : (l : Label) (s : Compound) → CanBeNamed l → (ps : List Part) (k : List ℕ) → AreParts ps k
      → AreParts (finish_parts l s ps) (compound_end s (end_tag l k))
  compound_are l Structure can ps k are = finish_are l can ps k are
  compound_are l Bag can ps k are = (end_tag l k, end_bag, refl, finish_are l can ps k are)
  compound_are l Seq can ps k are = (end_tag l k, end_seq, refl, finish_are l can ps k are)
  compound_are l Alt can ps k are = (end_tag l k, end_alt, refl, finish_are l can ps k are)

  content_are : (c : Content) (s : Compound) → IsContent c → AreReadable s c → (ps : List Part) (k : List ℕ) → AreParts ps k
      → AreParts (parts_of c ps) (written c k)
  content_are End s is h ps k are = are
  content_are (Flat l p rest) s is h ps k are =
      simple_are l p (label_named_by s l h.0) is.0 h.1 _ _ (content_are rest s is.2 h.2 ps k are)
  content_are (Nested l t inner rest) s is h ps k are =
      let can = label_named_by s l h.0 in
      begin_are l t can is.0 _ _ (content_are inner t is.1 h.2 _ _ (compound_are l t can _ _ (content_are rest s is.2 h.3 ps k are)))

  packet_end_are : AreParts end_parts packet_end
  packet_end_are = (codes "</rdf:RDF></x:xmpmeta>", end_description, refl, (codes "</x:xmpmeta>", end_root, refl, ([], end_meta, refl, refl)))

  pub packet_are : (c : Content) → IsContent c → AreReadable Structure c → AreParts (packet_parts c) (normal_packet c)
  packet_are c is h = (
    root_start ++ (description_start ++ written c packet_end),
    (start_meta faults, one_distinct (attribute (codes "xmlns") (codes "x") meta_space)),
    refl,
    (
      description_start ++ written c packet_end,
      (start_root faults, one_distinct (attribute (codes "xmlns") (codes "rdf") rdf_space)),
      refl,
      (written c packet_end, (start_description faults, one_distinct (attribute (codes "rdf") (codes "about") [])), refl, content_are c Structure is h end_parts packet_end packet_end_are),
    ),
  )
