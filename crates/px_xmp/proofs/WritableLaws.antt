-- What can be read again can be written.
use Rattle.std.proofs.Common.{◌≡◌, ◌==◌, ◌&&◌, ◌||◌, ◌∙◌, ◌++◌, inl, inr, refl, ℕ, Bool, true, false, nat_eq, bytes_eq, List, [], ◌∷◌, length, sym, ap, subst, arith}
use Rattle.std.proofs.lemmas.Bool.{and_parts}
use Rattle.std.specs.List.{AllByRecursion, list_all, starts_with}
use Rattle.px_xmp_text.specs.Texts.{normal_octet, normal_text}
use Rattle.px_xmp_text.specs.Values.{Label, Property, Item, Simple, Literal, Uri, Compound, Structure, Bag, Seq, Alt, Content, End, Flat, Nested, Without, IsLabel, IsSimple, IsContent}
use Rattle.px_xmp_marks.specs.Reading as reading
use Rattle.px_xmp_document.specs.Scopes.{xmlns_space}
use Rattle.px_xmp_forms.specs.Labels.{before_name}
use Rattle.px_xmp_forms.specs.Languages.{is_part_octet, AreParts}
use Rattle.px_xmp_forms.specs.Spaces.{rdf_space, meta_space, xml_space, is_known_space, is_space_octet, is_rare_space}
use Rattle.px_xmp_forms.specs.Uris.{is_uri_octet, are_uri_octets}
use Rattle.px_xmp.specs.Readable.{IsReadableLabel, IsReadableSimple, AreReadable}
use Rattle.px_xmp.proofs.MeaningLaws.{same_octets}
use Rattle.px_xmp.proofs.SpaceLaws.{rare_parts}
use Rattle.px_xmp.proofs.LabelLaws.{name_chars}

-- ---- octets

all_without : (f : ℕ → Bool) (d : ℕ) (x : List ℕ) → f d ≡ false → list_all f x ≡ true → Without d x
all_without f d [] none h = tt
all_without f d (o ∷ x) none h =
    let p = and_parts (f o) (list_all f x) h in (λ e. (let wrong = sym p.0 ∙ ap f e ∙ none in absurd (cc)), all_without f d x none p.1)

without_append : (d : ℕ) (x y : List ℕ) → Without d x → Without d y → Without d (x ++ y)
without_append d [] y h k = k
without_append d (o ∷ x) y h k = (h.0, without_append d x y h.1 k)

-- ---- languages

no_quote : (first : Bool) → is_part_octet first 34 ≡ false
no_quote true = refl
no_quote false = refl

parts_without : (first : Bool) (ps : List (List ℕ)) (x : List ℕ) → AreParts first ps x → Without 34 x
parts_without first [] x h = absurd h
parts_without first (p ∷ []) x (part, same) = subst (Without 34) (sym same) (all_without (is_part_octet first) 34 p (no_quote first) part.0)
parts_without first (p ∷ q ∷ ps) x (part, rest, same, more) =
    subst (Without 34) (sym same) (without_append 34 p (45 ∷ rest) (all_without (is_part_octet first) 34 p (no_quote first) part.0)
    (λ e. absurd (omega (arith, e)), parts_without false (q ∷ ps) rest more))

-- ---- URIs

uri_back : (x y : List ℕ) → are_uri_octets (x ++ y) ≡ true → are_uri_octets y ≡ true
uri_back [] y h = h
uri_back (o ∷ x) y h =
    let p = and_parts (is_uri_octet o) (_ && are_uri_octets (x ++ y)) h in uri_back x y (and_parts _ (are_uri_octets (x ++ y)) p.1).1

no_quote_first : (y : List ℕ) → are_uri_octets (34 ∷ y) ≡ true → ⊥
no_quote_first y h = absurd (cc)

uri_without : (t : List ℕ) → are_uri_octets (normal_text t) ≡ true → Without 34 t
uri_without [] h = tt
uri_without (o ∷ t) h = (
  λ e. no_quote_first (normal_text t) (subst (λ (z : ℕ). are_uri_octets (normal_octet z ++ normal_text t) ≡ true) e h),
  uri_without t (uri_back (normal_octet o) (normal_text t) h),
)

simple_can : (p : Simple) → IsReadableSimple p → IsSimple p
simple_can (Literal language t) (inl none, lower, characters) = subst (Without 34) (sym none) tt
simple_can (Literal language t) (inr (ps, are), lower, characters) = parts_without true ps language are
simple_can (Uri uri) h = uri_without uri h.0

-- ---- labels

space_octets : (u : List ℕ) → is_rare_space u ≡ false → list_all is_space_octet u ≡ true
space_octets u h =
    elim (rare_parts (is_known_space u) (list_all is_space_octet u) (length (before_name u) == 0) (starts_with nat_eq u rdf_space)
    (starts_with nat_eq u xml_space) (starts_with nat_eq u xmlns_space) h) [
      | inl known ↦ by_test (bytes_eq u rdf_space) refl (bytes_eq u meta_space) refl (bytes_eq u xml_space) refl known
      | inr octets ↦ octets.0
    ]
  where
    these : (v : List ℕ) → bytes_eq u v ≡ true → list_all is_space_octet v ≡ true → list_all is_space_octet u ≡ true
    these v e k = ap (list_all is_space_octet) (same_octets u v e) ∙ k

    by_test : (a : Bool) → bytes_eq u rdf_space ≡ a → (b : Bool) → bytes_eq u meta_space ≡ b → (c : Bool) → bytes_eq u xml_space ≡ c
        → (a || b || c) ≡ true → list_all is_space_octet u ≡ true
    by_test true e b f c g h = these rdf_space e refl
    by_test false e true f c g h = these meta_space f refl
    by_test false e false f true g h = these xml_space g refl
    by_test false e false f false g h = absurd (cc)

chars_without : (x : List ℕ) → AllByRecursion (λ o. reading.is_name_char o ≡ true) x → Without 32 x
chars_without [] h = tt
chars_without (o ∷ x) h = (λ e. (let wrong = sym h.0 ∙ ap reading.is_name_char e in absurd (cc)), chars_without x h.1)

label_can : (s : Compound) (l : Label) → IsReadableLabel s l → IsLabel l
label_can Structure (Property space local) (is, name, label) =
    (all_without is_space_octet 34 space refl (space_octets space is.3), chars_without local (name_chars local name))
label_can Bag (Property space local) h = absurd h
label_can Seq (Property space local) h = absurd h
label_can Alt (Property space local) h = absurd h
label_can s Item h = tt

-- ---- content

pub readable_can : (s : Compound) (c : Content) → AreReadable s c → IsContent c
readable_can s End h = tt
readable_can s (Flat l p rest) (label, simple, more) = (label_can s l label, simple_can p simple, readable_can s rest more)
readable_can s (Nested l t inner rest) (label, ordered, within, more) = (label_can s l label, readable_can t inner within, readable_can s rest more)
