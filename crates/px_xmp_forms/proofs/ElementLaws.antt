-- The elements of values, as they are appended to nothing.
use Rattle.std.proofs.Common.{◌≡◌, ◌≤◌, ◌+◌, ◌++◌, ◌∷◌, ◌∙◌, refl, ℕ, List, [], codes, sym, ap, subst, length, length-append, append_assoc, arith, take, drop}
use Rattle.std.proofs.lemmas.List.{take_at, drop_at}
use Rattle.std.proofs.lemmas.Grind.{common_steps}
use Rattle.std.specs.Str.{str_to_ascii_lowercase}
use Rattle.px_xmp_text.specs.Texts.{normal_text}
use Rattle.px_xmp_text.specs.Values.{Label, Compound, Content, Literal, Uri, End, Flat, Nested, IsLabel, IsContent, Without}
use Rattle.px_xmp_text.specs.Values.{opening_tag, end_tag, compound_start, compound_end, written}
use Rattle.px_xmp_forms.specs.Languages.{language_limit}
use Rattle.px_xmp_forms.specs.Forms.{language_octets, HaveShortLanguages}
use Rattle.px_xmp_forms.specs.Entries.{Plain, Inside}
use Rattle.px_xmp_forms.specs.Outputs.{IsElement}
use Rattle.px_xmp_forms.specs.declared.elements.Element.{Element}
use Rattle.px_xmp_forms.proofs.FormLaws.{opening_more, start_more, stop_more, written_more, literal_octets, without_normal}

literal_is : (l : Label) (y t : List ℕ)
    → opening_tag l [] ++ language_octets y ++ normal_text t ++ end_tag l [] ≡ written (Flat l (Literal y t) End) []
literal_is l y t = simp append_assoc refl ∙ sym (opening_more l _ ∙ ap (λ (z : List ℕ). opening_tag l [] ++ z) (literal_octets l y t []))

uri_is : (l : Label) (u : List ℕ) → opening_tag l [] ++ codes " rdf:resource=\"" ++ normal_text u ++ codes "\"/>" ≡ written (Flat l (Uri u) End) []
uri_is l u = simp append_assoc refl ∙ sym (opening_more l _)

nested_is : (l : Label) (s : Compound) (c : Content)
    → opening_tag l [] ++ compound_start s [] ++ written c [] ++ compound_end s [] ++ end_tag l [] ≡ written (Nested l s c End) []
nested_is l s c =
    simp append_assoc refl
    ∙ sym (opening_more l _ ∙ ap (λ (z : List ℕ). opening_tag l [] ++ z) (start_more s _
    ∙ ap (λ (z : List ℕ). compound_start s [] ++ z) (written_more c _
    ∙ ap (λ (z : List ℕ). written c [] ++ z) (stop_more s _))))

pub literal_element_is : (x : Element) (l : Label) (y z o a b d e t : List ℕ) → IsLabel l → Without 34 y → length y ≤ language_limit → z ≡ normal_text t → o ≡ [] → a ≡ o ++ opening_tag l []
    → b ≡ a ++ language_octets y → d ≡ b ++ z → e ≡ d ++ end_tag l [] → x.piece ≡ e → x.label_len ≡ length a → IsElement x l (Plain (Literal y t))
literal_element_is x l y z o a b d e t hl hy short ez eo ea eb ed ee ex en =
    let tag : a ≡ opening_tag l [] = ea ∙ ap (λ (w : List ℕ). w ++ opening_tag l []) eo in
    let front : b ≡ opening_tag l [] ++ language_octets y = eb ∙ ap (λ (w : List ℕ). w ++ language_octets y) tag in
    let whole : e ≡ opening_tag l [] ++ language_octets y ++ normal_text t ++ end_tag l [] =
    ee ∙ ap (λ (w : List ℕ). w ++ end_tag l []) (ed ∙ ap (λ (w : List ℕ). w ++ z) front
    ∙ ap (λ (w : List ℕ). opening_tag l [] ++ language_octets y ++ w) ez) in
    record { octets = ex ∙ whole ∙ literal_is l y t; label = en ∙ ap length tag; can = (hl, hy, tt); short = (short, tt) }

pub uri_element_is : (x : Element) (l : Label) (z o a b d e u : List ℕ) → IsLabel l → Without 34 z → z ≡ normal_text u → o ≡ [] → a ≡ o ++ opening_tag l []
    → b ≡ a ++ codes " rdf:resource=\"" → d ≡ b ++ z → e ≡ d ++ codes "\"/>" → x.piece ≡ e → x.label_len ≡ length a → IsElement x l (Plain (Uri u))
uri_element_is x l z o a b d e u hl hw ez eo ea eb ed ee ex en =
    let Q : List ℕ → Type 0 = λ x. Without 34 x in
    let tag : a ≡ opening_tag l [] = ea ∙ ap (λ (w : List ℕ). w ++ opening_tag l []) eo in
    let front : b ≡ opening_tag l [] ++ codes " rdf:resource=\"" = eb ∙ ap (λ (w : List ℕ). w ++ codes " rdf:resource=\"") tag in
    let whole : e ≡ opening_tag l [] ++ codes " rdf:resource=\"" ++ normal_text u ++ codes "\"/>" =
    ee ∙ ap (λ (w : List ℕ). w ++ codes "\"/>") (ed ∙ ap (λ (w : List ℕ). w ++ z) front
    ∙ ap (λ (w : List ℕ). opening_tag l [] ++ codes " rdf:resource=\"" ++ w) ez) in
    record { octets = ex ∙ whole ∙ uri_is l u; label = en ∙ ap length tag; can = (hl, without_normal u (subst Q ez hw), tt); short = (tt, tt) }

pub nested_element_is : (x : Element) (l : Label) (s : Compound) (c : Content) (z o a b d e f : List ℕ) → IsLabel l → IsContent c → HaveShortLanguages c → z ≡ written c [] → o ≡ []
    → a ≡ o ++ opening_tag l [] → b ≡ a ++ compound_start s [] → d ≡ b ++ z → e ≡ d ++ compound_end s [] → f ≡ e ++ end_tag l [] → x.piece ≡ f
    → x.label_len ≡ length a → IsElement x l (Inside s c)
nested_element_is x l s c z o a b d e f hl hc short ez eo ea eb ed ee ef ex en =
    let tag : a ≡ opening_tag l [] = ea ∙ ap (λ (w : List ℕ). w ++ opening_tag l []) eo in
    let whole : f ≡ opening_tag l [] ++ compound_start s [] ++ written c [] ++ compound_end s [] ++ end_tag l [] =
    ef ∙ ap (λ (w : List ℕ). w ++ end_tag l []) (ee ∙ ap (λ (w : List ℕ). w ++ compound_end s []) (ed
    ∙ ap (λ (w : List ℕ). w ++ z) (eb ∙ ap (λ (w : List ℕ). w ++ compound_start s []) tag)
    ∙ ap (λ (w : List ℕ). (opening_tag l [] ++ compound_start s []) ++ w) ez)) in
    record { octets = ex ∙ whole ∙ nested_is l s c; label = en ∙ ap length tag; can = (hl, hc, tt); short = (short, tt) }

-- ---- tags, and octets between them

-- tags that were appended to one another, cut where the octets are to be
pub around : (b s t e f g z : List ℕ) (n : ℕ) → e ≡ b ++ s ++ t → n ≡ length b → f ≡ take n e → g ≡ drop n e → f ++ z ++ g ≡ b ++ z ++ s ++ t
around b s t e f g z n ee en ef eg =
    let whole : e ≡ b ++ (s ++ t) = ee ∙ append_assoc b s t in
    let front : f ≡ b = ef ∙ ap (take n) whole ∙ take_at b (s ++ t) n (sym en) in
    let back : g ≡ s ++ t = eg ∙ ap (drop n) whole ∙ drop_at b (s ++ t) n (sym en) in
    ap (λ (w : List ℕ). w ++ z ++ g) front ∙ ap (λ (w : List ℕ). b ++ z ++ w) back ∙ sym (append_assoc (b ++ z) s t)

-- ---- their lengths, by their parts

-- a language has as many octets in lower case
pub lower_octets : (y : List ℕ) → length (language_octets (str_to_ascii_lowercase y)) ≡ length (language_octets y)
lower_octets [] = refl
lower_octets (o ∷ y) = grind (arith, common_steps)

parts_length : (a b c d x : List ℕ) → a ++ b ++ c ++ d ≡ x → length x ≡ length a + length b + length c + length d
parts_length a b c d x e =
    omega (arith, ap length e, length-append (a ++ b ++ c) d, length-append (a ++ b) c, length-append a b)

pub literal_length : (l : Label) (y t : List ℕ) → length (written (Flat l (Literal y t) End) [])
    ≡ length (opening_tag l []) + length (language_octets y) + length (normal_text t) + length (end_tag l [])
literal_length l y t = parts_length (opening_tag l []) (language_octets y) (normal_text t) (end_tag l []) _ (literal_is l y t)

pub uri_length : (l : Label) (u : List ℕ) → length (written (Flat l (Uri u) End) []) ≡ length (opening_tag l []) + 15 + length (normal_text u) + 3
uri_length l u = parts_length (opening_tag l []) (codes " rdf:resource=\"") (normal_text u) (codes "\"/>") _ (uri_is l u)

pub nested_length : (l : Label) (s : Compound) (c : Content) → length (written (Nested l s c End) [])
    ≡ length (opening_tag l []) + length (compound_start s []) + length (written c []) + length (compound_end s []) + length (end_tag l [])
nested_length l s c =
    omega (
      arith,
      ap length (nested_is l s c),
      length-append (opening_tag l [] ++ compound_start s [] ++ written c [] ++ compound_end s []) (end_tag l []),
      length-append (opening_tag l [] ++ compound_start s [] ++ written c []) (compound_end s []),
      length-append (opening_tag l [] ++ compound_start s []) (written c []),
      length-append (opening_tag l []) (compound_start s []),
    )
