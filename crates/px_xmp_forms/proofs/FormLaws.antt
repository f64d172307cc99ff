-- Content in a row, and its normal form.
use Rattle.std.proofs.Common.{◌≡◌, ◌≢◌, ◌++◌, ◌∙◌, ◌==◌, ◌||◌, refl, ℕ, Bool, true, false, List, [], ◌∷◌, codes, sym, ap, append_assoc}
use Rattle.std.proofs.Common.{◌≤◌, ◌+◌, length, length-append, subst, arith}
use Rattle.std.proofs.lemmas.Bool.{eqb-false, ne_eqb, or_from}
use Rattle.std.proofs.lemmas.Grind.{flat_map-append}
use Rattle.px_xmp_text.specs.Texts.{normal_text, normal_octet}
use Rattle.px_xmp_text.specs.Values.{Label, Simple, Compound, Content, IsLabel, IsContent, Without}
use Rattle.px_xmp_text.specs.Values.{Property, Item, Literal, Uri, Structure, Bag, Seq, Alt, End, Flat, Nested}
use Rattle.px_xmp_text.specs.Values.{opening_tag, end_tag, simple, compound_start, compound_end, written, packet_end, normal_packet}
use Rattle.px_xmp_forms.specs.Forms.{IsForm, IsTextForm, IsNormal, has, language_octets}
use Rattle.px_xmp_forms.proofs.BlankLaws.{octet_cases}

-- ---- an octet that is not there

pub without_from : (d : ℕ) (x : List ℕ) → has d x ≡ false → Without d x
without_from d [] h = tt
without_from d (o ∷ x) h = let p = parts (o == d) (has d x) h in (eqb-false o d p.0, without_from d x p.1)
  where
    parts : (a b : Bool) → (a || b) ≡ false → (a ≡ false) × (b ≡ false)
    parts true b h = absurd (cc)
    parts false b h = (refl, h)

has_none : (d : ℕ) (x : List ℕ) → Without d x → has d x ≡ false
has_none d [] h = refl
has_none d (o ∷ x) h = or_from (o == d) (has d x) (ne_eqb o d h.0) (has_none d x h.1)

-- an octet that is there and is not
pub both_has : (d : ℕ) (x : List ℕ) → true ≡ has d x → Without d x → ⊥
both_has d x e h = let none = has_none d x h in absurd (cc)

pub without_append : (d : ℕ) (a b : List ℕ) → Without d a → Without d b → Without d (a ++ b)
without_append d [] b h k = k
without_append d (o ∷ a) b h k = (h.0, without_append d a b h.1 k)

pub without_front : (d : ℕ) (a b : List ℕ) → Without d (a ++ b) → Without d a
without_front d [] b h = tt
without_front d (o ∷ a) b h = (h.0, without_front d a b h.1)

pub without_back : (d : ℕ) (a b : List ℕ) → Without d (a ++ b) → Without d b
without_back d [] b h = h
without_back d (o ∷ a) b h = without_back d a b h.1

-- ---- what follows is appended

pub opening_more : (l : Label) (k : List ℕ) → opening_tag l k ≡ opening_tag l [] ++ k
opening_more (Property space local) k = simp append_assoc refl
opening_more Item k = refl

pub end_more : (l : Label) (k : List ℕ) → end_tag l k ≡ end_tag l [] ++ k
end_more (Property space local) k = simp append_assoc refl
end_more Item k = refl

pub start_more : (s : Compound) (k : List ℕ) → compound_start s k ≡ compound_start s [] ++ k
start_more Structure k = refl
start_more Bag k = refl
start_more Seq k = refl
start_more Alt k = refl

pub stop_more : (s : Compound) (k : List ℕ) → compound_end s k ≡ compound_end s [] ++ k
stop_more Structure k = refl
stop_more Bag k = refl
stop_more Seq k = refl
stop_more Alt k = refl

pub literal_octets : (l : Label) (y t k : List ℕ) → simple l (Literal y t) k ≡ language_octets y ++ (normal_text t ++ end_tag l k)
literal_octets l [] t k = refl
literal_octets l (o ∷ y) t k = simp append_assoc refl

pub simple_more : (l : Label) (p : Simple) (k : List ℕ) → simple l p k ≡ simple l p [] ++ k
simple_more l (Literal y t) k =
    literal_octets l y t k ∙ ap (λ (z : List ℕ). language_octets y ++ (normal_text t ++ z)) (end_more l k)
    ∙ sym (ap (λ (z : List ℕ). z ++ k) (literal_octets l y t [])
    ∙ append_assoc (language_octets y) (normal_text t ++ end_tag l []) k
    ∙ ap (λ (z : List ℕ). language_octets y ++ z) (append_assoc (normal_text t) (end_tag l []) k))
simple_more l (Uri u) k = simp append_assoc refl

pub written_more : (c : Content) (k : List ℕ) → written c k ≡ written c [] ++ k
written_more End k = refl
written_more (Flat l p rest) k =
    ap (λ (z : List ℕ). opening_tag l (simple l p z)) (written_more rest k)
    ∙ ap (λ (z : List ℕ). opening_tag l z) (simple_shift l p (written rest []) k)
    ∙ opening_shift l (simple l p (written rest [])) k
  where
    simple_shift : (l : Label) (p : Simple) (x k : List ℕ) → simple l p (x ++ k) ≡ simple l p x ++ k
    simple_shift l p x k = simple_more l p (x ++ k) ∙ sym (append_assoc (simple l p []) x k) ∙ sym (ap (λ (z : List ℕ). z ++ k) (simple_more l p x))

    opening_shift : (l : Label) (x k : List ℕ) → opening_tag l (x ++ k) ≡ opening_tag l x ++ k
    opening_shift l x k = opening_more l (x ++ k) ∙ sym (append_assoc (opening_tag l []) x k) ∙ sym (ap (λ (z : List ℕ). z ++ k) (opening_more l x))
written_more (Nested l s inner rest) k =
    let at : (x : List ℕ) → written (Nested l s inner rest) x
    ≡ opening_tag l [] ++ (compound_start s [] ++ (written inner [] ++ (compound_end s [] ++ (end_tag l [] ++ written rest x)))) = λ x.
    opening_more l _ ∙ ap (λ (z : List ℕ). opening_tag l [] ++ z) (start_more s _
    ∙ ap (λ (z : List ℕ). compound_start s [] ++ z) (written_more inner _
    ∙ ap (λ (z : List ℕ). written inner [] ++ z) (stop_more s _ ∙ ap (λ (z : List ℕ). compound_end s [] ++ z) (end_more l _)))) in
    at k ∙ ap (λ (z : List ℕ). opening_tag l [] ++ (compound_start s [] ++ (written inner [] ++ (compound_end s [] ++ (end_tag l [] ++ z)))))
    (written_more rest k) ∙ sym (ap (λ (z : List ℕ). z ++ k) (at []) ∙ simp append_assoc refl)

-- ---- content in a row

unfoldable pub in_row : Content → Content → Content
in_row End d = d
in_row (Flat l p rest) d = Flat l p (in_row rest d)
in_row (Nested l s inner rest) d = Nested l s inner (in_row rest d)

pub join_written : (c d : Content) (k : List ℕ) → written (in_row c d) k ≡ written c (written d k)
unfolding in_row
join_written End d k = refl
join_written (Flat l p rest) d k = ap (λ (z : List ℕ). opening_tag l (simple l p z)) (join_written rest d k)
join_written (Nested l s inner rest) d k =
    ap (λ (z : List ℕ). opening_tag l (compound_start s (written inner (compound_end s (end_tag l z))))) (join_written rest d k)

pub join_content : (c d : Content) → IsContent c → IsContent d → IsContent (in_row c d)
unfolding in_row
join_content End d h k = k
join_content (Flat l p rest) d h k = (h.0, h.1, join_content rest d h.2 k)
join_content (Nested l s inner rest) d h k = (h.0, h.1, join_content rest d h.2 k)

-- ---- forms

pub form_append : (x y : List ℕ) → IsForm x → IsForm y → IsForm (x ++ y)
form_append x y h k =
    let (c, hc, ec) = h in
    let (d, hd, ed) = k in (
      in_row c d,
      join_content c d hc hd,
      ap (λ (z : List ℕ). z ++ y) ec ∙ ap (λ (z : List ℕ). written c [] ++ z) ed ∙ sym (written_more c (written d [])) ∙ sym (join_written c d []),
    )

pub form_literal : (l : Label) (y t : List ℕ) → IsLabel l → Without 34 y
    → IsForm (opening_tag l [] ++ language_octets y ++ normal_text t ++ end_tag l [])
form_literal l y t hl hy = (
  Flat l (Literal y t) End,
  (hl, hy, tt),
  simp append_assoc refl ∙ sym (opening_more l _ ∙ ap (λ (z : List ℕ). opening_tag l [] ++ z) (literal_octets l y t [])),
)

pub form_uri : (l : Label) (u : List ℕ) → IsLabel l → Without 34 u
    → IsForm (opening_tag l [] ++ codes " rdf:resource=\"" ++ normal_text u ++ codes "\"/>")
form_uri l u hl hu = (Flat l (Uri u) End, (hl, hu, tt), simp append_assoc refl ∙ sym (opening_more l _))

pub form_nested : (l : Label) (s : Compound) (x : List ℕ) → IsLabel l → IsForm x
    → IsForm (opening_tag l [] ++ compound_start s [] ++ x ++ compound_end s [] ++ end_tag l [])
form_nested l s x hl h =
    let (c, hc, ec) = h in (
      Nested l s c End,
      (hl, hc, tt),
      ap (λ (z : List ℕ). opening_tag l [] ++ compound_start s [] ++ z ++ compound_end s [] ++ end_tag l []) ec ∙ simp append_assoc refl
          ∙ sym (opening_more l _ ∙ ap (λ (z : List ℕ). opening_tag l [] ++ z) (start_more s _
          ∙ ap (λ (z : List ℕ). compound_start s [] ++ z) (written_more c _
          ∙ ap (λ (z : List ℕ). written c [] ++ z) (stop_more s _)))),
    )

pub language_filled : (o a b d y : List ℕ) → 1 ≤ length y → a ≡ o ++ codes " xml:lang=\"" → b ≡ a ++ y → d ≡ b ++ codes "\">"
    → d ≡ o ++ language_octets y
language_filled o a b d [] n ea eb ed = absurd (omega (arith, n))
language_filled o a b d (x ∷ y) n ea eb ed =
    ed ∙ ap (λ (z : List ℕ). z ++ codes "\">") (eb ∙ ap (λ (z : List ℕ). z ++ (x ∷ y)) ea) ∙ simp append_assoc refl

pub text_more : (x y t : List ℕ) → IsTextForm x → y ≡ x ++ normal_text t → IsTextForm y
text_more x y t h e =
    let (s, es) = h in (s ++ t, e ∙ ap (λ (z : List ℕ). z ++ normal_text t) es ∙ sym (flat_map-append normal_octet s t))

-- a normal form without a quotation mark is of a text without one
pub without_normal : (t : List ℕ) → Without 34 (normal_text t) → Without 34 t
without_normal [] h = tt
without_normal (o ∷ t) h = (not_quote, without_normal t (without_back 34 (normal_octet o) (normal_text t) h))
  where
    not_quote : o ≡ 34 → ⊥
    not_quote e = let P : ℕ → Type 0 = λ z. Without 34 (normal_octet z ++ normal_text t) in (subst P e h).0 refl

-- and that of such a text has none
pub normal_without : (t : List ℕ) → Without 34 t → Without 34 (normal_text t)
normal_without [] h = tt
normal_without (o ∷ t) h = without_append 34 (normal_octet o) (normal_text t) (octet o h.0) (normal_without t h.1)
  where
    octet : (o : ℕ) → o ≢ 34 → Without 34 (normal_octet o)
    octet =
        octet_cases (λ o z. o ≢ 34 → Without 34 z) (λ n. without_from 34 (codes "&amp;") refl) (λ n. without_from 34 (codes "&lt;") refl)
        (λ n. without_from 34 (codes "&gt;") refl) (λ n. without_from 34 (codes "&#13;") refl) (λ o p q n. (n, tt))

pub packet_written : (a b d e x p : List ℕ) → a ≡ []
    → b ≡ a ++ codes "<x:xmpmeta xmlns:x=\"adobe:ns:meta/\"><rdf:RDF xmlns:rdf=\"http://www.w3.org/1999/02/22-rdf-syntax-ns#\">"
    → d ≡ b ++ codes "<rdf:Description rdf:about=\"\">" → e ≡ d ++ p → x ≡ e ++ packet_end → IsForm p → IsNormal x
packet_written a b d e x p ea eb ed ee ex h =
    let (c, hc, ec) = h in (
      c,
      hc,
      ex ∙ ap (λ (z : List ℕ). z ++ packet_end) (ee ∙ ap (λ (z : List ℕ). d ++ z) ec) ∙ append_assoc d (written c []) packet_end
          ∙ ap (λ (z : List ℕ). d ++ z) (sym (written_more c packet_end))
          ∙ ap (λ (z : List ℕ). z ++ written c packet_end) (ed ∙ ap (λ (z : List ℕ). z ++ codes "<rdf:Description rdf:about=\"\">")
          (eb ∙ ap (λ (z : List ℕ). z ++ codes "<x:xmpmeta xmlns:x=\"adobe:ns:meta/\"><rdf:RDF xmlns:rdf=\"http://www.w3.org/1999/02/22-rdf-syntax-ns#\">") ea))
          ∙ append_assoc (codes "<x:xmpmeta xmlns:x=\"adobe:ns:meta/\"><rdf:RDF xmlns:rdf=\"http://www.w3.org/1999/02/22-rdf-syntax-ns#\">")
          (codes "<rdf:Description rdf:about=\"\">") (written c packet_end),
    )

-- ---- elements, as they are appended to nothing

pub literal_written : (l : Label) (y z o a b d e : List ℕ) → IsLabel l → Without 34 y → IsTextForm z → o ≡ [] → a ≡ o ++ opening_tag l []
    → b ≡ a ++ language_octets y → d ≡ b ++ z → e ≡ d ++ end_tag l [] → IsForm e
literal_written l y z o a b d e hl hy hz eo ea eb ed ee =
    let (t, et) = hz in
    let P : List ℕ → Type 0 = λ x. IsForm x in
    let front : b ≡ opening_tag l [] ++ language_octets y = eb ∙ ap (λ (w : List ℕ). w ++ language_octets y) (ea
    ∙ ap (λ (w : List ℕ). w ++ opening_tag l []) eo) in
    let whole : e ≡ opening_tag l [] ++ language_octets y ++ normal_text t ++ end_tag l [] =
    ee ∙ ap (λ (w : List ℕ). w ++ end_tag l []) (ed ∙ ap (λ (w : List ℕ). w ++ z) front
    ∙ ap (λ (w : List ℕ). opening_tag l [] ++ language_octets y ++ w) et) in
    subst P (sym whole) (form_literal l y t hl hy)

pub uri_written : (l : Label) (z o a b d e : List ℕ) → IsLabel l → Without 34 z → IsTextForm z → o ≡ [] → a ≡ o ++ opening_tag l []
    → b ≡ a ++ codes " rdf:resource=\"" → d ≡ b ++ z → e ≡ d ++ codes "\"/>" → IsForm e
uri_written l z o a b d e hl hw hz eo ea eb ed ee =
    let (u, eu) = hz in
    let P : List ℕ → Type 0 = λ x. IsForm x in
    let Q : List ℕ → Type 0 = λ x. Without 34 x in
    let front : b ≡ opening_tag l [] ++ codes " rdf:resource=\"" = eb ∙ ap (λ (w : List ℕ). w ++ codes " rdf:resource=\"") (ea
    ∙ ap (λ (w : List ℕ). w ++ opening_tag l []) eo) in
    let whole : e ≡ opening_tag l [] ++ codes " rdf:resource=\"" ++ normal_text u ++ codes "\"/>" =
    ee ∙ ap (λ (w : List ℕ). w ++ codes "\"/>") (ed ∙ ap (λ (w : List ℕ). w ++ z) front
    ∙ ap (λ (w : List ℕ). opening_tag l [] ++ codes " rdf:resource=\"" ++ w) eu) in
    subst P (sym whole) (form_uri l u hl (without_normal u (subst Q eu hw)))

pub nested_written : (l : Label) (s : Compound) (z o a b d e f : List ℕ) → IsLabel l → IsForm z → o ≡ [] → a ≡ o ++ opening_tag l []
    → b ≡ a ++ compound_start s [] → d ≡ b ++ z → e ≡ d ++ compound_end s [] → f ≡ e ++ end_tag l [] → IsForm f
nested_written l s z o a b d e f hl hz eo ea eb ed ee ef =
    let P : List ℕ → Type 0 = λ x. IsForm x in
    let whole : f ≡ opening_tag l [] ++ compound_start s [] ++ z ++ compound_end s [] ++ end_tag l [] =
    ef ∙ ap (λ (w : List ℕ). w ++ end_tag l []) (ee ∙ ap (λ (w : List ℕ). w ++ compound_end s []) (ed
    ∙ ap (λ (w : List ℕ). w ++ z) (eb ∙ ap (λ (w : List ℕ). w ++ compound_start s []) (ea
    ∙ ap (λ (w : List ℕ). w ++ opening_tag l []) eo)))) in
    subst P (sym whole) (form_nested l s z hl hz)

-- the packet of properties, as it is appended to nothing
pub packet_is : (a b d e x p : List ℕ) (c : Content) → a ≡ []
    → b ≡ a ++ codes "<x:xmpmeta xmlns:x=\"adobe:ns:meta/\"><rdf:RDF xmlns:rdf=\"http://www.w3.org/1999/02/22-rdf-syntax-ns#\">"
    → d ≡ b ++ codes "<rdf:Description rdf:about=\"\">" → e ≡ d ++ p → x ≡ e ++ packet_end → p ≡ written c [] → x ≡ normal_packet c
packet_is a b d e x p c ea eb ed ee ex ec =
    ex ∙ ap (λ (z : List ℕ). z ++ packet_end) (ee ∙ ap (λ (z : List ℕ). d ++ z) ec) ∙ append_assoc d (written c []) packet_end
    ∙ ap (λ (z : List ℕ). d ++ z) (sym (written_more c packet_end))
    ∙ ap (λ (z : List ℕ). z ++ written c packet_end) (ed ∙ ap (λ (z : List ℕ). z ++ codes "<rdf:Description rdf:about=\"\">")
    (eb ∙ ap (λ (z : List ℕ). z ++ codes "<x:xmpmeta xmlns:x=\"adobe:ns:meta/\"><rdf:RDF xmlns:rdf=\"http://www.w3.org/1999/02/22-rdf-syntax-ns#\">") ea))
    ∙ append_assoc (codes "<x:xmpmeta xmlns:x=\"adobe:ns:meta/\"><rdf:RDF xmlns:rdf=\"http://www.w3.org/1999/02/22-rdf-syntax-ns#\">")
    (codes "<rdf:Description rdf:about=\"\">") (written c packet_end)

-- no part of it is longer
pub packet_short : (a b d e p : List ℕ) (c : Content) (n : ℕ) → a ≡ []
    → b ≡ a ++ codes "<x:xmpmeta xmlns:x=\"adobe:ns:meta/\"><rdf:RDF xmlns:rdf=\"http://www.w3.org/1999/02/22-rdf-syntax-ns#\">"
    → d ≡ b ++ codes "<rdf:Description rdf:about=\"\">" → e ≡ d ++ p → p ≡ written c [] → length (normal_packet c) ≤ n
    → length e + length packet_end ≤ n
packet_short a b d e p c n ea eb ed ee ec short =
    let whole : length (e ++ packet_end) ≤ n =
    subst (λ (z : List ℕ). length z ≤ n) (sym (packet_is a b d e (e ++ packet_end) p c ea eb ed ee refl ec)) short in
    omega (arith, whole, length-append e packet_end)
