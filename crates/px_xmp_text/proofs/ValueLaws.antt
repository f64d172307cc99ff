-- Values have one normal_text written exactly if they are one.
use Rattle.std.proofs.Common.{◌≡◌, ◌≢◌, ◌==◌, ℕ, Bool, true, false, cond, ◌||◌, get_or, drop, List, [], ◌∷◌, ◌++◌, refl, sym, ap, ◌∙◌, inl, inr, subst, eqb-true, eq-eqb, codes}
use Rattle.std.proofs.lemmas.List.{append_cancel_left}
use Rattle.std.proofs.lemmas.Bool.{cases_Bool, eqb-false}
use Rattle.px_xmp_text.specs.Texts.{normal_text, normal_octet}
use Rattle.px_xmp_text.specs.Values.{Label, Property, Item, Simple, Literal, Uri, Compound, Structure, Bag, Seq, Alt, Content, End, Flat, Nested}
use Rattle.px_xmp_text.specs.Values.{opening_tag, end_tag, simple, compound_start, compound_end, written, packet_end, normal_packet, Without, IsLabel, IsSimple, IsContent, PacketIsInjective}
use Rattle.px_xmp_text.proofs.TextLaws.{normal_is_injective}

-- ---- lists up to an octet

differ : (a b : ℕ) → a ≡ b → (a == b) ≡ false → ⊥
differ a b e h = let t = eq-eqb a b e in absurd (cc)

-- what is before the first d, and what is behind it
cut : (d : ℕ) (a b x y : List ℕ) → Without d a → Without d b → a ++ d ∷ x ≡ b ++ d ∷ y → (a ≡ b) × (x ≡ y)
cut d [] [] x y h k e = (refl, cc)
cut d [] (c ∷ b) x y h k e = absurd (k.0 (cc))
cut d (c ∷ a) [] x y h k e = absurd (h.0 (cc))
cut d (c ∷ a) (f ∷ b) x y h k e =
    let r = cut d a b x y h.1 k.1 (cc) in
    let s = r.0 in (cc, r.1)

without_append : (d : ℕ) (a b : List ℕ) → Without d a → Without d b → Without d (a ++ b)
without_append d [] b h k = k
without_append d (o ∷ a) b h k = (h.0, without_append d a b h.1 k)

-- the same as a test, which computes
has : ℕ → List ℕ → Bool
has d [] = false
has d (o ∷ x) = (o == d) || has d x

without_from : (d : ℕ) (x : List ℕ) → has d x ≡ false → Without d x
unfolding has
without_from d [] h = tt
without_from d (o ∷ x) h = let p = parts (o == d) (has d x) h in (eqb-false o d p.0, without_from d x p.1)
  where
    parts : (a b : Bool) → (a || b) ≡ false → (a ≡ false) × (b ≡ false)
    parts true b h = absurd (cc)
    parts false b h = (refl, h)

less_references : Without 60 (codes "&amp;") × Without 60 (codes "&lt;") × Without 60 (codes "&gt;") × Without 60 (codes "&#13;")
unfolding has
less_references = (without_from 60 (codes "&amp;") refl, without_from 60 (codes "&lt;") refl, without_from 60 (codes "&gt;") refl, without_from 60 (codes "&#13;") refl)

quote_references : Without 34 (codes "&amp;") × Without 34 (codes "&lt;") × Without 34 (codes "&gt;") × Without 34 (codes "&#13;")
unfolding has
quote_references = (without_from 34 (codes "&amp;") refl, without_from 34 (codes "&lt;") refl, without_from 34 (codes "&gt;") refl, without_from 34 (codes "&#13;") refl)

-- the four references have neither `<` nor a quote
octet_without : (d o : ℕ) → o ≢ d → Without d (codes "&amp;") → Without d (codes "&lt;") → Without d (codes "&gt;") → Without d (codes "&#13;")
    → Without d (normal_octet o)
octet_without d o n a b c e = choose (o == 38) (o == 60) (o == 62) (o == 13)
  where
    choose : (p q r s : Bool) → Without d (cond p (codes "&amp;") (cond q (codes "&lt;") (cond r (codes "&gt;") (cond s (codes "&#13;") (o ∷ [])))))
    choose true q r s = a
    choose false true r s = b
    choose false false true s = c
    choose false false false true = e
    choose false false false false = (n, tt)

less_octet : (o : ℕ) → Without 60 (normal_octet o)
less_octet o = elim (cases_Bool (o == 60)) [
  | inl a ↦ let P : ℕ → Type 0 = λ j. Without 60 (normal_octet j) in subst P (sym (eqb-true o 60 a)) less_references.1
  | inr b ↦
      let r = less_references in octet_without 60 o (eqb-false o 60 b) r.0 r.1 r.2 r.3
]

pub normal_less : (t : List ℕ) → Without 60 (normal_text t)
normal_less [] = tt
normal_less (o ∷ t) = without_append 60 (normal_octet o) (normal_text t) (less_octet o) (normal_less t)

normal_quote : (t : List ℕ) → Without 34 t → Without 34 (normal_text t)
normal_quote [] h = tt
normal_quote (o ∷ t) h =
    let r = quote_references in
    without_append 34 (normal_octet o) (normal_text t) (octet_without 34 o h.0 r.0 r.1 r.2 r.3) (normal_quote t h.1)

-- ---- labels

opening_injective : (l m : Label) (x y : List ℕ) → IsLabel l → IsLabel m → opening_tag l x ≡ opening_tag m y → (l ≡ m) × (x ≡ y)
opening_injective Item Item x y h k e = (refl, append_cancel_left (codes "<rdf:li") x y e)
opening_injective Item (Property s n) x y h k e = absurd (differ 114 112 (ap (λ (z : List ℕ). get_or z 1 0) e) refl)
opening_injective (Property s n) Item x y h k e = absurd (differ 112 114 (ap (λ (z : List ℕ). get_or z 1 0) e) refl)
opening_injective (Property s n) (Property t m) x y h k e =
    let a = cut 32 n m _ _ h.1 k.1 (append_cancel_left (codes "<p:") _ _ e) in
    let b = cut 34 s t x y h.0 k.0 (append_cancel_left (codes "xmlns:p=\"") _ _ a.1) in
    let p = a.0 in
    let q = b.0 in (cc, b.1)

end_injective : (l : Label) (x y : List ℕ) → end_tag l x ≡ end_tag l y → x ≡ y
end_injective Item x y e = append_cancel_left (codes "</rdf:li>") x y e
end_injective (Property s n) x y e =
    let a = append_cancel_left n (62 ∷ x) (62 ∷ y) (append_cancel_left (codes "</p:") _ _ e) in cc

-- ---- octets that end what is before them

abbrev Stops : List ℕ → Type 0
Stops x = (z : List ℕ) × (x ≡ 60 ∷ 47 ∷ z)

end_stops : (l : Label) (k : List ℕ) → Stops (end_tag l k)
end_stops (Property s n) k = (_, refl)
end_stops Item k = (_, refl)

closing_stops : (s : Compound) (l : Label) (k : List ℕ) → Stops (compound_end s (end_tag l k))
closing_stops Structure l k = end_stops l k
closing_stops Bag l k = (_, refl)
closing_stops Seq l k = (_, refl)
closing_stops Alt l k = (_, refl)

no_start : (l : Label) (r x : List ℕ) → Stops x → x ≡ opening_tag l r → ⊥
no_start (Property s n) r x h e = absurd (differ 47 112 (ap (λ (z : List ℕ). get_or z 1 0) (sym h.1 ∙ e)) refl)
no_start Item r x h e = absurd (differ 47 114 (ap (λ (z : List ℕ). get_or z 1 0) (sym h.1 ∙ e)) refl)

-- ---- texts, up to the end tag

text_injective : (s t : List ℕ) (l : Label) (x y : List ℕ) → normal_text s ++ end_tag l x ≡ normal_text t ++ end_tag l y → (s ≡ t) × (x ≡ y)
text_injective s t l x y e =
    let (u, f) = end_stops l x in
    let (v, g) = end_stops l y in
    let h = cut 60 (normal_text s) (normal_text t) (47 ∷ u) (47 ∷ v) (normal_less s) (normal_less t)
    (ap (λ (z : List ℕ). normal_text s ++ z) (sym f) ∙ e ∙ ap (λ (z : List ℕ). normal_text t ++ z) g) in
    let same : end_tag l x ≡ end_tag l y = f ∙ ap (λ (z : List ℕ). 60 ∷ z) h.1 ∙ sym g in
    ((normal_is_injective s t).0 h.0, end_injective l x y same)

-- a text is no container
no_opening : (t : List ℕ) (l : Label) (x y : List ℕ) → normal_text t ++ end_tag l x ≡ 60 ∷ 114 ∷ y → ⊥
no_opening t l x y e =
    let (u, f) = end_stops l x in
    let h = cut 60 (normal_text t) [] (47 ∷ u) (114 ∷ y) (normal_less t) tt (ap (λ (z : List ℕ). normal_text t ++ z) (sym f) ∙ e) in
    absurd (differ 47 114 (ap (λ (z : List ℕ). get_or z 0 0) h.1) refl)

-- ---- simple values

simple_injective : (l : Label) (p q : Simple) (x y : List ℕ) → IsSimple p → IsSimple q → simple l p x ≡ simple l q y → (p ≡ q) × (x ≡ y)
simple_injective l (Literal [] s) (Literal [] t) x y h k e =
    let r = text_injective s t l x y (ap (λ (z : List ℕ). drop 1 z) e) in (ap (Literal []) r.0, r.1)
simple_injective l (Literal [] s) (Literal (o ∷ g) t) x y h k e = absurd (differ 62 32 (ap (λ (z : List ℕ). get_or z 0 0) e) refl)
simple_injective l (Literal [] s) (Uri u) x y h k e = absurd (differ 62 32 (ap (λ (z : List ℕ). get_or z 0 0) e) refl)
simple_injective l (Literal (o ∷ g) s) (Literal [] t) x y h k e = absurd (differ 32 62 (ap (λ (z : List ℕ). get_or z 0 0) e) refl)
simple_injective l (Literal (o ∷ g) s) (Literal (c ∷ m) t) x y h k e =
    let a = cut 34 (o ∷ g) (c ∷ m) _ _ h k (append_cancel_left (codes " xml:lang=\"") _ _ e) in
    let r = text_injective s t l x y (ap (λ (z : List ℕ). drop 1 z) a.1) in
    (ap (λ (z : List ℕ). Literal z s) a.0 ∙ ap (Literal (c ∷ m)) r.0, r.1)
simple_injective l (Literal (o ∷ g) s) (Uri u) x y h k e = absurd (differ 120 114 (ap (λ (z : List ℕ). get_or z 1 0) e) refl)
simple_injective l (Uri u) (Literal [] t) x y h k e = absurd (differ 32 62 (ap (λ (z : List ℕ). get_or z 0 0) e) refl)
simple_injective l (Uri u) (Literal (c ∷ m) t) x y h k e = absurd (differ 114 120 (ap (λ (z : List ℕ). get_or z 1 0) e) refl)
simple_injective l (Uri u) (Uri v) x y h k e =
    let a = cut 34 (normal_text u) (normal_text v) _ _ (normal_quote u h) (normal_quote v k) (append_cancel_left (codes " rdf:resource=\"") _ _ e) in
    (ap Uri ((normal_is_injective u v).0 a.0), ap (λ (z : List ℕ). drop 2 z) a.1)

simple_not_nested : (l : Label) (p : Simple) (s : Compound) (x y : List ℕ) → simple l p x ≡ compound_start s y → ⊥
simple_not_nested l (Literal [] t) Structure x y e = absurd (differ 62 32 (ap (λ (z : List ℕ). get_or z 0 0) e) refl)
simple_not_nested l (Literal [] t) Bag x y e = no_opening t l x _ (ap (λ (z : List ℕ). drop 1 z) e)
simple_not_nested l (Literal [] t) Seq x y e = no_opening t l x _ (ap (λ (z : List ℕ). drop 1 z) e)
simple_not_nested l (Literal [] t) Alt x y e = no_opening t l x _ (ap (λ (z : List ℕ). drop 1 z) e)
simple_not_nested l (Literal (o ∷ g) t) Structure x y e = absurd (differ 120 114 (ap (λ (z : List ℕ). get_or z 1 0) e) refl)
simple_not_nested l (Literal (o ∷ g) t) Bag x y e = absurd (differ 32 62 (ap (λ (z : List ℕ). get_or z 0 0) e) refl)
simple_not_nested l (Literal (o ∷ g) t) Seq x y e = absurd (differ 32 62 (ap (λ (z : List ℕ). get_or z 0 0) e) refl)
simple_not_nested l (Literal (o ∷ g) t) Alt x y e = absurd (differ 32 62 (ap (λ (z : List ℕ). get_or z 0 0) e) refl)
simple_not_nested l (Uri u) Structure x y e = absurd (differ 114 112 (ap (λ (z : List ℕ). get_or z 5 0) e) refl)
simple_not_nested l (Uri u) Bag x y e = absurd (differ 32 62 (ap (λ (z : List ℕ). get_or z 0 0) e) refl)
simple_not_nested l (Uri u) Seq x y e = absurd (differ 32 62 (ap (λ (z : List ℕ). get_or z 0 0) e) refl)
simple_not_nested l (Uri u) Alt x y e = absurd (differ 32 62 (ap (λ (z : List ℕ). get_or z 0 0) e) refl)

-- ---- shapes

compound_injective : (s t : Compound) (x y : List ℕ) → compound_start s x ≡ compound_start t y → (s ≡ t) × (x ≡ y)
compound_injective Structure Structure x y e = (refl, append_cancel_left (codes " rdf:parseType=\"Resource\">") x y e)
compound_injective Bag Bag x y e = (refl, append_cancel_left (codes "><rdf:Bag>") x y e)
compound_injective Seq Seq x y e = (refl, append_cancel_left (codes "><rdf:Seq>") x y e)
compound_injective Alt Alt x y e = (refl, append_cancel_left (codes "><rdf:Alt>") x y e)
compound_injective Structure Bag x y e = absurd (differ 32 62 (ap (λ (z : List ℕ). get_or z 0 0) e) refl)
compound_injective Structure Seq x y e = absurd (differ 32 62 (ap (λ (z : List ℕ). get_or z 0 0) e) refl)
compound_injective Structure Alt x y e = absurd (differ 32 62 (ap (λ (z : List ℕ). get_or z 0 0) e) refl)
compound_injective Bag Structure x y e = absurd (differ 62 32 (ap (λ (z : List ℕ). get_or z 0 0) e) refl)
compound_injective Bag Seq x y e = absurd (differ 66 83 (ap (λ (z : List ℕ). get_or z 6 0) e) refl)
compound_injective Bag Alt x y e = absurd (differ 66 65 (ap (λ (z : List ℕ). get_or z 6 0) e) refl)
compound_injective Seq Structure x y e = absurd (differ 62 32 (ap (λ (z : List ℕ). get_or z 0 0) e) refl)
compound_injective Seq Bag x y e = absurd (differ 83 66 (ap (λ (z : List ℕ). get_or z 6 0) e) refl)
compound_injective Seq Alt x y e = absurd (differ 83 65 (ap (λ (z : List ℕ). get_or z 6 0) e) refl)
compound_injective Alt Structure x y e = absurd (differ 62 32 (ap (λ (z : List ℕ). get_or z 0 0) e) refl)
compound_injective Alt Bag x y e = absurd (differ 65 66 (ap (λ (z : List ℕ). get_or z 6 0) e) refl)
compound_injective Alt Seq x y e = absurd (differ 65 83 (ap (λ (z : List ℕ). get_or z 6 0) e) refl)

compound_end_injective : (s : Compound) (x y : List ℕ) → compound_end s x ≡ compound_end s y → x ≡ y
compound_end_injective Structure x y e = e
compound_end_injective Bag x y e = append_cancel_left (codes "</rdf:Bag>") x y e
compound_end_injective Seq x y e = append_cancel_left (codes "</rdf:Seq>") x y e
compound_end_injective Alt x y e = append_cancel_left (codes "</rdf:Alt>") x y e

-- ---- items

content_injective : (a b : Content) (x y : List ℕ) → IsContent a → IsContent b → Stops x → Stops y → written a x ≡ written b y → (a ≡ b) × (x ≡ y)
content_injective End End x y h k s t e = (refl, e)
content_injective End (Flat m q b) x y h k s t e = absurd (no_start m _ x s e)
content_injective End (Nested m u i b) x y h k s t e = absurd (no_start m _ x s e)
content_injective (Flat l p a) End x y h k s t e = absurd (no_start l _ y t (sym e))
content_injective (Nested l u i a) End x y h k s t e = absurd (no_start l _ y t (sym e))
content_injective (Flat l p a) (Flat m q b) x y h k s t e =
    let c = opening_injective l m _ _ h.0 k.0 e in
    let d = simple_injective l p q _ _ h.1 k.1 (c.1 ∙ ap (λ (n : Label). simple n q (written b y)) (sym c.0)) in
    let r = content_injective a b x y h.2 k.2 s t d.1 in
    (ap (λ (n : Label). Flat n p a) c.0 ∙ ap (λ (z : Simple). Flat m z a) d.0 ∙ ap (Flat m q) r.0, r.1)
content_injective (Flat l p a) (Nested m u i b) x y h k s t e =
    let c = opening_injective l m _ _ h.0 k.0 e in absurd (simple_not_nested l p u _ _ c.1)
content_injective (Nested l u i a) (Flat m q b) x y h k s t e =
    let c = opening_injective l m _ _ h.0 k.0 e in absurd (simple_not_nested m q u _ _ (sym c.1))
content_injective (Nested l u i a) (Nested m v j b) x y h k s t e =
    let c = opening_injective l m _ _ h.0 k.0 e in
    let d = compound_injective u v _ _ c.1 in
    let f = content_injective i j _ _ h.1 k.1 (closing_stops u l _) (closing_stops v m _) d.1 in
    let g : compound_end u (end_tag l (written a x)) ≡ compound_end u (end_tag l (written b y)) =
    f.1 ∙ ap (λ (n : Label). compound_end v (end_tag n (written b y))) (sym c.0)
    ∙ ap (λ (w : Compound). compound_end w (end_tag l (written b y))) (sym d.0) in
    let r = content_injective a b x y h.2 k.2 s t (end_injective l _ _ (compound_end_injective u _ _ g)) in (
      ap (λ (n : Label). Nested n u i a) c.0 ∙ ap (λ (w : Compound). Nested m w i a) d.0 ∙ ap (λ (z : Content). Nested m v z a) f.0
          ∙ ap (Nested m v j) r.0,
      r.1,
    )

same_packet : (a b : Content) → IsContent a → IsContent b → normal_packet a ≡ normal_packet b → a ≡ b
same_packet a b h k e =
    let f = append_cancel_left (codes "<rdf:Description rdf:about=\"\">") (written a packet_end) (written b packet_end)
    (append_cancel_left (codes "<x:xmpmeta xmlns:x=\"adobe:ns:meta/\"><rdf:RDF xmlns:rdf=\"http://www.w3.org/1999/02/22-rdf-syntax-ns#\">") _ _ e) in
    (content_injective a b packet_end packet_end h k (_, refl) (_, refl) f).0

pub packet_is_injective : PacketIsInjective
packet_is_injective a b h k = (same_packet a b h k, λ e. ap normal_packet e)
