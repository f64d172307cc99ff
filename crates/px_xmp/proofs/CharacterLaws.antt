-- The octets of a normal packet are characters that XML allows.
use Rattle.std.proofs.Common.{◌≡◌, ◌⊎◌, ◌≤◌, ◌<◌, ◌+◌, ◌/◌, ◌%◌, ◌==◌, ◌&&◌, ◌++◌, ◌∙◌, inl, inr, refl, ℕ, Bool, true, false, nat_le, nat_lt, cond, List, [], ◌∷◌, codes, sym, ap, subst, arith, append-nil, append_assoc, eqb-true, ne_eqb}
use Rattle.std.proofs.lemmas.Bool.{cases_Bool, ltb-true, and_from}
use Rattle.std.proofs.lemmas.Str.{encode_ascii}
use Rattle.std.specs.List.{AllByRecursion}
use Rattle.std.specs.Char.{encode_utf8}
use Rattle.std.specs.Str.{encode_utf8_all}
use Rattle.px_xmp_text.specs.References.{is_char}
use Rattle.px_xmp_text.specs.Characters.{AreCharacters}
use Rattle.px_xmp_text.specs.Texts.{normal_octet, normal_text}
use Rattle.px_xmp_text.specs.Values.{Label, Property, Item, Simple, Literal, Uri, Compound, Structure, Bag, Seq, Alt, Content, End, Flat, Nested}
use Rattle.px_xmp_text.specs.Values.{opening_tag, end_tag, simple, compound_start, compound_end, written, packet_end, normal_packet}
use Rattle.px_xmp_marks.specs.Reading.{is_name_start, is_name_char}
use Rattle.px_xmp_marks.specs.Grammar.{IsNcName}
use Rattle.px_xmp_marks.specs.Declarations.{every}
use Rattle.px_xmp_document.specs.Bindings.{is_plain}
use Rattle.px_xmp_forms.specs.Uris.{is_uri_octet}
use Rattle.px_xmp.specs.Readable.{IsReadableSimple, AreReadable}
use Rattle.px_xmp.proofs.WhiteLaws.{first_of, rest_of}
use Rattle.px_xmp.proofs.SimpleLaws.{unchanged_octet, uri_octets}
use Rattle.px_xmp.proofs.StartLaws.{usual_plain, language_value, CanBeNamed, label_named_by, meta_start, root_start, description_start}
use Rattle.px_xmp.proofs.TextLaws.{characters_joined}

-- ---- octets of ASCII

abbrev is_ascii : ℕ → Bool
is_ascii o = nat_le 32 o && nat_le o 126

ascii_char : (o : ℕ) → is_ascii o ≡ true → is_char o ≡ true
ascii_char o h = grind arith

ascii_low : (o : ℕ) → is_ascii o ≡ true → o < 128
ascii_low o h = grind arith

name_start_ascii : (o : ℕ) → is_name_start o ≡ true → is_ascii o ≡ true
name_start_ascii o h = grind arith

name_ascii : (o : ℕ) → is_name_char o ≡ true → is_ascii o ≡ true
name_ascii o h = grind arith

space_ascii : (o : ℕ) → is_plain o ≡ true → is_ascii o ≡ true
space_ascii o h = grind arith

uri_ascii : (o : ℕ) → is_uri_octet o ≡ true → is_ascii o ≡ true
uri_ascii o h = grind arith

every_from : (f g : ℕ → Bool) → ((o : ℕ) → f o ≡ true → g o ≡ true) → (x : List ℕ) → every f x ≡ true → every g x ≡ true
every_from f g law [] h = refl
every_from f g law (o ∷ x) h =
    and_from (g o) (every g x) (law o (first_of (f o) (every f x) h)) (every_from f g law x (rest_of (f o) (every f x) h))

every_name : (x : List ℕ) → AllByRecursion (λ o. is_name_char o ≡ true) x → every is_ascii x ≡ true
every_name [] h = refl
every_name (o ∷ x) h = and_from (is_ascii o) (every is_ascii x) (name_ascii o h.0) (every_name x h.1)

ncname_ascii : (x : List ℕ) → IsNcName x → every is_ascii x ≡ true
ncname_ascii x h =
    ap (every is_ascii) h.whole ∙ and_from (is_ascii h.first) (every is_ascii h.others) (name_start_ascii h.first h.begins) (every_name h.others h.contains)

-- ---- characters in a row

abbrev Allowed : List ℕ → Type 0
Allowed cs = AllByRecursion (λ c. is_char c ≡ true) cs

ascii_allowed : (x : List ℕ) → every is_ascii x ≡ true → Allowed x × (x ≡ encode_utf8_all x)
ascii_allowed [] h = (tt, refl)
ascii_allowed (o ∷ x) h =
    let first = first_of (is_ascii o) (every is_ascii x) h in
    let (more, e) = ascii_allowed x (rest_of (is_ascii o) (every is_ascii x) h) in (
      (ascii_char o first, more),
      ap (λ (z : List ℕ). o ∷ z) e ∙ ap (λ (z : List ℕ). z ++ encode_utf8_all x) (sym (encode_ascii o (ascii_low o first))),
    )

ascii_characters : (x : List ℕ) → every is_ascii x ≡ true → AreCharacters x
ascii_characters x h = let (all, e) = ascii_allowed x h in (x, all, e)

-- octets of ASCII before characters
after_ascii : (x k : List ℕ) → every is_ascii x ≡ true → AreCharacters k → AreCharacters (x ++ k)
after_ascii x k h c = characters_joined x k (ascii_characters x h) c

-- ---- normal forms of texts

different : (o n : ℕ) → 128 ≤ o → n < 128 → (o == n) ≡ false
different o n h k = ne_eqb o n (λ e. omega (arith, h, k, e))

high_octet : (o : ℕ) → 128 ≤ o → normal_octet o ≡ o ∷ []
high_octet o h =
    unchanged_octet (o == 38) (o == 60) (o == 62) (o == 13) _ _ _ _ _ (different o 38 h (omega arith)) (different o 60 h (omega arith))
    (different o 62 h (omega arith)) (different o 13 h (omega arith))

abbrev AreHigh : List ℕ → Type 0
AreHigh x = AllByRecursion (λ o. 128 ≤ o) x

high_text : (x : List ℕ) → AreHigh x → normal_text x ≡ x
high_text [] h = refl
high_text (o ∷ x) h = ap (λ (z : List ℕ). z ++ normal_text x) (high_octet o h.0) ∙ ap (λ (z : List ℕ). o ∷ z) (high_text x h.1)

choose_high : (p q : Bool) (x y z : List ℕ) → AreHigh x → AreHigh y → AreHigh z → AreHigh (cond p x (cond q y z))
choose_high true q x y z a b c = a
choose_high false true x y z a b c = b
choose_high false false x y z a b c = c

second_high : (p : Bool) (x y : List ℕ) → p ≡ false → AreHigh y → AreHigh (cond p x y)
second_high true x y h k = absurd (cc)
second_high false x y h k = k

high : (k n : ℕ) → 128 ≤ (128 + k) + n
high k n = omega arith

long : (c : ℕ) → nat_lt c 128 ≡ false → AreHigh (encode_utf8 c)
unfolding encode_utf8
long c h =
    let two : List ℕ = (192 + c / 64) ∷ (128 + c % 64) ∷ [] in
    let three : List ℕ = (224 + c / 4096) ∷ (128 + (c / 64) % 64) ∷ (128 + c % 64) ∷ [] in
    let four : List ℕ = (240 + c / 262144) ∷ (128 + (c / 4096) % 64) ∷ (128 + (c / 64) % 64) ∷ (128 + c % 64) ∷ [] in
    second_high (nat_lt c 128) (c ∷ []) (cond (nat_lt c 2048) two (cond (nat_lt c 65536) three four)) h
    (choose_high (nat_lt c 2048) (nat_lt c 65536) two three four (high 64 (c / 64), (high 0 (c % 64), tt))
    (high 96 (c / 4096), (high 0 ((c / 64) % 64), (high 0 (c % 64), tt)))
    (high 112 (c / 262144), (high 0 ((c / 4096) % 64), (high 0 ((c / 64) % 64), (high 0 (c % 64), tt)))))

-- a character is one octet of ASCII, or octets that are not
encoded : (c : ℕ) → ((c < 128) × (encode_utf8 c ≡ c ∷ [])) ⊎ AreHigh (encode_utf8 c)
encoded c = elim (cases_Bool (nat_lt c 128)) [
  | inl h ↦ let low : c < 128 = ltb-true c 128 h in inl (low, encode_ascii c low)
  | inr h ↦ inr (long c h)
]

low_characters : (c : ℕ) → is_char c ≡ true → c < 128 → AreCharacters (normal_octet c)
low_characters c h low = elim (cases_Bool (c == 38)) [
  | inl a ↦ subst (λ (j : ℕ). AreCharacters (normal_octet j)) (sym (eqb-true c 38 a)) (ascii_characters (codes "&amp;") refl)
  | inr a ↦ elim (cases_Bool (c == 60)) [
    | inl b ↦ subst (λ (j : ℕ). AreCharacters (normal_octet j)) (sym (eqb-true c 60 b)) (ascii_characters (codes "&lt;") refl)
    | inr b ↦ elim (cases_Bool (c == 62)) [
      | inl d ↦ subst (λ (j : ℕ). AreCharacters (normal_octet j)) (sym (eqb-true c 62 d)) (ascii_characters (codes "&gt;") refl)
      | inr d ↦ elim (cases_Bool (c == 13)) [
        | inl e ↦ subst (λ (j : ℕ). AreCharacters (normal_octet j)) (sym (eqb-true c 13 e)) (ascii_characters (codes "&#13;") refl)
        | inr e ↦
            subst AreCharacters (sym (unchanged_octet (c == 38) (c == 60) (c == 62) (c == 13) _ _ _ _ _ a b d e))
            (c ∷ [], (h, tt), ap (λ (z : List ℕ). z ++ []) (sym (encode_ascii c low)))
      ]
    ]
  ]
]

pub normal_append : (x y : List ℕ) → normal_text (x ++ y) ≡ normal_text x ++ normal_text y
normal_append [] y = refl
normal_append (o ∷ x) y =
    ap (λ (z : List ℕ). normal_octet o ++ z) (normal_append x y) ∙ sym (append_assoc (normal_octet o) (normal_text x) (normal_text y))

one_character : (c : ℕ) → is_char c ≡ true → AreCharacters (normal_text (encode_utf8 c))
one_character c h = elim (encoded c) [
  | inl a ↦
      subst (λ (z : List ℕ). AreCharacters (normal_text z)) (sym a.1)
      (characters_joined (normal_octet c) [] (low_characters c h a.0) ([], tt, refl))
  | inr b ↦ subst AreCharacters (sym (high_text (encode_utf8 c) b)) (c ∷ [], (h, tt), sym (append-nil (encode_utf8 c)))
]

normal_all : (cs : List ℕ) → Allowed cs → AreCharacters (normal_text (encode_utf8_all cs))
normal_all [] h = ([], tt, refl)
normal_all (c ∷ cs) h =
    subst AreCharacters (sym (normal_append (encode_utf8 c) (encode_utf8_all cs)))
    (characters_joined (normal_text (encode_utf8 c)) (normal_text (encode_utf8_all cs)) (one_character c h.0) (normal_all cs h.1))

normal_characters : (t : List ℕ) → AreCharacters t → AreCharacters (normal_text t)
normal_characters t (cs, h, e) = subst (λ (z : List ℕ). AreCharacters (normal_text z)) (sym e) (normal_all cs h)

-- ---- content

end_characters : (l : Label) → CanBeNamed l → (k : List ℕ) → AreCharacters k → AreCharacters (end_tag l k)
end_characters (Property space local) can k c =
    after_ascii (codes "</p:") _ refl (after_ascii local _ (ncname_ascii local can.1) (after_ascii (codes ">") k refl c))
end_characters Item can k c = after_ascii (codes "</rdf:li>") k refl c

opening_characters : (l : Label) → CanBeNamed l → (k : List ℕ) → AreCharacters k → AreCharacters (opening_tag l k)
opening_characters (Property space local) can k c =
    after_ascii (codes "<p:") _ refl
    (after_ascii local _ (ncname_ascii local can.1)
    (after_ascii (codes " xmlns:p=\"") _ refl (after_ascii space _ (every_from is_plain is_ascii space_ascii space (usual_plain space can.0.0)) (after_ascii (codes "\"") k refl c))))
opening_characters Item can k c = after_ascii (codes "<rdf:li") k refl c

simple_characters : (l : Label) (p : Simple) → CanBeNamed l → IsReadableSimple p → (k : List ℕ) → AreCharacters k
    → AreCharacters (simple l p k)
simple_characters l (Literal [] t) can h k c =
    after_ascii (codes ">") _ refl (characters_joined (normal_text t) _ (normal_characters t h.2) (end_characters l can k c))
simple_characters l (Literal (o ∷ g) t) can h k c =
    after_ascii (codes " xml:lang=\"") _ refl
    (after_ascii (o ∷ g) _ (every_from is_plain is_ascii space_ascii (o ∷ g) (language_value (o ∷ g) h.0).0)
    (after_ascii (codes "\">") _ refl (characters_joined (normal_text t) _ (normal_characters t h.2) (end_characters l can k c))))
simple_characters l (Uri u) can h k c =
    after_ascii (codes " rdf:resource=\"") _ refl
    (characters_joined (normal_text u) _ (ascii_characters (normal_text u) (every_from is_uri_octet is_ascii uri_ascii (normal_text u) (uri_octets (normal_text u) h.0)))
    (after_ascii (codes "\"/>") k refl c))

start_characters : (s : Compound) (k : List ℕ) → AreCharacters k → AreCharacters (compound_start s k)
start_characters Structure k c = after_ascii (codes " rdf:parseType=\"Resource\">") k refl c
start_characters Bag k c = after_ascii (codes "><rdf:Bag>") k refl c
start_characters Seq k c = after_ascii (codes "><rdf:Seq>") k refl c
start_characters Alt k c = after_ascii (codes "><rdf:Alt>") k refl c

stop_characters : (s : Compound) (k : List ℕ) → AreCharacters k → AreCharacters (compound_end s k)
stop_characters Structure k c = c
stop_characters Bag k c = after_ascii (codes "</rdf:Bag>") k refl c
stop_characters Seq k c = after_ascii (codes "</rdf:Seq>") k refl c
stop_characters Alt k c = after_ascii (codes "</rdf:Alt>") k refl c

content_characters : (c : Content) (s : Compound) → AreReadable s c → (k : List ℕ) → AreCharacters k → AreCharacters (written c k)
content_characters End s h k a = a
content_characters (Flat l p rest) s h k a =
    let can = label_named_by s l h.0 in
    opening_characters l can _ (simple_characters l p can h.1 _ (content_characters rest s h.2 k a))
content_characters (Nested l t inner rest) s h k a =
    let can = label_named_by s l h.0 in
    opening_characters l can _
    (start_characters t _
    (content_characters inner t h.2 _ (stop_characters t _ (end_characters l can _ (content_characters rest s h.3 k a)))))

pub packet_characters : (c : Content) → AreReadable Structure c → AreCharacters (normal_packet c)
packet_characters c h =
    after_ascii (meta_start ++ root_start) _ refl
    (after_ascii description_start _ refl (content_characters c Structure h packet_end (ascii_characters packet_end refl)))
