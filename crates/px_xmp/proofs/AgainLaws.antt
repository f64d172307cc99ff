-- The name of a property, a language and a URI, as a normal form has them, are again a name of a property, a language and a URI.
use Rattle.std.proofs.Common.{◌≡◌, ◌≤◌, ◌∙◌, ◌+◌, ◌==◌, ◌&&◌, ◌||◌, ◌++◌, refl, ℕ, Bool, true, false, not, nat_le, nat_lt, nat_eq, cond}
use Rattle.std.proofs.Common.{Option, Some, None, option_map, option_and_then, if◌then◌else◌}
use Rattle.std.proofs.Common.{List, [], ◌∷◌, codes, sym, ap, subst, take, drop, zero, suc, length, map, inl, inr, arith, eqb-true}
use Rattle.std.specs.List.{list_all, starts_with}
use Rattle.std.specs.Char.{to_ascii_lowercase}
use Rattle.std.specs.Str.{str_to_ascii_lowercase}
use Rattle.std.proofs.lemmas.Bool.{cases_Bool, and_parts, and_from, leb-true, le-leb, ltb-true, ltb-false, lt-ltb, le-ltb, cond-true, cond-false, not-true, or_cases, or_left, or_right, or_from}
use Rattle.std.proofs.lemmas.List.{map-append, length-map, take-append-drop}
use Rattle.std.proofs.lemmas.Option.{cond_some}
use Rattle.px_xmp_text.specs.Texts.{piece, text_in, text_of, normal_octet, normal_text}
use Rattle.px_xmp_text.specs.declared.pieces.TextKind.TheVariants.{AttributeValue}
use Rattle.px_xmp_text.specs.Values.{Property, Structure}
use Rattle.px_xmp_document.specs.Scopes.{is_same, xml_space, xmlns_space}
use Rattle.px_xmp_document.specs.Bindings.{is_reserved, differ}
use Rattle.px_xmp_forms.specs.Labels.{before_name, name_at_end, label_of}
use Rattle.px_xmp_forms.specs.Languages.{is_letter, is_digit, is_part_octet, IsPart, AreParts, IsLanguage}
use Rattle.px_xmp_forms.specs.Uris.{is_excluded, is_uri_octet, are_uri_octets, IsAbsolute}
use Rattle.px_xmp.specs.Names.{Name, is_free, is_property, rdf_space}
use Rattle.px_xmp.specs.Meaning.{label_in}
use Rattle.px_xmp.proofs.MeaningLaws.{same_octets, name_in}
use Rattle.px_xmp.proofs.SimpleLaws.{plain_piece, and_piece, unchanged_octet}

-- ---- languages

in_range : (a o b : ℕ) → a ≤ o → o ≤ b → (nat_le a o && nat_le o b) ≡ true
in_range a o b p q = and_from (nat_le a o) (nat_le o b) (le-leb a o p) (le-leb o b q)

range_of : (a o b : ℕ) → (nat_le a o && nat_le o b) ≡ true → (a ≤ o) × (o ≤ b)
range_of a o b h = let p = and_parts (nat_le a o) (nat_le o b) h in (leb-true a o p.0, leb-true o b p.1)

lower_low : (o : ℕ) → o ≤ 64 → to_ascii_lowercase o ≡ o
lower_low o h = cond-true (nat_lt o 65) o (cond (nat_lt o 91) (o + 32) o) (lt-ltb o 65 (omega (arith, h)))

lower_upper : (o : ℕ) → 65 ≤ o → o ≤ 90 → to_ascii_lowercase o ≡ o + 32
lower_upper o g h =
    cond-false (nat_lt o 65) o (cond (nat_lt o 91) (o + 32) o) (le-ltb o 65 g) ∙ cond-true (nat_lt o 91) (o + 32) o (lt-ltb o 91 (omega (arith, h)))

lower_high : (o : ℕ) → 91 ≤ o → to_ascii_lowercase o ≡ o
lower_high o h =
    cond-false (nat_lt o 65) o (cond (nat_lt o 91) (o + 32) o) (le-ltb o 65 (omega (arith, h))) ∙ cond-false (nat_lt o 91) (o + 32) o (le-ltb o 91 h)

lower_letter : (o : ℕ) → is_letter o ≡ true → is_letter (to_ascii_lowercase o) ≡ true
lower_letter o h = elim (or_cases (nat_le 97 o && nat_le o 122) (nat_le 65 o && nat_le o 90) h) [
  | inl p ↦
      let r = range_of 97 o 122 p in subst (λ (z : ℕ). is_letter z ≡ true) (sym (lower_high o (omega (arith, r.0)))) h
  | inr p ↦
      let r = range_of 65 o 90 p in
      subst (λ (z : ℕ). is_letter z ≡ true) (sym (lower_upper o r.0 r.1))
      (or_left (nat_le 97 (o + 32) && nat_le (o + 32) 122) (nat_le 65 (o + 32) && nat_le (o + 32) 90)
      (in_range 97 (o + 32) 122 (omega (arith, r.0)) (omega (arith, r.1))))
]

lower_digit : (o : ℕ) → is_digit o ≡ true → is_digit (to_ascii_lowercase o) ≡ true
lower_digit o h =
    let r = range_of 48 o 57 h in subst (λ (z : ℕ). is_digit z ≡ true) (sym (lower_low o (omega (arith, r.1)))) h

lower_part_octet : (first : Bool) (o : ℕ) → is_part_octet first o ≡ true → is_part_octet first (to_ascii_lowercase o) ≡ true
lower_part_octet first o h = elim (or_cases (is_letter o) (not first && is_digit o) h) [
  | inl p ↦ or_left (is_letter (to_ascii_lowercase o)) (not first && is_digit (to_ascii_lowercase o)) (lower_letter o p)
  | inr p ↦
      let q = and_parts (not first) (is_digit o) p in
      or_right (is_letter (to_ascii_lowercase o)) (not first && is_digit (to_ascii_lowercase o))
      (and_from (not first) (is_digit (to_ascii_lowercase o)) q.0 (lower_digit o q.1))
]

lower_octets : (first : Bool) (x : List ℕ) → list_all (is_part_octet first) x ≡ true → list_all (is_part_octet first) (str_to_ascii_lowercase x) ≡ true
lower_octets first [] h = refl
lower_octets first (o ∷ x) h =
    let p = and_parts (is_part_octet first o) (list_all (is_part_octet first) x) h in
    and_from (is_part_octet first (to_ascii_lowercase o)) (list_all (is_part_octet first) (str_to_ascii_lowercase x)) (lower_part_octet first o p.0)
    (lower_octets first x p.1)

lower_part : (first : Bool) (x : List ℕ) → IsPart first x → IsPart first (str_to_ascii_lowercase x)
lower_part first x (h, some, few) =
    let same : length (str_to_ascii_lowercase x) ≡ length x = length-map x to_ascii_lowercase in
    (lower_octets first x h, omega (arith, same, some), omega (arith, same, few))

lower_parts : (first : Bool) (ps : List (List ℕ)) (x : List ℕ) → AreParts first ps x
    → AreParts first (map str_to_ascii_lowercase ps) (str_to_ascii_lowercase x)
lower_parts first [] x h = absurd h
lower_parts first (p ∷ []) x (part, e) = (lower_part first p part, ap str_to_ascii_lowercase e)
lower_parts first (p ∷ q ∷ ps) x (part, rest, e, more) = (
  lower_part first p part,
  str_to_ascii_lowercase rest,
  ap str_to_ascii_lowercase e ∙ map-append to_ascii_lowercase p (45 ∷ rest),
  lower_parts false (q ∷ ps) rest more,
)

pub language_lower : (l : List ℕ) → IsLanguage l → IsLanguage (str_to_ascii_lowercase l)
language_lower l (ps, h) = (map str_to_ascii_lowercase ps, lower_parts true ps l h)

lower_once : (o : ℕ) → to_ascii_lowercase (to_ascii_lowercase o) ≡ to_ascii_lowercase o
lower_once o = elim (cases_Bool (nat_le 65 o && nat_le o 90)) [
  | inl h ↦
      let r = range_of 65 o 90 h in
      ap to_ascii_lowercase (lower_upper o r.0 r.1) ∙ lower_high (o + 32) (omega (arith, r.0)) ∙ sym (lower_upper o r.0 r.1)
  | inr h ↦ ap to_ascii_lowercase (stays o h)
]
  where
    stays : (o : ℕ) → (nat_le 65 o && nat_le o 90) ≡ false → to_ascii_lowercase o ≡ o
    stays o h = elim (cases_Bool (nat_lt o 65)) [
      | inl p ↦ cond-true (nat_lt o 65) o (cond (nat_lt o 91) (o + 32) o) p
      | inr p ↦ elim (cases_Bool (nat_lt o 91)) [
        | inl q ↦
            let wrong : true ≡ false =
            sym (in_range 65 o 90 (ltb-false o 65 p) (omega (arith, ltb-true o 91 q))) ∙ h in absurd (cc)
        | inr q ↦ cond-false (nat_lt o 65) o (cond (nat_lt o 91) (o + 32) o) p ∙ cond-false (nat_lt o 91) (o + 32) o q
      ]
    ]

pub lower_twice : (x : List ℕ) → str_to_ascii_lowercase (str_to_ascii_lowercase x) ≡ str_to_ascii_lowercase x
lower_twice [] = refl
lower_twice (o ∷ x) =
    ap (λ (z : ℕ). z ∷ str_to_ascii_lowercase (str_to_ascii_lowercase x)) (lower_once o)
    ∙ ap (λ (z : List ℕ). to_ascii_lowercase o ∷ z) (lower_twice x)

-- ---- URIs

map_some : {A B : Type 0} (f : A → B) (m : Option A) (t : B) → option_map f m ≡ Some t → (s : A) × (m ≡ Some s) × (f s ≡ t)
map_some f None t e = absurd (cc)
map_some f (Some s) t e = (s, refl, cc)

plain_step : (n o : ℕ) (x t : List ℕ) → piece AttributeValue (o ∷ x) ≡ Some (o ∷ [], 1) → text_in (suc n) AttributeValue (o ∷ x) ≡ Some t
    → (s : List ℕ) × (text_in n AttributeValue x ≡ Some s) × (o ∷ s ≡ t)
unfolding text_in
plain_step n o x t p e =
    map_some (λ (z : List ℕ). o ∷ z) (text_in n AttributeValue x) t
    (sym (ap (λ (r : Option (List ℕ × ℕ)). option_and_then (λ q. option_map (λ z. q.0 ++ z) (text_in n AttributeValue (drop q.1 (o ∷ x)))) r) p) ∙ e)

amp_step : (n : ℕ) (y t : List ℕ) → text_in (suc n) AttributeValue (codes "&amp;" ++ y) ≡ Some t
    → (s : List ℕ) × (text_in n AttributeValue y ≡ Some s) × (38 ∷ s ≡ t)
unfolding text_in
amp_step n y t e =
    map_some (λ (z : List ℕ). 38 ∷ z) (text_in n AttributeValue y) t
    (sym (ap (λ (r : Option (List ℕ × ℕ)). option_and_then (λ q. option_map (λ z. q.0 ++ z) (text_in n AttributeValue
    (drop q.1 (codes "&amp;" ++ y)))) r) (and_piece y)) ∙ e)

no_text : (n : ℕ) (t : List ℕ) → text_in n AttributeValue [] ≡ Some t → [] ≡ t
unfolding text_in
no_text n t e = cc

no_pieces : (o : ℕ) (x t : List ℕ) → text_in zero AttributeValue (o ∷ x) ≡ Some t → ⊥
unfolding text_in
no_pieces o x t e = absurd (cc)

-- an octet of a URI that is no ampersand means itself, and is its own form
abbrev IsPlain : ℕ → Type 0
IsPlain o = ((x : List ℕ) → piece AttributeValue (o ∷ x) ≡ Some (o ∷ [], 1)) × (normal_octet o ≡ o ∷ [])

no_signs : (a b c d e f g h i : Bool) → (a || b || c || d || e || f || g || h || i) ≡ false → (a ≡ false) × (b ≡ false)
no_signs true b c d e f g h i k = absurd (cc)
no_signs false true c d e f g h i k = absurd (cc)
no_signs false false c d e f g h i k = (refl, refl)

past : (o a : ℕ) → 33 ≤ o → a ≤ 32 → (o == a) ≡ false
past o a h k = elim (cases_Bool (o == a)) [
  | inl p ↦ absurd (omega (arith, h, k, eqb-true o a p))
  | inr p ↦ p
]

uri_octet_plain : (o : ℕ) → is_uri_octet o ≡ true → (o == 38) ≡ false → IsPlain o
uri_octet_plain o h amp =
    let p = and_parts (nat_le 33 o && nat_le o 126) (not (is_excluded o)) h in
    let low : 33 ≤ o = (range_of 33 o 126 p.0).0 in
    let signs = no_signs (o == 60) (o == 62) (o == 34) (o == 123) (o == 125) (o == 124) (o == 92) (o == 94) (o == 96) (not-true (is_excluded o) p.1) in
    let cr : (o == 13) ≡ false = past o 13 low (omega arith) in (
      λ x. plain_piece o x amp cr (or_from (o == 9) (o == 10) (past o 9 low (omega arith)) (past o 10 low (omega arith))),
      unchanged_octet (o == 38) (o == 60) (o == 62) (o == 13) (codes "&amp;") (codes "&lt;") (codes "&gt;") (codes "&#13;") (o ∷ []) amp signs.0 signs.1 cr,
    )

uri_text : (n : ℕ) (x t : List ℕ) → are_uri_octets x ≡ true → text_in n AttributeValue x ≡ Some t → normal_text t ≡ x
uri_text n [] t h e = ap normal_text (sym (no_text n t e))
uri_text zero (o ∷ x) t h e = absurd (no_pieces o x t e)
uri_text (suc n) (o ∷ x) t h e =
    let p = and_parts (is_uri_octet o) ((not (o == 38) || starts_with nat_eq (o ∷ x) (codes "&amp;")) && are_uri_octets x) h in
    let q = and_parts (not (o == 38) || starts_with nat_eq (o ∷ x) (codes "&amp;")) (are_uri_octets x) p.1 in
    elim (cases_Bool (o == 38)) [
      | inl amp ↦
          let begins : starts_with nat_eq (o ∷ x) (codes "&amp;") ≡ true =
          sym (ap (λ (b : Bool). not b || starts_with nat_eq (o ∷ x) (codes "&amp;")) amp) ∙ q.0 in
          let whole : codes "&amp;" ++ drop 4 x ≡ o ∷ x =
          ap (λ (z : List ℕ). z ++ drop 4 x) (same_octets (codes "&amp;") (take 5 (o ∷ x)) begins) ∙ take-append-drop 5 (o ∷ x) in
          let (s, text, same) = amp_step n (drop 4 x) t (subst (λ (z : List ℕ). text_in (suc n) AttributeValue z ≡ Some t) (sym whole) e) in
          ap normal_text (sym same)
          ∙ ap (λ (z : List ℕ). codes "&amp;" ++ z)
          (uri_text n (drop 4 x) s (subst (λ (z : List ℕ). are_uri_octets z ≡ true) (sym whole) h) text)
          ∙ whole
      | inr amp ↦
          let plain = uri_octet_plain o p.0 amp in
          let (s, text, same) = plain_step n o x t (plain.0 x) e in
          ap normal_text (sym same) ∙ ap (λ (z : List ℕ). z ++ normal_text s) plain.1 ∙ ap (λ (z : List ℕ). o ∷ z) (uri_text n x s q.1 text)
    ]

-- the text of a URI has it as its form
pub uri_again : (v t : List ℕ) → IsAbsolute v → text_of AttributeValue v ≡ Some t → normal_text t ≡ v
uri_again v t h e = uri_text (length v) v t h.0 e

-- ---- names

-- a label of a property is that of the name which it has
abbrev IsAgain : List ℕ → List ℕ → Type 0
IsAgain u m = (label_in Structure (name_in u m) ≡ Some (Property u m)) × (is_reserved (codes "p") u ≡ false) × (is_same u [] ≡ false)

free_again : (u m : List ℕ) → before_name u ≡ u → name_at_end u ≡ [] → is_free u ≡ true → IsAgain u m
free_again u m before none free =
    let p = and_parts (not (is_same u []) && not (is_same u rdf_space)) (not (is_same u xmlns_space)) free in
    let q = and_parts (not (is_same u [])) (not (is_same u rdf_space)) p.0 in
    let some : is_same u [] ≡ false = not-true (is_same u []) q.0 in
    let rdf : is_same u rdf_space ≡ false = not-true (is_same u rdf_space) q.1 in
    let xmlns : is_same u xmlns_space ≡ false = not-true (is_same u xmlns_space) p.1 in
    let xml : is_same u xml_space ≡ false = no_xml in (
      ap (λ (b : Bool). if b then Some (label_of u m) else None)
          (ap (λ (b : Bool). if b then is_same m (codes "value") else (not (is_same u xml_space) && is_free (before_name u))) rdf
          ∙ and_from (not (is_same u xml_space)) (is_free (before_name u)) (ap not xml) (ap is_free before ∙ free))
          ∙ ap (λ (z : List ℕ). Some (Property z (name_at_end u ++ m))) before ∙ ap (λ (z : List ℕ). Some (Property u (z ++ m))) none,
      reserved (is_same u xmlns_space) (is_same u xml_space) (is_same u []) xmlns xml some,
      some,
    )
  where
    no_xml : is_same u xml_space ≡ false
    no_xml = elim (cases_Bool (is_same u xml_space)) [
      | inl h ↦
          let e : u ≡ xml_space = same_octets u xml_space h in
          let wrong : 27 ≡ 36 = ap (λ (z : List ℕ). length (before_name z)) (sym e) ∙ ap length before ∙ ap length e in
          absurd (omega (arith, wrong))
      | inr h ↦ h
    ]

    reserved : (a b c : Bool) → a ≡ false → b ≡ false → c ≡ false → (a || differ false b || (c && true)) ≡ false
    reserved false false false e f g = refl
    reserved true b c e f g = absurd (cc)
    reserved false true c e f g = absurd (cc)
    reserved false false true e f g = absurd (cc)

space_same : (a b c d : List ℕ) → Property a c ≡ Property b d → a ≡ b
space_same a b c d h = cc

local_same : (a b c d : List ℕ) → Property a c ≡ Property b d → c ≡ d
local_same a b c d h = cc

pub label_again : (n : Name) (u m : List ℕ) → before_name (before_name n.space) ≡ before_name n.space → name_at_end (before_name n.space) ≡ []
    → label_in Structure n ≡ Some (Property u m) → IsAgain u m
label_again n u m before none h =
    let (is, label) = cond_some (is_property n) (label_of n.space n.local) (Property u m) h in
    by_space (is_same n.space rdf_space) refl is label
  where
    by_space : (b : Bool) → is_same n.space rdf_space ≡ b
        → (if b then is_same n.local (codes "value") else (not (is_same n.space xml_space) && is_free (before_name n.space))) ≡ true
        → label_of n.space n.local ≡ Property u m → IsAgain u m
    by_space true e is label =
        let space : n.space ≡ rdf_space = same_octets n.space rdf_space e in
        let local : n.local ≡ codes "value" = same_octets n.local (codes "value") is in
        let same : Property rdf_space (codes "value") ≡ Property u m =
        sym (ap (λ (z : List ℕ). label_of z n.local) space ∙ ap (λ (z : List ℕ). label_of rdf_space z) local) ∙ label in
        subst (λ (z : List ℕ). IsAgain z m) (space_same rdf_space u (codes "value") m same)
        (subst (λ (z : List ℕ). IsAgain rdf_space z) (local_same rdf_space u (codes "value") m same) (refl, refl, refl))
    by_space false e is label =
        subst (λ (z : List ℕ). IsAgain z m) (space_same (before_name n.space) u (name_at_end n.space ++ n.local) m label)
        (free_again (before_name n.space) m before none
        (and_parts (not (is_same n.space xml_space)) (is_free (before_name n.space)) is).1)
