-- The normal form of white space is at most twice as long as the octets that say it.
use Rattle.std.proofs.Common.{◌≡◌, ◌≤◌, ◌<◌, ◌*◌, ◌==◌, ◌&&◌, ◌||◌, ◌++◌, ◌∙◌, ℕ, zero, suc, Bool, true, false, cond, List, [], ◌∷◌, length, drop, codes, inl, inr, refl, sym, ap, subst, arith, append-nil, length-append, length-drop, eqb-true}
use Rattle.std.proofs.Common.{Option, Some, None, option_map, option_and_then}
use Rattle.std.proofs.lemmas.Bool.{cases_Bool, cond-true, cond-false}
use Rattle.std.proofs.lemmas.Str.{char_from_byte, encode_ascii}
use Rattle.std.specs.Char.{encode_utf8}
use Rattle.std.proofs.lemmas.Option.{same_Some}
use Rattle.px_xmp_text.specs.References.{Counted, reference}
use Rattle.px_xmp_text.specs.Grammar.{IsReference, OnlyReferencesAreRead}
use Rattle.px_xmp_text.specs.Texts.{has_references, white_space, begins_with_feed, piece, text_in, text_of, normal_text}
use Rattle.px_xmp_text.specs.declared.pieces.TextKind.{TextKind}
use Rattle.px_xmp_text.specs.declared.pieces.TextKind.TheVariants.{CharacterData, CdataSection, AttributeValue}
use Rattle.px_xmp_forms.specs.Forms.{is_space, is_white}
use Rattle.px_xmp.proofs.WhiteLaws.{first_of, rest_of}
use Rattle.px_xmp.proofs.CharacterLaws.{normal_append}

-- ---- white space

space_low : (o : ℕ) → is_space o ≡ true → o < 128
space_low o h = grind arith

-- what holds of each octet of white space holds of one
space_is : (o : ℕ) (P : ℕ → Type 0) → is_space o ≡ true → P 32 → P 9 → P 10 → P 13 → P o
space_is o P h a b c d = by_first (o == 32) refl
  where
    by_fourth : (e : Bool) → (o == 13) ≡ e → e ≡ true → P o
    by_fourth true f g = subst P (sym (eqb-true o 13 f)) d
    by_fourth false f g = absurd (cc)

    by_third : (e : Bool) → (o == 10) ≡ e → (e || (o == 13)) ≡ true → P o
    by_third true f g = subst P (sym (eqb-true o 10 f)) c
    by_third false f g = by_fourth (o == 13) refl g

    by_second : (e : Bool) → (o == 9) ≡ e → (e || (o == 10) || (o == 13)) ≡ true → P o
    by_second true f g = subst P (sym (eqb-true o 9 f)) b
    by_second false f g = by_third (o == 10) refl g

    by_first : (e : Bool) → (o == 32) ≡ e → P o
    by_first true f = subst P (sym (eqb-true o 32 f)) a
    by_first false f = by_second (o == 9) refl (ap (λ (q : Bool). q || (o == 9) || (o == 10) || (o == 13)) (sym f) ∙ h)

white_octet : (o : ℕ) → is_space o ≡ true → length (normal_text (o ∷ [])) ≤ 5
white_octet o h =
    space_is o (λ (p : ℕ). length (normal_text (p ∷ [])) ≤ 5) h (omega arith) (omega arith) (omega arith) (omega arith)

-- an octet of white space that stands for itself is no carriage return
plain_octet : (o : ℕ) → is_space o ≡ true → (o == 13) ≡ false → length (normal_text (o ∷ [])) ≤ 1
plain_octet o h k =
    space_is o (λ (p : ℕ). (p == 13) ≡ false → length (normal_text (p ∷ [])) ≤ 1) h (λ e. omega arith) (λ e. omega arith) (λ e. omega arith)
    (λ e. absurd (cc)) k

white_parts : (s t : List ℕ) → is_white (s ++ t) ≡ true → (is_white s ≡ true) × (is_white t ≡ true)
white_parts [] t h = (refl, h)
white_parts (o ∷ s) t h =
    let (a, b) = white_parts s t (rest_of (is_space o) (is_white (s ++ t)) h) in
    (ap (λ (q : Bool). q && is_white s) (first_of (is_space o) (is_white (s ++ t)) h) ∙ a, b)

white_character : (c : ℕ) → is_white (encode_utf8 c) ≡ true → length (normal_text (encode_utf8 c)) ≤ 5
white_character c h = by (encode_utf8 c) refl h
  where
    by : (e : List ℕ) → encode_utf8 c ≡ e → is_white e ≡ true → length (normal_text (encode_utf8 c)) ≤ 5
    by [] same white = omega (arith, ap (λ (q : List ℕ). length (normal_text q)) same)
    by (o ∷ s) same white =
        let space = first_of (is_space o) (is_white s) white in
        let low : o < 128 = space_low o space in
        let is : c ≡ o = char_from_byte (o ∷ s) [] c (sym same ∙ sym (append-nil (encode_utf8 c))) low (omega arith) in
        let one : encode_utf8 c ≡ o ∷ [] = ap encode_utf8 is ∙ encode_ascii o low in
        omega (arith, ap (λ (q : List ℕ). length (normal_text q)) one, white_octet o space)

-- ---- pieces

-- what a piece at the start of x means, if it is white space, has a short normal form
pub record IsShort (x : List ℕ) (q : List ℕ × ℕ) : Type 0 where
  pub within : q.1 ≤ length x
  pub short : is_white q.0 ≡ true → length (normal_text q.0) ≤ 2 * q.1

reference_size : (s : List ℕ) (n : ℕ) → IsReference s n → 4 ≤ length s
reference_size s n (inl (inl (e, f))) = omega (arith, ap length e)
reference_size s n (inl (inr (inl (e, f)))) = omega (arith, ap length e)
reference_size s n (inl (inr (inr (inl (e, f))))) = omega (arith, ap length e)
reference_size s n (inl (inr (inr (inr (inl (e, f)))))) = omega (arith, ap length e)
reference_size s n (inl (inr (inr (inr (inr (e, f)))))) = omega (arith, ap length e)
reference_size s n (inr (inl r)) =
    omega (arith, ap length r.whole, length-append (codes "&#") (r.octets ++ 59 ∷ []), length-append r.octets (59 ∷ []), r.some)
reference_size s n (inr (inr r)) =
    omega (arith, ap length r.whole, length-append (codes "&#x") (r.octets ++ 59 ∷ []), length-append r.octets (59 ∷ []), r.some)

reference_short : OnlyReferencesAreRead → (x : List ℕ) (q : List ℕ × ℕ) (r : Option Counted) → reference x ≡ r
    → option_map (λ r. (encode_utf8 r.0, r.1)) r ≡ Some q → IsShort x q
reference_short law x q None e h = absurd (cc)
reference_short law x q (Some r) e h =
    let (spelled, rest, whole, size, is) = law x r.0 r.1 e in
    subst (IsShort x) (same_Some (encode_utf8 r.0, r.1) q h) (record {
      within = omega (arith, ap length whole, length-append spelled rest, size);
      short = λ white. omega (arith, white_character r.0 white, size, reference_size spelled r.0 is);
    })

feed_size : (o : ℕ) (x : List ℕ) → cond (begins_with_feed x) 2 1 ≤ length (o ∷ x)
feed_size o [] = omega arith
feed_size o (p ∷ x) = by (p == 10)
  where
    by : (b : Bool) → cond b 2 1 ≤ length (o ∷ p ∷ x)
    by true = omega arith
    by false = omega arith

some_size : (b : Bool) → 1 ≤ cond b 2 1
some_size true = omega arith
some_size false = omega arith

white_size : (k : TextKind) → length (normal_text (white_space k 10 ∷ [])) ≤ 1
white_size CharacterData = omega arith
white_size CdataSection = omega arith
white_size AttributeValue = omega arith

gap_size : (k : TextKind) (o : ℕ) → (o == 13) ≡ false → is_white (white_space k o ∷ []) ≡ true → length (normal_text (white_space k o ∷ [])) ≤ 1
gap_size CharacterData o h white = plain_octet o (first_of (is_space o) true white) h
gap_size CdataSection o h white = plain_octet o (first_of (is_space o) true white) h
gap_size AttributeValue o h white = omega arith

piece_short : OnlyReferencesAreRead → (k : TextKind) (o : ℕ) (x : List ℕ) (q : List ℕ × ℕ) → piece k (o ∷ x) ≡ Some q → IsShort (o ∷ x) q
unfolding piece
piece_short law k o x q h = elim (cases_Bool ((o == 38) && has_references k)) [
  | inl t ↦
      reference_short law (o ∷ x) q (reference (o ∷ x)) refl (sym (cond-true ((o == 38) && has_references k) _ _ t) ∙ h)
  | inr f ↦
      let h1 = sym (cond-false ((o == 38) && has_references k) _ _ f) ∙ h in elim (cases_Bool (o == 13)) [
        | inl t ↦
            let e = same_Some _ q (sym (cond-true (o == 13) _ _ t) ∙ h1) in
            subst (IsShort (o ∷ x)) e (record {
              within = feed_size o x;
              short = λ white. omega (arith, white_size k, some_size (begins_with_feed x));
            })
        | inr g ↦
            let h2 = sym (cond-false (o == 13) _ _ g) ∙ h1 in elim (cases_Bool ((o == 9) || (o == 10))) [
              | inl t ↦
                  let e = same_Some _ q (sym (cond-true ((o == 9) || (o == 10)) _ _ t) ∙ h2) in
                  subst (IsShort (o ∷ x)) e (record { within = omega arith; short = λ white. omega (arith, gap_size k o g white) })
              | inr d ↦
                  let e = same_Some _ q (sym (cond-false ((o == 9) || (o == 10)) _ _ d) ∙ h2) in
                  subst (IsShort (o ∷ x)) e (record {
                    within = omega arith;
                    short = λ white. omega (arith, plain_octet o (first_of (is_space o) true white) g);
                  })
            ]
      ]
]

-- ---- texts

abbrev IsShortText : List ℕ → List ℕ → Type 0
IsShortText x t = is_white t ≡ true → length (normal_text t) ≤ 2 * length x

after_piece : (k : TextKind) (x t : List ℕ) (q : List ℕ × ℕ) (r : Option (List ℕ)) → ((s : List ℕ) → r ≡ Some s → IsShortText (drop q.1 x) s)
    → IsShort x q → option_map (λ s. q.0 ++ s) r ≡ Some t → IsShortText x t
after_piece k x t q None ih short f white = absurd (cc)
after_piece k x t q (Some s) ih short f white =
    let same : q.0 ++ s ≡ t = same_Some (q.0 ++ s) t f in
    let (first, rest) = white_parts q.0 s (ap is_white same ∙ white) in
    omega (
      arith,
      ap (λ (z : List ℕ). length (normal_text z)) same,
      ap length (normal_append q.0 s),
      length-append (normal_text q.0) (normal_text s),
      short.short first,
      short.within,
      ih s refl rest,
      length-drop q.1 x,
    )

by_piece : (n : ℕ) (k : TextKind) (x t : List ℕ) (p : Option (List ℕ × ℕ))
    → ((q : List ℕ × ℕ) (s : List ℕ) → text_in n k (drop q.1 x) ≡ Some s → IsShortText (drop q.1 x) s)
    → ((q : List ℕ × ℕ) → p ≡ Some q → IsShort x q)
    → option_and_then (λ (q : List ℕ × ℕ). option_map (λ (s : List ℕ). q.0 ++ s) (text_in n k (drop q.1 x))) p ≡ Some t → IsShortText x t
by_piece n k x t None ih short e = absurd (cc)
by_piece n k x t (Some q) ih short e = after_piece k x t q (text_in n k (drop q.1 x)) (ih q) (short q refl) e

text_in_short : OnlyReferencesAreRead → (n : ℕ) (k : TextKind) (x t : List ℕ) → text_in n k x ≡ Some t → IsShortText x t
unfolding text_in
text_in_short law n k [] t e white = omega (arith, ap (λ (z : List ℕ). length (normal_text z)) (same_Some [] t e))
text_in_short law zero k (o ∷ x) t e white = absurd (cc)
text_in_short law (suc n) k (o ∷ x) t e white =
    by_piece n k (o ∷ x) t (piece k (o ∷ x)) (λ q s f. text_in_short law n k (drop q.1 (o ∷ x)) s f) (piece_short law k o x) e white

pub white_short : OnlyReferencesAreRead → (k : TextKind) (x t : List ℕ) → text_of k x ≡ Some t → is_white t ≡ true
    → length (normal_text t) ≤ 2 * length x
white_short law k x t e white = text_in_short law (length x) k x t e white
