-- A part of characters that ASCII ends is characters, and so is what a text of characters means.
use Rattle.std.proofs.Common.{◌≡◌, ◌≤◌, ◌<◌, ◌==◌, ◌&&◌, ◌||◌, ◌⊎◌, inl, inr, ℕ, zero, suc, Bool, true, false, cond, List, [], ◌∷◌, ◌++◌, length, take, drop, get_or, refl, sym, ap, subst, ◌∙◌, arith, append_assoc, append-nil, nat_le, leb-true, leb-false, eqb-true, codes}
use Rattle.std.proofs.Common.{Option, Some, None, option_map, option_and_then}
use Rattle.std.proofs.lemmas.Bool.{cases_Bool, cond-true, cond-false, and_parts}
use Rattle.std.proofs.lemmas.List.{drop_at, take_at, take-append-drop, take-append-le, drop-append-le}
use Rattle.std.proofs.lemmas.Str.{encodes-append, encode_ascii, inside_one, char_from_byte, length-encode, len_utf8_ascii}
use Rattle.std.specs.List.{AllByRecursion}
use Rattle.std.specs.Char.{encode_utf8}
use Rattle.std.specs.Str.{encode_utf8_all}
use Rattle.std.proofs.lemmas.Option.{same_Some}
use Rattle.px_xmp_text.specs.References.{Counted, is_char, reference}
use Rattle.px_xmp_text.specs.Grammar.{IsReference, OnlyReferencesAreRead}
use Rattle.px_xmp_text.specs.Texts.{has_references, white_space, begins_with_feed, piece, text_in, text_of}
use Rattle.px_xmp_text.specs.declared.pieces.TextKind.{TextKind}
use Rattle.px_xmp_text.specs.declared.pieces.TextKind.TheVariants.{CharacterData, CdataSection, AttributeValue}
use Rattle.px_xmp_text.specs.Characters.{AreCharacters}

abbrev Allowed : List ℕ → Type 0
Allowed cs = AllByRecursion (λ c. is_char c ≡ true) cs

pub none_are : AreCharacters []
none_are = ([], tt, refl)

one_is : (c : ℕ) → is_char c ≡ true → AreCharacters (encode_utf8 c)
one_is c h = (c ∷ [], (h, tt), sym (append-nil (encode_utf8 c)))

ascii_is : (c : ℕ) → c < 128 → is_char c ≡ true → AreCharacters (c ∷ [])
ascii_is c l h = subst AreCharacters (encode_ascii c l) (one_is c h)

allowed_append : (cs ds : List ℕ) → Allowed cs → Allowed ds → Allowed (cs ++ ds)
allowed_append [] ds p q = q
allowed_append (c ∷ cs) ds p q = (p.0, allowed_append cs ds p.1 q)

pub characters_joined : (x y : List ℕ) → AreCharacters x → AreCharacters y → AreCharacters (x ++ y)
characters_joined x y (cs, p, e) (ds, q, f) = (
  cs ++ ds,
  allowed_append cs ds p q,
  ap (λ (z : List ℕ). z ++ y) e ∙ ap (λ (z : List ℕ). encode_utf8_all cs ++ z) f ∙ sym (encodes-append cs ds),
)

-- ---- an octet of ASCII is no part of another character

octet_after : (x b : List ℕ) (o : ℕ) → get_or (x ++ o ∷ b) (length x) 0 ≡ o
octet_after [] b o = refl
octet_after (d ∷ x) b o = octet_after x b o

split_at : (cs a b : List ℕ) (o : ℕ) → o < 128 → Allowed cs → a ++ o ∷ b ≡ encode_utf8_all cs → AreCharacters a × AreCharacters (o ∷ b)
split_at cs [] b o l p e = (none_are, (cs, p, e))
split_at [] (d ∷ a) b o l p e = absurd (cc)
split_at (c ∷ cs) (d ∷ a) b o l p e =
    let x : List ℕ = d ∷ a in
    let n : ℕ = length (encode_utf8 c) in
    elim (cases_Bool (nat_le n (length x))) [
      | inl t ↦
          let le : n ≤ length x = leb-true n (length x) t in
          let front : take n x ≡ encode_utf8 c =
          sym (take-append-le n x (o ∷ b) le) ∙ ap (take n) e ∙ take_at (encode_utf8 c) (encode_utf8_all cs) n refl in
          let back : drop n x ++ o ∷ b ≡ encode_utf8_all cs =
          sym (drop-append-le n x (o ∷ b) le) ∙ ap (drop n) e ∙ drop_at (encode_utf8 c) (encode_utf8_all cs) n refl in
          let parts = split_at cs (drop n x) b o l p.1 back in (
            subst AreCharacters (ap (λ (z : List ℕ). z ++ drop n x) (sym front) ∙ take-append-drop n x)
                (characters_joined (encode_utf8 c) (drop n x) (one_is c p.0) parts.0),
            parts.1,
          )
      | inr f ↦
          let less : length x < n = omega (arith, leb-false n (length x) f) in
          let at : get_or (x ++ o ∷ b) (length x) 0 ≡ o = octet_after x b o in
          let same : c ≡ o = inside_one c (encode_utf8_all cs) (x ++ o ∷ b) (length x) e less (omega (arith, at, l)) ∙ at in
          let one : n ≡ 1 = length-encode c ∙ len_utf8_ascii c (omega (arith, same, l)) in
          absurd (omega (arith, less, one))
    ]

pub characters_split : (a b : List ℕ) (o : ℕ) → o < 128 → AreCharacters (a ++ o ∷ b) → AreCharacters a × AreCharacters (o ∷ b)
characters_split a b o l (cs, p, e) = split_at cs a b o l p e

pub characters_past : (b : List ℕ) (o : ℕ) → o < 128 → AreCharacters (o ∷ b) → AreCharacters b
characters_past b o l ([], p, e) = absurd (cc)
characters_past b o l (c ∷ cs, p, e) =
    let same : c ≡ o = char_from_byte (o ∷ b) (encode_utf8_all cs) c e l (omega arith) in
    let one : encode_utf8 c ≡ o ∷ [] = ap encode_utf8 same ∙ encode_ascii o l in
    let whole : o ∷ b ≡ o ∷ encode_utf8_all cs = e ∙ ap (λ (z : List ℕ). z ++ encode_utf8_all cs) one in
    (cs, p.1, cc)

pub characters_after : (a b : List ℕ) (o : ℕ) → o < 128 → AreCharacters (a ++ o ∷ b) → AreCharacters b
characters_after a b o l h = characters_past b o l (characters_split a b o l h).1

-- ---- pieces

-- a piece is the octet o, or what characters mean that begin with o
abbrev IsSound : ℕ → List ℕ → List ℕ × ℕ → Type 0
IsSound o x q =
    ((q.0 ≡ o ∷ []) × (q.1 ≡ 1)) ⊎ ((o < 128) × AreCharacters q.0 × (AreCharacters (o ∷ x) → AreCharacters (drop q.1 (o ∷ x))))

reference_ends : (x : List ℕ) (n : ℕ) → IsReference x n → (s : List ℕ) × (x ≡ s ++ 59 ∷ []) × (is_char n ≡ true)
reference_ends x n (inl (inl (e, f))) = (codes "&amp", e, ap is_char f)
reference_ends x n (inl (inr (inl (e, f)))) = (codes "&lt", e, ap is_char f)
reference_ends x n (inl (inr (inr (inl (e, f))))) = (codes "&gt", e, ap is_char f)
reference_ends x n (inl (inr (inr (inr (inl (e, f)))))) = (codes "&quot", e, ap is_char f)
reference_ends x n (inl (inr (inr (inr (inr (e, f)))))) = (codes "&apos", e, ap is_char f)
reference_ends x n (inr (inl r)) =
    (codes "&#" ++ r.octets, r.whole ∙ sym (append_assoc (codes "&#") r.octets (59 ∷ [])), r.allowed)
reference_ends x n (inr (inr r)) =
    (codes "&#x" ++ r.octets, r.whole ∙ sym (append_assoc (codes "&#x") r.octets (59 ∷ [])), r.allowed)

reference_sound : OnlyReferencesAreRead → (o : ℕ) (x : List ℕ) (q : List ℕ × ℕ) (r : Option Counted) → (o == 38) ≡ true → reference (o ∷ x) ≡ r
    → option_map (λ r. (encode_utf8 r.0, r.1)) r ≡ Some q → IsSound o x q
reference_sound law o x q None t e h = absurd (cc)
reference_sound law o x q (Some r) t e h =
    let same = same_Some (encode_utf8 r.0, r.1) q h in
    let (spelled, rest, whole, size, is) = law (o ∷ x) r.0 r.1 e in
    let (s, ends, allowed) = reference_ends spelled r.0 is in
    let follows : drop r.1 (o ∷ x) ≡ rest = ap (drop r.1) whole ∙ drop_at spelled rest r.1 (sym size) in
    let parts : o ∷ x ≡ s ++ 59 ∷ rest = whole ∙ ap (λ (z : List ℕ). z ++ rest) ends ∙ append_assoc s (59 ∷ []) rest in
    subst (IsSound o x) same (inr (
      omega (arith, eqb-true o 38 t),
      one_is r.0 allowed,
      λ k. subst AreCharacters (sym follows) (characters_after s rest 59 (omega arith) (subst AreCharacters parts k)),
    ))

white_is : (k : TextKind) → AreCharacters (white_space k 10 ∷ [])
white_is CharacterData = ascii_is 10 (omega arith) refl
white_is CdataSection = ascii_is 10 (omega arith) refl
white_is AttributeValue = ascii_is 32 (omega arith) refl

ended : (o : ℕ) (x : List ℕ) → o < 128 → AreCharacters (o ∷ x) → AreCharacters (drop (cond (begins_with_feed x) 2 1) (o ∷ x))
ended o [] l h = none_are
ended o (p ∷ x) l h = by_feed (p == 10) refl
  where
    by_feed : (b : Bool) → (p == 10) ≡ b → AreCharacters (drop (cond b 2 1) (o ∷ p ∷ x))
    by_feed true e = characters_past x p (omega (arith, eqb-true p 10 e)) (characters_past (p ∷ x) o l h)
    by_feed false e = characters_past (p ∷ x) o l h

gap_is : (k : TextKind) (o : ℕ) → ((o == 9) || (o == 10)) ≡ true → (o < 128) × AreCharacters (white_space k o ∷ [])
gap_is k o h = by_octet (o == 9) (o == 10) refl refl h
  where
    by_octet : (a b : Bool) → (o == 9) ≡ a → (o == 10) ≡ b → (a || b) ≡ true → (o < 128) × AreCharacters (white_space k o ∷ [])
    by_octet true b e f h = (omega (arith, eqb-true o 9 e), subst (λ (z : ℕ). AreCharacters (white_space k z ∷ [])) (sym (eqb-true o 9 e)) (tab k))
      where
        tab : (k : TextKind) → AreCharacters (white_space k 9 ∷ [])
        tab CharacterData = ascii_is 9 (omega arith) refl
        tab CdataSection = ascii_is 9 (omega arith) refl
        tab AttributeValue = ascii_is 32 (omega arith) refl
    by_octet false true e f h = (omega (arith, eqb-true o 10 f), subst (λ (z : ℕ). AreCharacters (white_space k z ∷ [])) (sym (eqb-true o 10 f)) (white_is k))
    by_octet false false e f h = absurd (cc)

piece_sound : OnlyReferencesAreRead → (k : TextKind) (o : ℕ) (x : List ℕ) (q : List ℕ × ℕ) → piece k (o ∷ x) ≡ Some q → IsSound o x q
unfolding piece
piece_sound law k o x q h = elim (cases_Bool ((o == 38) && has_references k)) [
  | inl t ↦
      reference_sound law o x q (reference (o ∷ x)) (and_parts (o == 38) (has_references k) t).0 refl
      (sym (cond-true ((o == 38) && has_references k) _ _ t) ∙ h)
  | inr f ↦
      let h1 = sym (cond-false ((o == 38) && has_references k) _ _ f) ∙ h in elim (cases_Bool (o == 13)) [
        | inl t ↦
            let e = same_Some _ q (sym (cond-true (o == 13) _ _ t) ∙ h1) in
            let l : o < 128 = omega (arith, eqb-true o 13 t) in
            subst (IsSound o x) e (inr (l, white_is k, ended o x l))
        | inr f ↦
            let h2 = sym (cond-false (o == 13) _ _ f) ∙ h1 in elim (cases_Bool ((o == 9) || (o == 10))) [
              | inl t ↦
                  let e = same_Some _ q (sym (cond-true ((o == 9) || (o == 10)) _ _ t) ∙ h2) in
                  let g = gap_is k o t in
                  subst (IsSound o x) e (inr (g.0, g.1, characters_past x o g.0))
              | inr f ↦
                  let e = same_Some _ q (sym (cond-false ((o == 9) || (o == 10)) _ _ f) ∙ h2) in
                  subst (IsSound o x) e (inl (refl, refl))
            ]
      ]
]

-- ---- texts

abbrev KeepsCharacters : ℕ → TextKind → Type 0
KeepsCharacters n k = (x a t : List ℕ) → AreCharacters (a ++ x) → text_in n k x ≡ Some t → AreCharacters (a ++ t)

after_piece : (n : ℕ) (k : TextKind) (o : ℕ) (x a t : List ℕ) (q : List ℕ × ℕ) (r : Option (List ℕ)) → KeepsCharacters n k → IsSound o x q
    → AreCharacters (a ++ o ∷ x) → text_in n k (drop q.1 (o ∷ x)) ≡ r → option_map (λ s. q.0 ++ s) r ≡ Some t → AreCharacters (a ++ t)
after_piece n k o x a t q None ih sound h e f = absurd (cc)
after_piece n k o x a t q (Some s) ih (inl (one, size)) h e f =
    let same : o ∷ s ≡ t = ap (λ (z : List ℕ). z ++ s) (sym one) ∙ same_Some (q.0 ++ s) t f in
    let rest : text_in n k x ≡ Some s = ap (λ (m : ℕ). text_in n k (drop m (o ∷ x))) (sym size) ∙ e in
    let all : AreCharacters ((a ++ o ∷ []) ++ s) =
    ih x (a ++ o ∷ []) s (subst AreCharacters (sym (append_assoc a (o ∷ []) x)) h) rest in
    subst (λ (z : List ℕ). AreCharacters (a ++ z)) same (subst AreCharacters (append_assoc a (o ∷ []) s) all)
after_piece n k o x a t q (Some s) ih (inr (low, made, left)) h e f =
    let parts = characters_split a x o low h in
    let rest : AreCharacters s = ih (drop q.1 (o ∷ x)) [] s (left parts.1) e in
    subst (λ (z : List ℕ). AreCharacters (a ++ z)) (same_Some (q.0 ++ s) t f) (characters_joined a (q.0 ++ s) parts.0 (characters_joined q.0 s made rest))

by_piece : (n : ℕ) (k : TextKind) (o : ℕ) (x a t : List ℕ) (p : Option (List ℕ × ℕ)) → KeepsCharacters n k
    → ((q : List ℕ × ℕ) → p ≡ Some q → IsSound o x q) → AreCharacters (a ++ o ∷ x)
    → option_and_then (λ (q : List ℕ × ℕ). option_map (λ (s : List ℕ). q.0 ++ s) (text_in n k (drop q.1 (o ∷ x)))) p ≡ Some t → AreCharacters (a ++ t)
by_piece n k o x a t None ih sound h e = absurd (cc)
by_piece n k o x a t (Some q) ih sound h e = after_piece n k o x a t q (text_in n k (drop q.1 (o ∷ x))) ih (sound q refl) h refl e

text_in_is : OnlyReferencesAreRead → (n : ℕ) (k : TextKind) → KeepsCharacters n k
unfolding text_in
text_in_is law n k [] a t h e = subst (λ (z : List ℕ). AreCharacters (a ++ z)) (same_Some [] t e) h
text_in_is law zero k (o ∷ x) a t h e = absurd (cc)
text_in_is law (suc n) k (o ∷ x) a t h e =
    by_piece n k o x a t (piece k (o ∷ x)) (λ y b s j f. text_in_is law n k y b s j f) (piece_sound law k o x) h e

-- the text of characters is characters
pub text_is : OnlyReferencesAreRead → (k : TextKind) (x t : List ℕ) → AreCharacters x → text_of k x ≡ Some t → AreCharacters t
text_is law k x t h e = text_in_is law (length x) k x [] t h e
