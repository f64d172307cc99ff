-- White space that stands for itself is a text.
use Rattle.std.proofs.Common.{◌≡◌, ◌==◌, ◌||◌, ◌&&◌, ℕ, Bool, true, false, Option, Some, option_map, List, [], ◌∷◌, refl, sym, ap, subst, ◌∙◌}
use Rattle.std.proofs.lemmas.Bool.{eqb-true}
use Rattle.px_xmp_text.specs.Texts.{text_of, text_in, piece}
use Rattle.px_xmp_text.specs.declared.pieces.TextKind.TheVariants.{CharacterData}
use Rattle.px_xmp_marks.specs.Declarations.{every}
use Rattle.px_xmp_forms.specs.Forms.{is_white}
use Rattle.px_xmp.specs.calls.Steps.{is_plain_space}

pub first_of : (a b : Bool) → (a && b) ≡ true → a ≡ true
first_of true b h = refl
first_of false b h = absurd (cc)

pub rest_of : (a b : Bool) → (a && b) ≡ true → b ≡ true
rest_of true b h = h
rest_of false b h = absurd (cc)

abbrev IsOwnText : List ℕ → Type 0
IsOwnText x = (text_of CharacterData x ≡ Some x) × (is_white x ≡ true)

space_or : (o : ℕ) (P : ℕ → Type 0) → is_plain_space o ≡ true → P 32 → P 9 → P 10 → P o
space_or o P h a b c = by_first (o == 32) refl
  where
    by_third : (d : Bool) → (o == 10) ≡ d → d ≡ true → P o
    by_third true e g = subst P (sym (eqb-true o 10 e)) c
    by_third false e g = absurd (cc)

    by_second : (d : Bool) → (o == 9) ≡ d → (d || (o == 10)) ≡ true → P o
    by_second true e g = subst P (sym (eqb-true o 9 e)) b
    by_second false e g = by_third (o == 10) refl g

    by_first : (d : Bool) → (o == 32) ≡ d → P o
    by_first true e = subst P (sym (eqb-true o 32 e)) a
    by_first false e = by_second (o == 9) refl (ap (λ (q : Bool). (q || (o == 9)) || (o == 10)) (sym e) ∙ h)

pub own_text : (x : List ℕ) → every is_plain_space x ≡ true → IsOwnText x
unfolding text_in piece
own_text [] h = (refl, refl)
own_text (o ∷ x) h =
    let (text, white) = own_text x (rest_of (is_plain_space o) (every is_plain_space x) h) in
    space_or o (λ (p : ℕ). IsOwnText (p ∷ x)) (first_of (is_plain_space o) (every is_plain_space x) h)
    (ap (λ (q : Option (List ℕ)). option_map (λ t. 32 ∷ t) q) text, white)
    (ap (λ (q : Option (List ℕ)). option_map (λ t. 9 ∷ t) q) text, white)
    (ap (λ (q : Option (List ℕ)). option_map (λ t. 10 ∷ t) q) text, white)
