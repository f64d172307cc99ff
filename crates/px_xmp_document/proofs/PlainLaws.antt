-- The name of a namespace is compared by its octets, since they mean themselves.
use Rattle.std.proofs.Common.{◌≡◌, ◌==◌, ◌&&◌, ◌||◌, ◌++◌, ℕ, Bool, true, false, Option, Some, option_map, option_and_then, List, [], ◌∷◌, length, drop, refl, sym, ap, ◌∙◌, inl, inr}
use Rattle.std.proofs.lemmas.Bool.{cases_Bool, cond-false, eqb-true, and_parts}
use Rattle.px_xmp_text.specs.Texts.{piece, text_in}
use Rattle.px_xmp_text.specs.declared.pieces.TextKind.TheVariants.{AttributeValue}
use Rattle.px_xmp_marks.specs.Declarations.{every}
use Rattle.px_xmp_document.specs.Bindings.{is_plain}
use Rattle.px_xmp_document.specs.Laws.{PlainSpacesAreTexts}

plain_differs : (o n : ℕ) → is_plain o ≡ true → is_plain n ≡ false → (o == n) ≡ false
plain_differs o n h f = elim (cases_Bool (o == n)) [
  | inr g ↦ g
  | inl t ↦ let wrong : true ≡ false = sym h ∙ ap is_plain (eqb-true o n t) ∙ f in absurd (cc)
]

plain_piece : (o : ℕ) (x : List ℕ) → is_plain o ≡ true → piece AttributeValue (o ∷ x) ≡ Some (o ∷ [], 1)
unfolding piece
plain_piece o x h =
    cond-false ((o == 38) && true) _ _ (ap (λ (b : Bool). b && true) (plain_differs o 38 h refl))
    ∙ cond-false (o == 13) _ _ (plain_differs o 13 h refl)
    ∙ cond-false ((o == 9) || (o == 10)) _ _ (ap (λ (b : Bool). b || (o == 10)) (plain_differs o 9 h refl) ∙ plain_differs o 10 h refl)

pub plain_text : PlainSpacesAreTexts
unfolding text_in
plain_text [] h = refl
plain_text (o ∷ u) h =
    let both = and_parts (is_plain o) (every is_plain u) h in
    ap (λ (q : Option (List ℕ × ℕ)). option_and_then (λ (p : List ℕ × ℕ). option_map (λ (t : List ℕ). p.0 ++ t) (text_in (length u) AttributeValue (drop p.1 (o ∷ u)))) q) (plain_piece o u both.0)
    ∙ ap (λ (q : Option (List ℕ)). option_map (λ (t : List ℕ). o ∷ t) q) (plain_text u both.1)
