-- The numbers of types: 1 to 12, and 129.
use Rattle.std.proofs.Common.{◌≡◌, ◌<◌, ◌==◌, nat_le, ℕ, None, Some, List, [], ◌∷◌, ◌++◌, Bool, true, refl, ◌∙◌, arith}
use Rattle.std.specs.List.{find, list_all}
use Rattle.std.proofs.lemmas.Bool.{cond-false, ne_eqb, and_parts, leb-true}
use Rattle.px_field.specs.declared.forms.Form.{Form}
use Rattle.px_field.specs.declared.forms.Form.TheVariants.{Byte, Ascii, Short, Long, Rational, SByte, Undefined, SShort, SLong, SRational}
use Rattle.px_field.specs.declared.forms.Form.TheVariants.{Float, Double, Utf8}
use Rattle.px_field.specs.Forms.{code, form_of}

abbrev is_low : Form → Bool
is_low f = nat_le (code f) 12

abbrev low_forms : List Form
low_forms = Byte ∷ Ascii ∷ Short ∷ Long ∷ Rational ∷ SByte ∷ Undefined ∷ SShort ∷ SLong ∷ SRational ∷ Float ∷ Double ∷ []

-- types with numbers up to 12 are skipped
find_past_low : (n : ℕ) (fs gs : List Form) → list_all is_low fs ≡ true → 12 < n
    → find (λ f. code f == n) (fs ++ gs) ≡ find (λ f. code f == n) gs
find_past_low n [] gs h l = refl
find_past_low n (f ∷ fs) gs h l =
    let parts = and_parts (is_low f) (list_all is_low fs) h in
    let low = leb-true (code f) 12 parts.0 in
    cond-false (code f == n) (Some f) (find (λ g. code g == n) (fs ++ gs)) (ne_eqb (code f) n (λ e. omega (arith, low)))
    ∙ find_past_low n fs gs parts.1 l

form_of_above : (n : ℕ) → 12 < n → form_of n ≡ find (λ f. code f == n) (Utf8 ∷ [])
unfolding form_of
form_of_above n l = find_past_low n low_forms (Utf8 ∷ []) refl l

pub above_none : (n : ℕ) → 12 < n → (n ≡ 129 → ⊥) → form_of n ≡ None
above_none n l h = form_of_above n l ∙ cond-false (129 == n) (Some Utf8) None (ne_eqb 129 n (λ e. h (omega (arith, e))))
