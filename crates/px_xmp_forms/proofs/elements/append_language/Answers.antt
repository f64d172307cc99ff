use Rattle.std.proofs.Common.{◌≡◌, ◌++◌, ◌∙◌, List, ℕ, sym, ap, subst}
use Rattle.std.specs.Str.{str_to_ascii_lowercase}
use Rattle.std.proofs.lemmas.Result.{on_ok_weaker}
use Rattle.px_xmp_text.specs.Values.{Without}
use Rattle.px_xmp_forms.specs.Forms.{language_octets}
use Rattle.px_xmp_forms.proofs.FormLaws.{without_from, both_has}
use Rattle.px_xmp_forms.proofs.elements.append_language.Goals as goal

pub returns-clause-items : goal.returns-clause-items
returns-clause-items c =
    let lowered : c.as_slice-language.result.now ≡ str_to_ascii_lowercase c.args.language.now = c.as_slice-language.ensures.value ∙ c.in_ok-octets.ensures.value in
    on_ok_weaker c.append_attribute.result (λ e. e ∙ ap (λ (z : List ℕ). c.args.out.now.items ++ language_octets z) lowered) c.append_attribute.ensures.items

pub returns-clause-can : goal.returns-clause-can
returns-clause-can c =
    let P : List ℕ → Type 0 = λ z. Without 34 z in
    let lowered : c.as_slice-language.result.now ≡ str_to_ascii_lowercase c.args.language.now = c.as_slice-language.ensures.value ∙ c.in_ok-octets.ensures.value in
    on_ok_weaker c.append_attribute.result (λ e. subst P lowered (without_from 34 c.as_slice-language.result.now (sym c.if-has.ensures)))
    c.append_attribute.ensures.items

pub returns-then-has-clause-accepts : goal.returns-then-has-clause-accepts
returns-then-has-clause-accepts c can short =
    let P : List ℕ → Type 0 = λ z. Without 34 z in
    let lowered : c.as_slice-language.result.now ≡ str_to_ascii_lowercase c.args.language.now = c.as_slice-language.ensures.value ∙ c.in_ok-octets.ensures.value in
    absurd (both_has 34 c.as_slice-language.result.now c.if-has.ensures (subst P (sym lowered) can))
