use Rattle.std.proofs.Common.{◌++◌, ◌∙◌, List, ℕ, ap, refl}
use Rattle.px_xmp_text.specs.Texts.{normal_text}
use Rattle.px_xmp_forms.proofs.output.attribute_item.Goals as goal

pub text_element-requires : goal.text_element-requires
text_element-requires c =
    let (t, read, e) = c.in_ok-append_text.ensures.items in
    (t, c.as_slice.ensures.value ∙ e ∙ ap (λ (z : List ℕ). z ++ normal_text t) c.clear.ensures.items)

pub returns-clause-value : goal.returns-clause-value
returns-clause-value c =
    let (t, read, e) = c.in_ok-append_text.ensures.items in
    let form = c.as_slice.ensures.value ∙ e ∙ ap (λ (z : List ℕ). z ++ normal_text t) c.clear.ensures.items in
    (t, read, record { element = c.in_ok-element.ensures.value t form; place = refl })
