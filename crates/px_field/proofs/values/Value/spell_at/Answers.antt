use Rattle.std.proofs.Common.{◌≡◌, ◌∙◌, List, ℕ, take, drop, Some, sym, ap}
use Rattle.std.proofs.lemmas.List.{take_at, drop_at}
use Rattle.px_field.specs.declared.forms.Element.{Element}
use Rattle.px_field.specs.Values.{form_in, encode}
use Rattle.px_field.specs.lemmas.ElementLaws.{length_encode}
use Rattle.px_field.proofs.values.Value.spell_at.Goals as goal

pub returns-clause-width : goal.returns-clause-width
returns-clause-width c =
    c.encode_element.ensures.width ∙ length_encode c.args.order (form_in c.args.self.now.kind) c.element.result c.element.ensures.range

pub returns-clause-front : goal.returns-clause-front
returns-clause-front c e here =
    let some : Some c.element.result ≡ Some e = sym c.element.ensures.element ∙ here in
    let same : c.element.result ≡ e = cc in
    let w = c.encode_element.result in
    let x = encode c.args.order c.element.result in
    ap (λ (l : List ℕ). take w l) c.encode_element.ensures.front
    ∙ take_at x (drop w c.args.into.now) w (sym c.encode_element.ensures.width)
    ∙ ap (λ (d : Element). encode c.args.order d) same

pub returns-clause-rest : goal.returns-clause-rest
returns-clause-rest c =
    let w = c.encode_element.result in
    let x = encode c.args.order c.element.result in
    ap (λ (l : List ℕ). drop w l) c.encode_element.ensures.front ∙ drop_at x (drop w c.args.into.now) w (sym c.encode_element.ensures.width)
