use Rattle.std.proofs.Common.{◌≡◌, ◌+◌, ◌*◌, ◌-◌, ℕ, List, take, drop, Some, sym, ap, ◌∙◌, refl, arith}
use Rattle.px_field.specs.declared.forms.Element.{Element}
use Rattle.px_field.specs.Forms.{size}
use Rattle.px_field.specs.Values.{element_of, count_in}
use Rattle.px_field.specs.lemmas.ValueLaws.{get_elements}
use Rattle.px_field.proofs.values.element_in.Goals as goal

pub returns : goal.returns
returns c =
    let f = c.args.form in
    let raw = c.args.raw.now in
    let width : size f ≡ c.size-size.result = sym c.size-size.ensures in
    let at : ℕ = c.args.i * c.size-size.result in
    let len : (at + c.size-size.result) - at ≡ c.size-size.result = omega arith in
    let same : take (size f) (drop at raw) ≡ take ((at + c.size-size.result) - at) (drop at raw) = rw (len, width) refl in
    get_elements c.args.order f (count_in f raw) c.args.i at raw c.requires.inside (ap (λ (n : ℕ). c.args.i * n) (sym width))
    ∙ ap (λ (l : List ℕ). Some (element_of c.args.order f l)) same
    ∙ ap (λ (e : Element). Some e) (sym c.read_element.ensures)
