use Rattle.std.proofs.Common.{length, ◌/◌, ℕ, sym, ap, ◌∙◌}
use Rattle.px_field.specs.Values.{Value}
use Rattle.px_field.proofs.ViewLemmas.{length_shown}
use Rattle.px_field.proofs.values.Value.count.Goals as goal

pub returns-clause-count : goal.returns-clause-count
returns-clause-count c =
    let v = c.self.inside in
    ap (λ (n : ℕ). length v.raw.now / n) c.size.ensures
    ∙ sym (length_shown v.widened v.order v.form v.raw.now)
    ∙ ap (λ (w : Value). length w.elements) c.self.view_is
