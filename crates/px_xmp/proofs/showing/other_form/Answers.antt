use Rattle.std.proofs.Common.{◌≡◌, ◌∙◌, sym, subst, List, ℕ}
use Rattle.std.specs.Cmp.Lexicographic.{same_text}
use Rattle.px_xmp.specs.Laws.{IsFormOfPacket}
use Rattle.px_xmp.proofs.OwnFormLaws.{some_has}
use Rattle.px_xmp.proofs.showing.other_form.Goals as goal

pub returns-then-eq-2-clause-form : goal.returns-then-eq-2-clause-form
returns-then-eq-2-clause-form c =
    let read = some_has c.in_ok-again.field-0 c.in-Some-2.again (λ form. IsFormOfPacket c.as_slice-2.result.now form.items) c.in-Some-2.is
    c.in_ok-again.ensures.form in
    let same : c.in-Some-2.again.items ≡ c.args.form.now =
    sym c.as_slice-3.ensures.value ∙ same_text c.as_slice-3.result.now c.args.form.now (sym c.if-eq-2.true ∙ c.eq-2.ensures) in
    subst (λ (z : List ℕ). IsFormOfPacket c.in-Some.other.items z) same
    (subst (λ (z : List ℕ). IsFormOfPacket z c.in-Some-2.again.items) c.as_slice-2.ensures.value read)
