use Rattle.std.specs.Bool.{⊤}
use Rattle.std.proofs.Common.{subst, List, ℕ}
use Rattle.std.proofs.lemmas.Result.{err_from_is_err_and}
use Rattle.px_xmp.specs.Laws.{IsFormOfPacket, HasNoMeaning}
use Rattle.px_xmp.specs.Refusals.{IsRefused}
use Rattle.px_xmp.proofs.OwnFormLaws.{same_said, form_said, some_has, memory_wrong, memory_refused}
use Rattle.px_xmp.proofs.showing.unsorted_form_in.Goals as goal

pub returns-then-not-has_bag-clause-means : goal.returns-then-not-has_bag-clause-means
returns-then-not-has_bag-clause-means c =
    form_said c.form_is_its_own.ensures c.forms_decide.ensures c.args.packet.now c.in_ok-form.form.items c.in_ok-form.ensures.form
    c.in_ok-form.ensures.readable

pub returns-in_err-other-clause-refused : goal.returns-in_err-other-clause-refused
returns-in_err-other-clause-refused c =
    let p = err_from_is_err_and c.from_residual-in_err-other.result c.from_residual-in_err-other.ensures.1 in
    rw (p.1, p.2) (memory_wrong ⊤ ⊤ c.in_err-other.field-0.0 (HasNoMeaning c.args.packet.now) c.in_err-other.ensures.accepts)

pub returns-in_err-other-clause-layer : goal.returns-in_err-other-clause-layer
returns-in_err-other-clause-layer c =
    let p = err_from_is_err_and c.from_residual-in_err-other.result c.from_residual-in_err-other.ensures.1 in
    rw (p.1, p.2) (memory_refused ⊤ ⊤ c.in_err-other.field-0.0 (IsRefused c.args.packet.now) c.in_err-other.ensures.accepts)

pub returns-in-Some-clause-means : goal.returns-in-Some-clause-means
returns-in-Some-clause-means c =
    same_said c.forms_decide.ensures c.args.packet.now c.in-Some.other.items c.in_ok-form.form.items c.in_ok-form.ensures.form
    (subst (λ (z : List ℕ). IsFormOfPacket c.in-Some.other.items z) c.as_slice-2.ensures.value
    (some_has c.in_ok-other.field-0 c.in-Some.other (λ other. IsFormOfPacket other.items c.as_slice-2.result.now) c.in-Some.is
    c.in_ok-other.ensures.form))

pub returns-in-None-clause-means : goal.returns-in-None-clause-means
returns-in-None-clause-means c =
    form_said c.form_is_its_own.ensures c.forms_decide.ensures c.args.packet.now c.in_ok-form.form.items c.in_ok-form.ensures.form
    c.in_ok-form.ensures.readable

pub returns-in_err-other-clause-asked : goal.returns-in_err-other-clause-asked
returns-in_err-other-clause-asked c none = absurd (none (c.in_ok-form.ensures.narrow, c.in_ok-form.ensures.packet))

pub returns-in-Some-clause-asked : goal.returns-in-Some-clause-asked
returns-in-Some-clause-asked c none = absurd (none (c.in_ok-form.ensures.narrow, c.in_ok-form.ensures.packet))

pub returns-in-None-clause-asked : goal.returns-in-None-clause-asked
returns-in-None-clause-asked c none = absurd (none (c.in_ok-form.ensures.narrow, c.in_ok-form.ensures.packet))
