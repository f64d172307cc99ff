use Rattle.std.proofs.Common.{is_some, ap, ◌∙◌}
use Rattle.px_xmp.proofs.OpeningLaws.{none_next}
use Rattle.std.specs.Bool.{⊤}
use Rattle.std.proofs.lemmas.Result.{err_from_is_err_and}
use Rattle.std.proofs.lemmas.Bool.{both_ways}
use Rattle.px_xmp.proofs.AheadLaws.{memory_says}
use Rattle.px_xmp.proofs.opening.put_resource.Goals as goal

pub returns-then-not-is_absolute-clause-accepts : goal.returns-then-not-is_absolute-clause-accepts
returns-then-not-is_absolute-clause-accepts c more listed none absolute fits =
    absurd (both_ways c.is_absolute.result c.if-not-is_absolute.true (c.is_absolute.ensures.1 absolute))

pub returns-in_err-put_resource-clause-accepts : goal.returns-in_err-put_resource-clause-accepts
returns-in_err-put_resource-clause-accepts c more listed none absolute fits =
    let p = err_from_is_err_and c.from_residual.result c.from_residual.ensures.1 in
    rw (p.1, p.2) (memory_says ⊤ ⊤ c.in_err-put_resource.field-0.0 (c.in_err-put_resource.ensures.accepts fits))

pub returns-then-is_some-clause-accepts : goal.returns-then-is_some-clause-accepts
returns-then-is_some-clause-accepts c more listed none absolute fits =
    absurd (both_ways c.is_some.result (c.is_some.ensures ∙ ap is_some (none_next c.next_plain.result more none (c.next_plain.ensures.value more listed))) c.if-is_some.true)
