use Rattle.std.specs.Prelude.{⊤}
use Rattle.std.proofs.Common.{sym, ap, ◌∙◌}
use Rattle.std.proofs.lemmas.Result.{err_from_is_err_and}
use Rattle.px_pictures.specs.Xmp.{has_part}
use Rattle.px_xmp_pictures.specs.Joined.{label}
use Rattle.px_xmp_pictures.proofs.LeftLaws.{refused_left, named_left}
use Rattle.px_xmp_pictures.proofs.joining.plain_form.Goals as goal

pub returns-in_err-form-clause-left : goal.returns-in_err-form-clause-left
returns-in_err-form-clause-left c =
    let p = err_from_is_err_and c.from_residual.result c.from_residual.ensures.1 in
    rw (p.1, p.2) (refused_left ⊤ ⊤ c.in_err-form.field-0.0 c.args.packet.now c.in_err-form.ensures.accepts)

pub returns-then-has_part-clause-left : goal.returns-then-has_part-clause-left
returns-then-has_part-clause-left c =
    named_left c.args.packet.now c.in_ok-form.form.items c.in_ok-form.ensures.form
    (ap (has_part label) (sym c.as_slice.ensures.value) ∙ sym c.has_part.ensures ∙ c.if-has_part.true)
