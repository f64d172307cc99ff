use Rattle.std.proofs.lemmas.Result.{err_from_is_err_and}
use Rattle.px_xmp.proofs.packet.check_in.Goals as goal

pub returns-in_err-normal_form_in-clause-accepts : goal.returns-in_err-normal_form_in-clause-accepts
returns-in_err-normal_form_in-clause-accepts c h =
    let p = err_from_is_err_and c.from_residual.result c.from_residual.ensures.1 in
    rw (p.1, p.2) (c.in_err-normal_form_in.ensures.accepts h)
