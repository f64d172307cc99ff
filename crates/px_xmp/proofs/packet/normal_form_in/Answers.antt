use Rattle.std.proofs.Common.{◌≡◌}
use Rattle.px_xmp.specs.Laws.{IsFormOfPacket}
use Rattle.px_xmp.proofs.FormedLaws.{if_ok_map}
use Rattle.px_xmp.proofs.OwnFormLaws.{own_form}
use Rattle.px_xmp.proofs.packet.normal_form_in.Goals as goal

pub returns-clause-own : goal.returns-clause-own
returns-clause-own c form = c.form_in.ensures.accepts (c.forms_fit.ensures c.args.packet.now form)

pub returns-clause-same : goal.returns-clause-same
returns-clause-same c readable =
    let x = c.args.packet.now in
    if_ok_map c.form_in.result (λ form. IsFormOfPacket x form.items) (λ form. form.items ≡ x) (λ form is.
    own_form c.form_is_its_own.ensures c.one_meaning.ensures x form.items readable is) c.form_in.ensures.form
