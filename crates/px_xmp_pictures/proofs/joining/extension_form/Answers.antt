use Rattle.std.specs.Prelude.{⊤}
use Rattle.std.proofs.Common.{◌∙◌, List, ℕ, None, sym, subst}
use Rattle.std.proofs.lemmas.Result.{err_from_is_err_and}
use Rattle.px_jpeg.specs.Pieces.{pieces}
use Rattle.px_xmp.specs.Accepted.{PacketFits}
use Rattle.px_xmp_pictures.specs.Counts.{unjoined}
use Rattle.px_xmp_pictures.specs.Extension.{extension_pieces, IsExtension}
use Rattle.px_xmp_pictures.proofs.LeftLaws.{refused_fits, left_map}
use Rattle.px_xmp_pictures.proofs.OrderLaws.{extension_once}
use Rattle.px_xmp_pictures.proofs.joining.extension_form.Goals as goal

pub returns-in_err-form-clause-left : goal.returns-in_err-form-clause-left
returns-in_err-form-clause-left c =
    let failed = c.from_residual-in_err-form in
    let p = err_from_is_err_and failed.result failed.ensures.1 in
    let e = c.in_err-form.field-0.0 in
    let b = c.args.front.now.octets in
    let all = extension_pieces (pieces b None c.args.front.now.parts) in
    rw (p.1, p.2) (left_map ⊤ ⊤ (PacketFits c.as_slice.result.now → ⊥)
    ((x : List ℕ) → IsExtension b all c.args.name.now x → PacketFits x → ⊥) (unjoined e)
    (λ h x i fits. h (subst PacketFits
    (extension_once b all c.args.name.now x c.in_ok-octets.octets.items i c.in_ok-octets.ensures.extension
    ∙ sym c.as_slice.ensures.value) fits))
    (refused_fits ⊤ ⊤ e c.as_slice.result.now c.in_err-form.ensures.accepts))
