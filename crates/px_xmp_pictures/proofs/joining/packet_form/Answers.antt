use Rattle.std.specs.Prelude.{⊤}
use Rattle.std.proofs.Common.{List, ℕ, Err, ap, subst, ◌∙◌}
use Rattle.std.proofs.lemmas.Result.{err_from_is_err_and}
use Rattle.px_jpeg.specs.Pieces.{range}
use Rattle.px_xmp.specs.Accepted.{PacketFits}
use Rattle.px_xmp.specs.Laws.{IsFormOfPacket}
use Rattle.px_xmp_pictures.specs.Counts.{unjoined, IfLeft}
use Rattle.px_xmp_pictures.proofs.LeftLaws.{refused_fits}
use Rattle.px_xmp_pictures.proofs.joining.packet_form.Goals as goal

pub returns-clause-form : goal.returns-clause-form
returns-clause-form c =
    subst (λ (z : List ℕ). IsFormOfPacket z c.in_ok-form.form.items)
    (c.range.ensures ∙ ap (λ (z : List ℕ). range z c.args.start c.args.size) c.bytes.ensures) c.in_ok-form.ensures.form

pub returns-in_err-form-clause-left : goal.returns-in_err-form-clause-left
returns-in_err-form-clause-left c =
    let p = err_from_is_err_and c.from_residual.result c.from_residual.ensures.1 in
    rw (p.1, p.2) (subst (λ (z : List ℕ). IfLeft {X = ⊤} (Err (unjoined c.in_err-form.field-0.0)) (PacketFits z → ⊥))
    (c.range.ensures ∙ ap (λ (z : List ℕ). range z c.args.start c.args.size) c.bytes.ensures)
    (refused_fits ⊤ ⊤ c.in_err-form.field-0.0 c.range.result.now c.in_err-form.ensures.accepts))
